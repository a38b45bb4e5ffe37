-- What a secondary holds is what its last checkpoint's messages spelled, and what came since its end.
use Rattle.std.proofs.Common.{◌≡◌, ℕ, Bool, true, false, List, [], ◌∷◌, ◌++◌, map, Option, None, Some, refl, sym, ap, ◌∙◌}
use Rattle.std.specs.Prelude.{if◌then◌else◌, fold, option_to_list, ⊤}
use Rattle.std.specs.List.{flat_map}
use Rattle.std.proofs.lemmas.Bool.{false≢true}
use Rattle.std.proofs.lemmas.List.{append-nil, append_assoc}
use Rattle.std.proofs.lemmas.List.Sums.{fold-append, fold_push}
use Rattle.inet_frame.specs.Counted.{tcp_in}
use Rattle.inet_frame.specs.Fields.{TcpFields}
use Rattle.inet_frame.specs.declared.tuple.Tuple.{Tuple}
use Rattle.tcp_track.specs.Laws.{call_after, takes}
use Rattle.tcp_track.specs.Laws as track
use Rattle.tcp_track.specs.Tracking.{Tracking, taken}
use Rattle.tcp_track.specs.declared.openings.Opening.{Opening}
use Rattle.seq_rewriter.specs.Kept.{KeptNumbers, keep_number, numbers_after, opened}
use Rattle.seq_rewriter.specs.Kept as kept
use Rattle.frame_mirror.specs.Accepted.{entry_of}
use Rattle.frame_mirror.specs.Inboxes.{has_room}
use Rattle.frame_mirror.specs.declared.ring.Waiting.{Waiting}
use Rattle.state_wire.specs.Guest.{GuestState, GuestTurn, Kind, Meaning, sent_in}
use Rattle.state_wire.specs.Run.{Run, run, run_turn}
use Rattle.colo_wire.specs.declared.messages.Message.{Message}
use Rattle.colo_wire.specs.declared.messages.Message.TheVariants.{Frame, Number, Begin, State, Page, Disk, Write, Held, Line, Bytes, End, Known, Sent, Ack}
use Rattle.kept_checkpoint.specs.Kept.{Kept, begin_kept, fits, keep, kept_lines, load_kept}
use Rattle.kept_checkpoint.specs.Spelled.{spell}
use Rattle.kept_checkpoint.proofs.FittingLemmas.{spells_begun, spells_fitting}
use Rattle.out_compare.specs.Comparing.{settle, take_own}
use Rattle.out_compare.specs.Surviving.{survive}
use Rattle.node_parts.specs.Turns.{Turn, left_frames, taken_frame, takes as takes_one}
use Rattle.secondary_laws.specs.Calls.{Call, after_call, after_calls, came, gave, heard, made, reported}
use Rattle.node_secondary.specs.Hearing.{commit, hear, hear_due, hear_frame, hear_number, hear_part, is_due, is_due_at, is_due_begun, is_due_outside, is_due_within, keep_part, next_checkpoint, trim_for, trim_lines, waiting, with_frame}
use Rattle.node_secondary.specs.Node.{Node}
use Rattle.secondary_laws.specs.Since.{IsOutside, Since, StandsSince, StandsSinceTheLastEnd, kept_of, loaded, openings_in, openings_of, since_call, since_calls, since_frame, since_heard, since_opened, since_start, spelled, trims_of, trims_with}
use Rattle.node_secondary.specs.Steps.{followed, gated_for, lone_turn, secondary_turn, settle_alone, survive_as}
use Rattle.node_secondary.specs.Survivor.{Second, Survivor, alone, guest_of, hears, inbox_of}
use Rattle.node_secondary.specs.Turns.{guest_turn, make_turn}
use Rattle.node_secondary.specs.declared.under_way.UnderWay.{UnderWay}
use Rattle.node_secondary.specs.declared.under_way.UnderWay.TheVariants.{Nothing, Begun, Heard}
use Rattle.secondary_laws.proofs.SurvivorLemmas.{gated_lines, gated_numbers, own_lines, own_numbers, survived_numbers}

-- ---- what is kept of the checkpoint that is under way is what its messages spell

record IsSpelledAs (kind : Kind) (k : Kept) (p : Since) : Type 0 where
  guest : (g : Meaning) → load_kept g k ≡ record g { state = spelled g.state p }
  parts : k ≡ kept_of kind p

abbrev IsSpelled : Kind → UnderWay → Since → Type 0
IsSpelled kind Nothing p = ⊤
IsSpelled kind Begun p = ⊤
IsSpelled kind (Heard k) p = IsSpelledAs kind k p

-- a part that is due fits what was kept
abbrev IsFitting : UnderWay → Message → Type 0
IsFitting Nothing m = ⊥
IsFitting Begun m = ⊥
IsFitting (Heard k) m = fits k m ≡ true

part_fits : (kind : Kind) (next : ℕ) (u : UnderWay) (m : Message) → is_due_outside next m ≡ false →
    is_due_begun kind m ≡ false → ((k : Kept) → is_due_within next k m ≡ fits k m) →
    is_due_at kind next u m ≡ true → IsFitting u m
part_fits kind next Nothing m outside begun within h = absurd (false≢true (sym outside ∙ h))
part_fits kind next Begun m outside begun within h = absurd (false≢true (sym begun ∙ h))
part_fits kind next (Heard k) m outside begun within h = sym (within k) ∙ h

part_spelled : (kind : Kind) (u : UnderWay) (p : Since) (m : Message) → IsFitting u m → IsSpelled kind u p →
    IsSpelled kind (keep_part u m) (record p { parts = p.parts ++ m ∷ [] })
part_spelled kind Nothing p m fit h = absurd fit
part_spelled kind Begun p m fit h = absurd fit
part_spelled kind (Heard k) p m fit h = record {
  guest = λ (g : Meaning). spells_fitting g k m fit
      ∙ (ap (λ (x : Meaning). record g { state = spell x.state m }) (h.guest g)
      ∙ ap (λ (x : GuestState). record g { state = x })
      (sym (fold_push spell g.state (State p.bytes ∷ p.parts) m)));
  parts = ap (λ (x : Kept). keep x m) h.parts
      ∙ sym (fold_push keep (begin_kept p.bytes kind.page_count kind.sector_count) p.parts m);
}

-- what isn't of a checkpoint doesn't change what is spelled
same_spelled : (kind : Kind) (u : UnderWay) (p q : Since) → q.bytes ≡ p.bytes → q.parts ≡ p.parts →
    IsSpelled kind u p → IsSpelled kind u q
same_spelled kind Nothing p q b m h = tt
same_spelled kind Begun p q b m h = tt
same_spelled kind (Heard k) p q b m h = record {
  guest = λ (g : Meaning). h.guest g ∙ same_guest g (sym b) (sym m);
  parts = h.parts ∙ same_kept (sym b) (sym m);
}
  where
    same_guest : (g : Meaning) {x y : List ℕ} {xs ys : List Message} → x ≡ y → xs ≡ ys →
        record g { state = fold spell g.state (State x ∷ xs) } ≡ record g { state = fold spell g.state (State y ∷ ys) }
    same_guest g e f = cc

    same_kept : {x y : List ℕ} {xs ys : List Message} → x ≡ y → xs ≡ ys →
        fold keep (begin_kept x kind.page_count kind.sector_count) xs
        ≡ fold keep (begin_kept y kind.page_count kind.sector_count) ys
    same_kept e f = cc

-- ---- what holds of each call

-- a run that goes on
one_more : (k : Kind) (from : GuestState) (turns : List GuestTurn) (t : GuestTurn) →
    (run k (record { state = from; sent = [] }) (turns ++ t ∷ [])).state
    ≡ k.next (run k (record { state = from; sent = [] }) turns).state t
unfolding run
one_more k from turns t =
    let start : Run = record { state = from; sent = [] } in
    ap (λ (r : Run). r.state) (fold_push (run_turn k) start turns t)

-- lines that go on
lines_more : (lines new start : Tracking) (changes more : List track.Call) → lines ≡ fold call_after start changes →
    new ≡ fold call_after lines more → new ≡ fold call_after start (changes ++ more)
lines_more lines new start changes more e h =
    h ∙ (ap (λ (x : Tracking). fold call_after x more) e ∙ sym (fold-append call_after start changes more))

numbers_more : (numbers new start : KeptNumbers) (openings more : List kept.Event) →
    numbers ≡ fold numbers_after start openings → new ≡ fold numbers_after numbers more →
    new ≡ fold numbers_after start (openings ++ more)
numbers_more numbers new start openings more e h =
    h ∙ (ap (λ (x : KeptNumbers). fold numbers_after x more) e ∙ sym (fold-append numbers_after start openings more))

-- frames that come, and one that is taken
come_more : (gone inbox start come new : List Waiting) → gone ++ inbox ≡ start ++ come →
    gone ++ (inbox ++ new) ≡ start ++ (come ++ new)
come_more gone inbox start come new e =
    sym (append_assoc gone inbox new)
    ∙ (ap (λ (ws : List Waiting). ws ++ new) e ∙ append_assoc start come new)

gone_more : (gone inbox rest got left : List Waiting) → gone ++ inbox ≡ rest → got ++ left ≡ inbox →
    (gone ++ got) ++ left ≡ rest
gone_more gone inbox rest got left e h =
    append_assoc gone got left ∙ (ap (λ (ws : List Waiting). gone ++ ws) h ∙ e)

taken_left : (b : Bool) (inbox : List Waiting) →
    option_to_list (taken_frame b inbox) ++ left_frames b inbox ≡ inbox
taken_left false inbox = refl
taken_left true [] = refl
taken_left true (w ∷ inbox) = refl

takes_fold : (lines : Tracking) (sent : List (List ℕ)) → fold taken lines sent ≡ fold call_after lines (map takes sent)
takes_fold lines [] = refl
takes_fold lines (frame ∷ sent) = takes_fold (taken lines frame) sent

-- ---- messages

trims_fold : (lines : Tracking) (w : Waiting) → trim_lines lines w ≡ fold call_after lines (flat_map trims_of (w ∷ []))
trims_fold lines w =
    by w.seen (tcp_in w.frame)
    ∙ ap (λ (cs : List track.Call). fold call_after lines cs) (sym (append-nil (trims_of w)))
  where
    by : (seen : Option Opening) (t : Option TcpFields) →
        trim_for lines seen w.trim t ≡ fold call_after lines (trims_with seen w.trim t)
    by None t = refl
    by (Some seen) None = refl
    by (Some seen) (Some t) = refl

frame_comes : (inbox : List Waiting) (w : Waiting) (gone start come : List Waiting) → gone ++ inbox ≡ start ++ come →
    gone ++ with_frame inbox w ≡ start ++ (come ++ (if has_room inbox then w ∷ [] else []))
frame_comes inbox w gone start come e = by (has_room inbox)
  where
    by : (room : Bool) → gone ++ (if room then inbox ++ w ∷ [] else inbox)
        ≡ start ++ (come ++ (if room then w ∷ [] else []))
    by true = come_more gone inbox start come (w ∷ []) e
    by false = e ∙ ap (λ (ws : List Waiting). start ++ ws) (sym (append-nil come))

-- what was heard of the checkpoint under way; nothing by a node alone
abbrev under_of : Second → UnderWay
under_of (hears n) = n.under_way
under_of (alone n) = Nothing

record Stands (s : Second) (p : Since) : Type 0 where
  since : StandsSince s p
  spells : IsSpelled (guest_of s).kind (under_of s) p

part_stands : (n : Node) (p : Since) (m : Message) → is_due_outside (next_checkpoint n.committed) m ≡ false →
    is_due_begun n.guest.kind m ≡ false →
    ((k : Kept) → is_due_within (next_checkpoint n.committed) k m ≡ fits k m) → is_due n m ≡ true →
    Stands (hears n) p → Stands (hears (hear_part n m)) (record p { parts = p.parts ++ m ∷ [] })
part_stands n p m outside begun within h s = record {
  since = record { state = s.since.state; lines = s.since.lines; numbers = s.since.numbers; inbox = s.since.inbox };
  spells = part_spelled n.guest.kind n.under_way p m
      (part_fits n.guest.kind (next_checkpoint n.committed) n.under_way m outside begun within h) s.spells;
}

commit_stands : (n : Node) (p : Since) (e next : ℕ) (u : UnderWay) → is_due_at n.guest.kind next u (End e) ≡ true →
    IsSpelled n.guest.kind u p → Stands (hears (commit n e u)) (loaded n.guest.state p (kept_of n.guest.kind p))
unfolding load_kept run
commit_stands n p e next Nothing h spells = absurd (false≢true h)
commit_stands n p e next Begun h spells = absurd (false≢true h)
commit_stands n p e next (Heard k) h spells = record {
  since = record {
    state = ap (λ (g : Meaning). g.state) (spells.guest n.guest);
    lines = ap kept_lines spells.parts;
    numbers = ap (λ (x : Kept). x.numbers) spells.parts;
    inbox = ap (λ (x : Kept). x.inbox) spells.parts ∙ sym (append-nil (kept_of n.guest.kind p).inbox);
  };
  spells = tt;
}

frame_stands : (n : Node) (p : Since) (w : Waiting) → Stands (hears n) p →
    Stands (hears (hear_frame n w)) (since_frame p (w ∷ []) (if has_room n.inbox then w ∷ [] else []))
frame_stands n p w s = record {
  since = record {
    state = s.since.state;
    lines = lines_more n.lines (trim_lines n.lines w) p.lines p.changes (flat_map trims_of (w ∷ [])) s.since.lines
        (trims_fold n.lines w);
    numbers = s.since.numbers;
    inbox = frame_comes n.inbox w p.taken p.inbox p.come s.since.inbox;
  };
  spells = same_spelled n.guest.kind n.under_way p
      (since_frame p (w ∷ []) (if has_room n.inbox then w ∷ [] else [])) refl refl s.spells;
}

number_stands : (n : Node) (p : Since) (t : Tuple) (client number : ℕ) → Stands (hears n) p →
    Stands (hears (hear_number n t client number)) (since_opened p (opened t client number ∷ []))
number_stands n p t client number s = record {
  since = record {
    state = s.since.state;
    lines = s.since.lines;
    numbers = numbers_more n.numbers (keep_number n.numbers t client number) p.numbers p.openings
        (opened t client number ∷ []) s.since.numbers refl;
    inbox = s.since.inbox;
  };
  spells = same_spelled n.guest.kind n.under_way p (since_opened p (opened t client number ∷ [])) refl refl s.spells;
}

due_stands : (n : Node) (p : Since) (m : Message) → is_due n m ≡ true → Stands (hears n) p →
    Stands (hears (hear_due n m)) (since_heard n p m)
due_stands n p (Frame index seen trim frame) h s = frame_stands n p (waiting index seen trim frame) s
due_stands n p (Number tuple client number) h s = number_stands n p tuple client number s
due_stands n p (Begin e) h s = record {
  since = record { state = s.since.state; lines = s.since.lines; numbers = s.since.numbers; inbox = s.since.inbox };
  spells = tt;
}
due_stands n p (State bytes) h s = record {
  since = record { state = s.since.state; lines = s.since.lines; numbers = s.since.numbers; inbox = s.since.inbox };
  spells = record {
    guest = λ (g : Meaning). spells_begun g bytes n.guest.kind.page_count n.guest.kind.sector_count;
    parts = refl;
  };
}
due_stands n p (End e) h s = commit_stands n p e (next_checkpoint n.committed) n.under_way h s.spells
due_stands n p (Page k bytes) h s = part_stands n p (Page k bytes) refl refl (λ kept. refl) h s
due_stands n p (Disk first bytes) h s = part_stands n p (Disk first bytes) refl refl (λ kept. refl) h s
due_stands n p (Write k bytes) h s = part_stands n p (Write k bytes) refl refl (λ kept. refl) h s
due_stands n p (Held index seen trim frame) h s =
    part_stands n p (Held index seen trim frame) refl refl (λ kept. refl) h s
due_stands n p (Line tuple mac flags client own number refusal acked window mss base) h s =
    part_stands n p (Line tuple mac flags client own number refusal acked window mss base) refl refl
    (λ kept. refl) h s
due_stands n p (Bytes bytes) h s = part_stands n p (Bytes bytes) refl refl (λ kept. refl) h s
due_stands n p (Known tuple client number) h s =
    part_stands n p (Known tuple client number) refl refl (λ kept. refl) h s
due_stands n p (Sent frame) h s = part_stands n p (Sent frame) refl refl (λ kept. refl) h s
due_stands n p (Ack e) h s = part_stands n p (Ack e) refl refl (λ kept. refl) h s

heard_stands : (n : Node) (p : Since) (m : Message) → Stands (hears n) p →
    Stands (hears (hear n m)) (since_call (hears n) p (heard m))
heard_stands n p m s = by (is_due n m) refl
  where
    by : (b : Bool) → is_due n m ≡ b →
        Stands (hears (if b then hear_due n m else n)) (if b then since_heard n p m else p)
    by true h = due_stands n p m h s
    by false h = s

-- ---- turns, the report, and clients' frames

made_stands : (n : Node) (p : Since) (t : Turn) → Stands (hears n) p →
    Stands (hears (make_turn n t)) (since_call (hears n) p (made t))
unfolding make_turn
made_stands n p t s =
    let sent = sent_in n.guest (guest_turn n t) in
    record {
      since = record {
        state = ap (λ (x : GuestState). n.guest.kind.next x (guest_turn n t)) s.since.state
            ∙ sym (one_more n.guest.kind p.state p.turns (guest_turn n t));
        lines = lines_more n.lines (fold taken n.lines sent) p.lines p.changes (map takes sent) s.since.lines
            (takes_fold n.lines sent);
        numbers = s.since.numbers;
        inbox = gone_more p.taken n.inbox (p.inbox ++ p.come)
            (option_to_list (taken_frame (takes_one n.guest t.wants) n.inbox))
            (left_frames (takes_one n.guest t.wants) n.inbox) s.since.inbox
            (taken_left (takes_one n.guest t.wants) n.inbox);
      };
      spells = same_spelled n.guest.kind n.under_way p (since_call (hears n) p (made t)) refl refl s.spells;
    }

lone_made_stands : (n : Survivor) (p : Since) (t : Turn) → Stands (alone n) p →
    Stands (secondary_turn (alone n) t).after (since_call (alone n) p (made t))
unfolding settle_alone followed settle
lone_made_stands n p t s =
    let sent = sent_in n.guest (lone_turn n t) in
    record {
      since = record {
        state = ap (λ (x : GuestState). n.guest.kind.next x (lone_turn n t)) s.since.state
            ∙ sym (one_more n.guest.kind p.state p.turns (lone_turn n t));
        lines = lines_more n.comparing.mine (fold take_own n.comparing sent).mine p.lines p.changes (map takes sent)
            s.since.lines (own_lines n.comparing sent);
        numbers = numbers_more n.comparing.numbers (fold take_own n.comparing sent).numbers p.numbers p.openings
            (openings_in n.comparing.mine sent) s.since.numbers (own_numbers n.comparing sent);
        inbox = gone_more p.taken n.inbox (p.inbox ++ p.come)
            (option_to_list (taken_frame (takes_one n.guest t.wants) n.inbox))
            (left_frames (takes_one n.guest t.wants) n.inbox) s.since.inbox
            (taken_left (takes_one n.guest t.wants) n.inbox);
      };
      spells = tt;
    }

reported_stands : (n : Node) (p : Since) → Stands (hears n) p →
    Stands (after_call (hears n) reported) (since_call (hears n) p reported)
unfolding survive_as
reported_stands n p s = record {
  since = record {
    state = s.since.state;
    lines = s.since.lines;
    numbers = numbers_more n.numbers (survive n.lines n.numbers).numbers p.numbers p.openings (openings_of n.lines)
        s.since.numbers (survived_numbers n.lines n.numbers);
    inbox = s.since.inbox;
  };
  spells = tt;
}

came_stands : (n : Survivor) (p : Since) (index : ℕ) (frame : List ℕ) → Stands (alone n) p →
    Stands (after_call (alone n) (came index frame)) (since_call (alone n) p (came index frame))
came_stands n p index frame s =
    let g = gated_for n index frame in
    let frames = option_to_list g.waiting in
    record {
      since = record {
        state = s.since.state;
        lines = lines_more n.comparing.mine g.comparing.mine p.lines p.changes (flat_map trims_of frames) s.since.lines
            (gated_lines n.comparing n.inbox index (entry_of frame));
        numbers = gated_numbers n.comparing n.inbox index (entry_of frame) ∙ s.since.numbers;
        inbox = come_more p.taken n.inbox p.inbox p.come frames s.since.inbox;
      };
      spells = tt;
    }

hearing_stands : (n : Node) (p : Since) (call : Call) → Stands (hears n) p →
    Stands (after_call (hears n) call) (since_call (hears n) p call)
hearing_stands n p (heard m) s = heard_stands n p m s
hearing_stands n p (made t) s = made_stands n p t s
hearing_stands n p reported s = reported_stands n p s
hearing_stands n p (came index frame) s = s
hearing_stands n p gave s = record {
  since = record { state = s.since.state; lines = s.since.lines; numbers = s.since.numbers; inbox = s.since.inbox };
  spells = s.spells;
}

alone_stands : (n : Survivor) (p : Since) (call : Call) → Stands (alone n) p →
    Stands (after_call (alone n) call) (since_call (alone n) p call)
alone_stands n p (heard m) s = s
alone_stands n p (made t) s = lone_made_stands n p t s
alone_stands n p reported s = s
alone_stands n p (came index frame) s = came_stands n p index frame s
alone_stands n p gave s = s

call_stands : (s : Second) (p : Since) (call : Call) → Stands s p → Stands (after_call s call) (since_call s p call)
call_stands (hears n) p call s = hearing_stands n p call s
call_stands (alone n) p call s = alone_stands n p call s

calls_stand : (s : Second) (p : Since) (calls : List Call) → Stands s p →
    Stands (after_calls s calls) (since_calls s p calls)
calls_stand s p [] h = h
calls_stand s p (call ∷ calls) h =
    calls_stand (after_call s call) (since_call s p call) calls (call_stands s p call h)

nothing_spelled : (kind : Kind) (u : UnderWay) (p : Since) → u ≡ Nothing → IsSpelled kind u p
nothing_spelled kind Nothing p e = tt
nothing_spelled kind Begun p e = tt
nothing_spelled kind (Heard k) p e = absurd cc

start_spelled : (s : Second) → IsOutside s → IsSpelled (guest_of s).kind (under_of s) (since_start s)
start_spelled (hears n) outside = nothing_spelled n.guest.kind n.under_way (since_start (hears n)) outside
start_spelled (alone n) outside = tt

starts : (s : Second) → StandsSince s (since_start s)
unfolding run
starts s = record { state = refl; lines = refl; numbers = refl; inbox = sym (append-nil (inbox_of s)) }

pub stands_since : StandsSinceTheLastEnd
stands_since s calls outside =
    (calls_stand s (since_start s) calls (record { since = starts s; spells = start_spelled s outside })).since
