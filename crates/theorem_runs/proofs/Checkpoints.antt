-- One checkpoint at a time: every event keeps it.
use Rattle.std.proofs.Common.{◌≡◌, ℕ, ◌+◌, ◌&&◌, not, Bool, true, false, List, [], ◌∷◌, ◌++◌, append-nil, append_assoc, map, Option, None, Some, is_some, refl, sym, ap, subst, ◌∙◌, true≢false}
use Rattle.std.specs.Prelude.{IsSome, if◌then◌else◌}
use Rattle.std.specs.List.{AllByRecursion, flat_map, enumerate_from}
use Rattle.std.proofs.lemmas.Bool.{and_parts, cond-true}
use Rattle.std.proofs.lemmas.List.Elements.{filter_map-append}
use Rattle.inet_frame.specs.Counted.{counted, tcp_in}
use Rattle.tcp_track.specs.Lines.{Item, line, order, segment_of, sent_of}
use Rattle.tcp_track.specs.declared.openings.Opening.{Opening}
use Rattle.settle_rules.specs.Numbers.{KeptNumber}
use Rattle.settle_rules.specs.Progress.{ProgressTable}
use Rattle.frame_mirror.specs.declared.ring.Waiting.{Waiting}
use Rattle.colo_wire.specs.declared.messages.Message.{Message}
use Rattle.colo_wire.specs.declared.messages.Message.TheVariants.{Frame, Number, Begin, State, Page, Disk, Write, Held, Bytes, End, Known, Sent, Ack}
use Rattle.colo_wire.specs.declared.messages.Message.TheVariants as message
use Rattle.checkpoint_form.specs.Inbox.{held_message, inbox_messages}
use Rattle.checkpoint_form.specs.Rows.{bytes_together, row_bytes}
use Rattle.checkpoint_form.specs.State.{disk_message, disk_messages, page_messages, sectors_together}
use Rattle.settle_rules.specs.Pieces.{pieces_of}
use Rattle.inet_frame.specs.Fields.{TcpFields}
use Rattle.replay_log.specs.declared.lines.Line.{Line}
use Rattle.replay_log.specs.declared.lines.Line.TheVariants.{Primary, Secondary, ToPrimary, Report}
use Rattle.replay_log.specs.declared.records.Answer.{Answer}
use Rattle.replay_log.specs.declared.records.Answer.TheVariants.{HeardBack, Made, Reported}
use Rattle.replay_log.specs.declared.records.Mark.{Mark}
use Rattle.replay_log.specs.declared.records.Mark.TheVariants.{Acknowledged}
use Rattle.pair_theorem.specs.Checkpoint.{capture, checkpoint_messages, row_messages}
use Rattle.pair_theorem.specs.ClientFrames.{trim_items, trims_by}
use Rattle.pair_theorem.specs.Events.{accept_by, acknowledge, counted_frames, hear_end, hear_frame, hear_number, is_ack_message, lose_links, number_message, numbers_of, passed_frame, primary_hears, secondary_hears, secondary_survives, turn_secondary}
use Rattle.pair_theorem.specs.GuestTurns.{TurnMade, turn_from}
use Rattle.pair_theorem.specs.Messages.{frame_message, waiting_in}
use Rattle.pair_theorem.specs.Past.{Copy, Past, Start, Step, Stop, primary_stop, secondary_stop, is_primary_stop, secondary_releases}
use Rattle.pair_theorem.proofs.EachHistory.{Keeps, Reached, each_history}
use Rattle.pair_theorem.proofs.EventCases.{Cases}
use Rattle.pair_theorem.proofs.MessageCases.{heard_back_case, heard_case, is_foreign, stays_apart}
use Rattle.theorem_runs.specs.Links.{IsBeside, IsCalm, IsComing, IsFrameMessage, IsGoing, IsPart, IsReply, OneCheckpoint, calm, coming, copied_parts, going, put}
use Rattle.theorem_runs.proofs.ListFacts.{all_append, all_flat_map, all_if, all_map, all_weaken, heads_same, tails_same}
use Rattle.theorem_runs.proofs.Settled.{Caused, Uncaused, ack_settled, known_base, known_settled, left_settled, primary_base, primary_settled, secondary_base, sent_base, sent_settled, survivor_settled, told_past}

-- WHAT IS IN A CHECKPOINT
pub parts_are : (copy : Copy) (e : ℕ) → AllByRecursion IsPart (copied_parts copy e)
unfolding copied_parts row_messages
parts_are copy e =
    let state = copy.run.run.state in
    let rows = flat_map (row_messages copy.run.items copy.numbers) (order copy.run.items) in
    let memory = page_messages state.pages ++ disk_messages state.sectors in (
      tt,
      (
        tt,
        all_append IsPart (memory ++ inbox_messages copy.inbox) rows
            (all_append IsPart memory (inbox_messages copy.inbox)
            (all_append IsPart (page_messages state.pages) (disk_messages state.sectors)
            (all_map IsPart (λ (x : ℕ × List ℕ). Page x.0 x.1) (enumerate_from 0 state.pages) (λ x. tt))
            (all_map IsPart disk_message (enumerate_from 0 (pieces_of sectors_together state.sectors)) (λ x. tt)))
            (all_map IsPart held_message copy.inbox (λ w. tt)))
            (all_flat_map IsPart (row_messages copy.run.items copy.numbers) (order copy.run.items)
            (λ t. (tt, all_map IsPart Bytes (pieces_of bytes_together (row_bytes (line t copy.run.items))) (λ b. tt)))),
      ),
    )

-- A SETTLING AND A CAPTURE, where no checkpoint is on its way
calm_told : (past : Past) (ns : List KeptNumber) (ps : ProgressTable) (new : List KeptNumber) → IsCalm past
    → IsCalm (told_past past ns ps new)
calm_told past ns ps new h = record {
  awaits = h.awaits;
  down = all_if IsBeside past.is_reported past.to_secondary (past.to_secondary ++ map number_message new) h.down
      (all_append IsBeside past.to_secondary (map number_message new) h.down
      (all_map IsBeside number_message new (λ k. tt)));
  up = h.up;
}

calm_captures : (past : Past) → IsCalm past → OneCheckpoint (capture past)
unfolding capture checkpoint_messages copied_parts
calm_captures past h =
    let p = capture past in
    put past.to_secondary [] (record {
      awaits = refl;
      down = refl;
      whole = refl;
      parts = parts_are p.copy p.captures;
      earlier = h.down;
      frames = tt;
      up = h.up;
    })

-- where none is awaited the links are calm
pub calm_of : (past : Past) → OneCheckpoint past → past.awaits_ack ≡ false → IsCalm past
calm_of past (calm h) e = h
calm_of past (put before later h) e = absurd (true≢false (sym h.awaits ∙ e))
calm_of past (going told rest later h) e = absurd (true≢false (sym h.awaits ∙ e))
calm_of past (coming before later h) e = absurd (true≢false (sym h.awaits ∙ e))

-- WHAT IS ADDED to the links
pub record SameSide (old new : Past) : Type 0 where
  pub awaits : new.awaits_ack ≡ old.awaits_ack
  pub captures : new.captures ≡ old.captures
  pub copy : new.copy ≡ old.copy

pub beside_frame : (m : Message) → IsFrameMessage m → IsBeside m
beside_frame (Frame index seen trim frame) h = tt
beside_frame (Number t client number) h = absurd h
beside_frame (Begin e) h = absurd h
beside_frame (State bytes) h = absurd h
beside_frame (Page k bytes) h = absurd h
beside_frame (Disk first bytes) h = absurd h
beside_frame (Write k bytes) h = absurd h
beside_frame (Held index seen trim frame) h = absurd h
beside_frame (message.Line t mac flags client own number refused acked window mss base) h = absurd h
beside_frame (Bytes bytes) h = absurd h
beside_frame (End e) h = absurd h
beside_frame (Known t client number) h = absurd h
beside_frame (Sent frame) h = absurd h
beside_frame (Ack e) h = absurd h

pub beside_frames : (ms : List Message) → AllByRecursion IsFrameMessage ms → AllByRecursion IsBeside ms
beside_frames ms h = all_weaken IsFrameMessage IsBeside ms beside_frame h

-- the link down, with frames behind
more_down : (old new : Past) (before rest later down : List Message) → SameSide old new
    → new.to_secondary ≡ old.to_secondary ++ down
    → old.to_secondary ≡ before ++ (rest ++ End old.captures ∷ later)
    → new.to_secondary ≡ before ++ (rest ++ End new.captures ∷ (later ++ down))
more_down old new before rest later down s d e =
    d ∙ (ap (λ (ms : List Message). ms ++ down) e
    ∙ (append_assoc before (rest ++ End old.captures ∷ later) down
    ∙ (ap (λ (ms : List Message). before ++ ms) (append_assoc rest (End old.captures ∷ later) down)
    ∙ ap (λ (c : ℕ). before ++ (rest ++ End c ∷ (later ++ down))) (sym s.captures))))

more_going : (old new : Past) (before told rest later down up : List Message) → SameSide old new
    → new.to_secondary ≡ old.to_secondary ++ down → new.to_primary ≡ old.to_primary ++ up
    → AllByRecursion IsFrameMessage down → AllByRecursion IsReply up → IsGoing old before told rest later
    → IsGoing new before told rest (later ++ down)
more_going old new before told rest later down up s d u f r h = record {
  awaits = s.awaits ∙ h.awaits;
  down = more_down old new before rest later down s d h.down;
  whole = (λ i. copied_parts (s.copy i) (s.captures i)) ∙ h.whole;
  parts = h.parts;
  earlier = h.earlier;
  frames = all_append IsFrameMessage later down h.frames f;
  up = subst (λ (ms : List Message). AllByRecursion IsReply ms) (sym u) (all_append IsReply old.to_primary up h.up r);
}

-- frames for the secondary, and replies for the primary
pub more_links : (old new : Past) (down up : List Message) → SameSide old new
    → new.to_secondary ≡ old.to_secondary ++ down → new.to_primary ≡ old.to_primary ++ up
    → AllByRecursion IsFrameMessage down → AllByRecursion IsReply up → OneCheckpoint old → OneCheckpoint new
more_links old new down up s d u f r (calm h) = calm (record {
  awaits = s.awaits ∙ h.awaits;
  down = subst (λ (ms : List Message). AllByRecursion IsBeside ms) (sym d)
      (all_append IsBeside old.to_secondary down h.down (beside_frames down f));
  up = subst (λ (ms : List Message). AllByRecursion IsReply ms) (sym u) (all_append IsReply old.to_primary up h.up r);
})
more_links old new down up s d u f r (put before later h) =
    put before (later ++ down)
    (subst (λ (parts : List Message). IsGoing new before [] parts (later ++ down))
    (λ i. copied_parts (sym s.copy i) (sym s.captures i))
    (more_going old new before [] (copied_parts old.copy old.captures) later down up s d u f r h))
more_links old new down up s d u f r (going told rest later h) =
    going told rest (later ++ down) (more_going old new [] told rest later down up s d u f r h)
more_links old new down up s d u f r (coming before later h) =
    coming before (later ++ up) (record {
      awaits = s.awaits ∙ h.awaits;
      up = u ∙ (ap (λ (ms : List Message). ms ++ up) h.up ∙ (append_assoc before (Ack old.captures ∷ later) up
          ∙ ap (λ (c : ℕ). before ++ Ack c ∷ (later ++ up)) (sym s.captures)));
      replies = h.replies;
      behind = all_append IsReply later up h.behind r;
      down = subst (λ (ms : List Message). AllByRecursion IsFrameMessage ms) (sym d)
          (all_append IsFrameMessage old.to_secondary down h.down f);
    })

-- nothing is added
pub same_links : (old new : Past) → SameSide old new → new.to_secondary ≡ old.to_secondary
    → new.to_primary ≡ old.to_primary → OneCheckpoint old → OneCheckpoint new
same_links old new s d u h =
    more_links old new [] [] s (d ∙ sym (append-nil old.to_secondary)) (u ∙ sym (append-nil old.to_primary)) tt tt h

more_up : (old new : Past) (up : List Message) → SameSide old new → new.to_secondary ≡ old.to_secondary
    → new.to_primary ≡ old.to_primary ++ up → AllByRecursion IsReply up → OneCheckpoint old → OneCheckpoint new
more_up old new up s d u r h = more_links old new [] up s (d ∙ sym (append-nil old.to_secondary)) u tt r h

-- A SECONDARY'S TURN
sent_replies : (frames : List (List ℕ)) → AllByRecursion IsReply (map Sent (counted_frames frames))
sent_replies [] = tt
sent_replies (f ∷ frames) = by (counted f) refl (sent_replies frames)
  where
    by : (o : Option TcpFields) → counted f ≡ o → AllByRecursion IsReply (map Sent (counted_frames frames))
        → AllByRecursion IsReply (map Sent (if is_some o then f ∷ counted_frames frames else counted_frames frames))
    by None e rest = rest
    by (Some s) e rest = (subst (λ (o : Option TcpFields). IsSome o) (sym e) refl, rest)

-- A CLIENT'S FRAME
trims_say_nothing : (w : Waiting) → sent_of (trims_by w) ≡ []
unfolding trims_by
trims_say_nothing w = by (tcp_in w.frame) w.seen
  where
    by : (s : Option TcpFields) (seen : Option Opening) → sent_of (trim_items s seen w.trim) ≡ []
    by None seen = refl
    by (Some s) None = refl
    by (Some s) (Some o) = refl

pub sent_of-trims : (items : List Item) (w : Waiting) → sent_of (items ++ trims_by w) ≡ sent_of items
sent_of-trims items w =
    filter_map-append segment_of items (trims_by w)
    ∙ (ap (λ (xs : List TcpFields). sent_of items ++ xs) (trims_say_nothing w) ∙ append-nil (sent_of items))

accept_links : (b : Bool) (past : Past) (w : Waiting) → OneCheckpoint past
    → OneCheckpoint (accept_by b past w (trims_by w))
unfolding accept_by
accept_links true past w h =
    same_links past (accept_by true past w (trims_by w)) (record { awaits = refl; captures = refl; copy = refl })
    refl refl h
accept_links false past w h = by past.is_reported refl
  where
    after : List Message → Past
    after ms = record past {
      next = past.next + 1;
      primary = record past.primary { items = past.primary.items ++ trims_by w };
      primary_inbox = past.primary_inbox ++ w ∷ [];
      known_items = if past.is_reported then past.known_items else past.known_items ++ trims_by w;
      to_secondary = ms;
    }

    same : (ms : List Message) → SameSide past (after ms)
    same ms = record { awaits = refl; captures = refl; copy = refl }

    by : (b : Bool) → past.is_reported ≡ b
        → OneCheckpoint (after (if b then past.to_secondary else past.to_secondary ++ frame_message w ∷ []))
    by true e = same_links past (after past.to_secondary) (same past.to_secondary) refl refl h
    by false e =
        more_links past (after (past.to_secondary ++ frame_message w ∷ [])) (frame_message w ∷ []) []
        (same (past.to_secondary ++ frame_message w ∷ [])) refl (sym (append-nil past.to_primary)) (tt, tt) tt h

-- THE SECONDARY HEARS a message: one beside a checkpoint, a part of one, or its End
pub data HeardFirst (past : Past) (m : Message) (ms : List Message) : Type 0 where
  beside : IsBeside m → OneCheckpoint (record past { to_secondary = ms }) → HeardFirst past m ms
  part : IsPart m → OneCheckpoint (record past { to_secondary = ms }) → HeardFirst past m ms
  ends : (told later : List Message) → m ≡ End past.captures → ms ≡ later → IsGoing past [] told [] later
      → HeardFirst past m ms

pop_going : (past : Past) (m : Message) (ms told rest later : List Message) → past.to_secondary ≡ m ∷ ms
    → IsGoing past [] told rest later → HeardFirst past m ms
pop_going past m ms told [] later e h =
    let d = sym e ∙ h.down in
    ends told later (heads_same m (End past.captures) ms later d) (tails_same m (End past.captures) ms later d) h
pop_going past m ms told (p ∷ rest) later e h =
    let d = sym e ∙ h.down in
    let same = heads_same m p ms (rest ++ End past.captures ∷ later) d in
    part (subst IsPart (sym same) h.parts.0)
    (going (told ++ p ∷ []) rest later (record {
      awaits = h.awaits;
      down = tails_same m p ms (rest ++ End past.captures ∷ later) d;
      whole = h.whole ∙ sym (append_assoc told (p ∷ []) rest);
      parts = h.parts.1;
      earlier = tt;
      frames = h.frames;
      up = h.up;
    }))

pub pop_down : (past : Past) (m : Message) (ms : List Message) → past.to_secondary ≡ m ∷ ms → OneCheckpoint past
    → HeardFirst past m ms
pop_down past m ms e (calm h) =
    let all = subst (λ (xs : List Message). AllByRecursion IsBeside xs) e h.down in
    beside all.0 (calm (record { awaits = h.awaits; down = all.1; up = h.up }))
pop_down past m ms e (put [] later h) = pop_going past m ms [] (copied_parts past.copy past.captures) later e h
pop_down past m ms e (put (b ∷ before) later h) =
    let rest = copied_parts past.copy past.captures ++ End past.captures ∷ later in
    let d = sym e ∙ h.down in
    beside (subst IsBeside (sym (heads_same m b ms (before ++ rest) d)) h.earlier.0)
    (put before later (record {
      awaits = h.awaits;
      down = tails_same m b ms (before ++ rest) d;
      whole = h.whole;
      parts = h.parts;
      earlier = h.earlier.1;
      frames = h.frames;
      up = h.up;
    }))
pop_down past m ms e (going told rest later h) = pop_going past m ms told rest later e h
pop_down past m ms e (coming before later h) =
    let all = subst (λ (xs : List Message). AllByRecursion IsFrameMessage xs) e h.down in
    beside (beside_frame m all.0) (coming before later (record {
      awaits = h.awaits;
      up = h.up;
      replies = h.replies;
      behind = h.behind;
      down = all.1;
    }))

pub number_in_end : (k n : ℕ) → End k ≡ End n → k ≡ n
number_in_end k n e = ap number_of_end e
  where
    number_of_end : Message → ℕ
    number_of_end (End m) = m
    number_of_end _ = 0

secondary_links : (past : Past) (m : Message) (ms : List Message) → HeardFirst past m ms
    → OneCheckpoint (secondary_hears (record past { to_secondary = ms }) m).after
unfolding hear_frame
secondary_links past m ms h =
    let p : Past = record past { to_secondary = ms } in
    heard_case (λ o. OneCheckpoint o.after) p m
    (λ index seen trim frame is. by_beside m (Frame index seen trim frame) is tt h
    (λ one. same_links p (hear_frame p (waiting_in index seen trim frame))
    (record { awaits = refl; captures = refl; copy = refl }) refl refl one))
    (λ t client number is. by_beside m (Number t client number) is tt h
    (λ one. more_up p (hear_number p t client number) _ (record { awaits = refl; captures = refl; copy = refl })
    refl refl (tt, tt) one))
    (λ n is. by_end n is h)
    (λ apart. by_apart apart h)
  where
    p : Past
    p = record past { to_secondary = ms }

    by_beside : (m n : Message) → m ≡ n → IsBeside n → HeardFirst past m ms → {X : Type 0} → (OneCheckpoint p → X) → X
    by_beside m n is b (beside g one) f = f one
    by_beside m n is b (part g one) f = f one
    by_beside m n is b (ends told later same end g) f = absurd (subst IsBeside (sym is ∙ same) b)

    by_end : (n : ℕ) → m ≡ End n → HeardFirst past m ms → OneCheckpoint (hear_end p n)
    by_end n is (beside g one) = absurd (subst IsBeside is g)
    by_end n is (part g one) = absurd (subst IsPart is g)
    by_end n is (ends told later same end g) =
        subst (λ (k : ℕ). OneCheckpoint (hear_end p k)) (number_in_end past.captures n (sym same ∙ is))
        (coming past.to_primary [] (record {
          awaits = g.awaits;
          up = refl;
          replies = g.up;
          behind = tt;
          down = subst (λ (xs : List Message). AllByRecursion IsFrameMessage xs) (sym end) g.frames;
        }))

    by_apart : stays_apart m ≡ true → HeardFirst past m ms → OneCheckpoint p
    by_apart apart (beside g one) = one
    by_apart apart (part g one) = one
    by_apart apart (ends told later same end g) = absurd (true≢false (sym apart ∙ ap stays_apart same))

-- THE PRIMARY HEARS a reply, or the acknowledgement
pub data HeardBackFirst (past : Past) (m : Message) (ms : List Message) : Type 0 where
  replies : IsReply m → OneCheckpoint (record past { to_primary = ms }) → HeardBackFirst past m ms
  acks : m ≡ Ack past.captures → IsComing past [] ms → HeardBackFirst past m ms

pub pop_up : (past : Past) (m : Message) (ms : List Message) → past.to_primary ≡ m ∷ ms → OneCheckpoint past
    → HeardBackFirst past m ms
pop_up past m ms e (calm h) =
    let all = subst (λ (xs : List Message). AllByRecursion IsReply xs) e h.up in
    replies all.0 (calm (record { awaits = h.awaits; down = h.down; up = all.1 }))
pop_up past m ms e (put before later h) =
    let all = subst (λ (xs : List Message). AllByRecursion IsReply xs) e h.up in
    replies all.0 (put before later (record {
      awaits = h.awaits;
      down = h.down;
      whole = h.whole;
      parts = h.parts;
      earlier = h.earlier;
      frames = h.frames;
      up = all.1;
    }))
pop_up past m ms e (going told rest later h) =
    let all = subst (λ (xs : List Message). AllByRecursion IsReply xs) e h.up in
    replies all.0 (going told rest later (record {
      awaits = h.awaits;
      down = h.down;
      whole = h.whole;
      parts = h.parts;
      earlier = h.earlier;
      frames = h.frames;
      up = all.1;
    }))
pop_up past m ms e (coming [] later h) =
    let d = sym e ∙ h.up in
    acks (heads_same m (Ack past.captures) ms later d)
    (subst (λ (xs : List Message). IsComing past [] xs) (sym (tails_same m (Ack past.captures) ms later d)) h)
pop_up past m ms e (coming (b ∷ before) later h) =
    let d = sym e ∙ h.up in
    let rest = before ++ Ack past.captures ∷ later in
    replies (subst IsReply (sym (heads_same m b ms rest d)) h.replies.0)
    (coming before later (record {
      awaits = h.awaits;
      up = tails_same m b ms rest d;
      replies = h.replies.1;
      behind = h.behind;
      down = h.down;
    }))

ignored_links : (past : Past) (m : Message) (ms : List Message) → is_ack_message m ≡ false → HeardBackFirst past m ms
    → OneCheckpoint (record past { to_primary = ms })
ignored_links past m ms e (replies g one) = one
ignored_links past m ms e (acks same g) = absurd (true≢false (sym (ap is_ack_message same) ∙ e))

-- what is no acknowledgement is heard where none is awaited
pub not_awaiting : (past : Past) (m n : Message) → (past.awaits_ack && not (is_ack_message m)) ≡ false → m ≡ n
    → is_ack_message n ≡ false → past.awaits_ack ≡ false
not_awaiting past m n e is f = by past.awaits_ack (is_ack_message m) e (ap is_ack_message is ∙ f)
  where
    by : (b c : Bool) → (b && not c) ≡ false → c ≡ false → b ≡ false
    by true true e f = absurd (true≢false f)
    by true false e f = e
    by false c e f = refl

pub acknowledged_calm : (past : Past) (ms : List Message) → IsComing past [] ms
    → IsCalm (acknowledge (record past { to_primary = ms }))
acknowledged_calm past ms h =
    record { awaits = refl; down = beside_frames past.to_secondary h.down; up = h.behind }

-- what settles where no checkpoint is on its way
abbrev pub SettlesOne : Past → Line → List Mark → Option Message → (ℕ → Answer) → Type 0
SettlesOne base x marks delivered answer =
    Uncaused (λ step after. OneCheckpoint after) x marks delivered answer base
    × Caused (λ step after. OneCheckpoint after) x marks delivered answer base

pub settles_one : (base : Past) (x : Line) (marks : List Mark) (delivered : Option Message) (answer : ℕ → Answer)
    → IsCalm base → SettlesOne base x marks delivered answer
settles_one base x marks delivered answer h = (
  λ out ns ps new. calm (calm_told base ns ps new h),
  λ out ns ps new why alone. calm_captures (told_past base ns ps new) (calm_told base ns ps new h),
)

pub reply_one : (past : Past) (m n : Message) (ms : List Message) → m ≡ n → is_ack_message n ≡ false
    → HeardBackFirst past m ms → OneCheckpoint (record past { to_primary = ms })
reply_one past m n ms is a (replies g one) = one
reply_one past m n ms is a (acks same g) =
    absurd (true≢false (sym (ap is_ack_message same) ∙ (ap is_ack_message is ∙ a)))

-- no checkpoint is on its way where the primary hears what is no acknowledgement, nor once it hears that
pub reply_calm : (past : Past) (m n : Message) (ms : List Message) → m ≡ n → is_ack_message n ≡ false
    → (past.awaits_ack && not (is_ack_message m)) ≡ false → HeardBackFirst past m ms
    → IsCalm (record past { to_primary = ms })
reply_calm past m n ms is a idle h =
    calm_of (record past { to_primary = ms }) (reply_one past m n ms is a h) (not_awaiting past m n idle is a)

pub ack_calm : (past : Past) (m : Message) (n : ℕ) (ms : List Message) → m ≡ Ack n → HeardBackFirst past m ms
    → IsCalm (acknowledge (record past { to_primary = ms }))
ack_calm past m n ms is (replies g one) = absurd (subst IsReply is g)
ack_calm past m n ms is (acks same g) = acknowledged_calm past ms g

primary_links : (past : Past) (m : Message) (ms : List Message)
    → (past.awaits_ack && not (is_ack_message m)) ≡ false → HeardBackFirst past m ms
    → OneCheckpoint (primary_hears (record past { to_primary = ms }) m).after
primary_links past m ms idle h =
    heard_back_case (λ o. OneCheckpoint o.after) p m
    (λ t client number is. let c = reply_calm past m (Known t client number) ms is refl idle h in
    let both = settles_one (known_base p t client number) ToPrimary [] (Some (Known t client number))
    (HeardBack 12 past.sent_heard) (record { awaits = c.awaits; down = c.down; up = c.up }) in
    known_settled (λ step after. OneCheckpoint after) p t client number past.sent_heard both.0 both.1)
    (λ frame is. let c = reply_calm past m (Sent frame) ms is refl idle h in
    let both = settles_one (sent_base p frame) ToPrimary [] (Some (Sent frame)) (HeardBack 13 (past.sent_heard + 1))
    (record { awaits = c.awaits; down = c.down; up = c.up }) in
    sent_settled (λ step after. OneCheckpoint after) p frame (past.sent_heard + 1) both.0 both.1)
    (λ n is. let both = settles_one (acknowledge p) ToPrimary (Acknowledged n ∷ []) (Some (Ack n)) (HeardBack 14 0)
    (ack_calm past m n ms is h) in
    ack_settled (λ step after. OneCheckpoint after) p n both.0 both.1)
    (λ foreign. by_foreign foreign h)
  where
    p : Past
    p = record past { to_primary = ms }

    by_foreign : is_foreign m ≡ true → HeardBackFirst past m ms → OneCheckpoint p
    by_foreign f (replies g one) = one
    by_foreign f (acks same g) = absurd (true≢false (sym f ∙ ap is_foreign same))

-- EVERY EVENT
abbrev pub Links : List Step → Past → Type 0
Links steps past = OneCheckpoint past

turned_calm : (past : Past) (made : TurnMade) → IsCalm past → IsCalm (primary_base past made)
turned_calm past made h = record { awaits = h.awaits; down = h.down; up = h.up }

passed_links : (past : Past) → OneCheckpoint past → OneCheckpoint (passed_frame past)
passed_links past h =
    same_links past (passed_frame past) (record { awaits = refl; captures = refl; copy = refl }) refl refl h

stopped_links : (past : Past) (stop : Stop) → OneCheckpoint past → OneCheckpoint (record past { stop = stop })
stopped_links past stop h =
    same_links past (record past { stop = stop }) (record { awaits = refl; captures = refl; copy = refl }) refl refl h

turned_secondary : (past : Past) (d : ℕ) (i : Bool) (b n : ℕ) (made : TurnMade) → OneCheckpoint past
    → OneCheckpoint (turn_secondary past (Secondary d i b n) made).after
unfolding turn_secondary
turned_secondary past d i b n made h =
    more_up past (turn_secondary past (Secondary d i b n) made).after (map Sent (counted_frames made.output))
    (record { awaits = refl; captures = refl; copy = refl }) refl refl (sent_replies made.output) h

survivor_reported : (past : Past) → secondary_releases past ≡ true → past.is_reported ≡ true
survivor_reported past e = (and_parts (is_primary_stop past.stop) past.is_reported e).1

link_cases : (F : Past → Line → Type 0) (a : Start) → Cases a.kind a.stream (Keeps F a Links)
unfolding secondary_survives
link_cases F a = record {
  idle = λ past x e f steps r fits h. h;
  primary_turn =
      λ past d i b n e f steps r fits h.
      let made = turn_from a.kind past.primary past.primary_inbox i (numbers_of d b n) in
      let both = settles_one (primary_base past made) (Primary d i b n) [] None (Made made.index)
      (turned_calm past made (calm_of past h f)) in
      primary_settled (λ step after. OneCheckpoint after) past d i b n made both.0 both.1;
  secondary_turn =
      λ past d i b n e f steps r fits h. turned_secondary past d i b n
      (turn_from a.kind past.secondary past.secondary_inbox i (numbers_of d b n)) h;
  survivor_turn =
      λ past d i b n e steps r fits h.
      let made = turn_from a.kind past.secondary past.secondary_inbox i (numbers_of d b n) in
      let reported = survivor_reported past e in
      survivor_settled (λ step after. OneCheckpoint after) past d i b n made
      (λ out ns ps new. same_links past (told_past (secondary_base past made) ns ps new)
      (record { awaits = refl; captures = refl; copy = refl })
      (cond-true past.is_reported past.to_secondary (past.to_secondary ++ map number_message new) reported) refl h)
      (λ out ns ps new why alone. absurd (true≢false (sym reported ∙ alone)));
  accepts =
      λ past frame kept t e f steps r fits h. accept_links (is_primary_stop past.stop) past _ h;
  is_full = λ past frame kept t e f steps r fits h. passed_links past h;
  answers = λ past frame b t e steps r fits h. passed_links past h;
  drops = λ past frame why t e steps r fits h. passed_links past h;
  loses = λ past frame t e f steps r fits h. passed_links past h;
  secondary_hears = λ past m ms e f g steps r fits h. secondary_links past m ms (pop_down past m ms e h);
  ignores = λ past m ms e f g running alone steps r fits h. ignored_links past m ms f (pop_up past m ms e h);
  primary_hears = λ past m ms e f running alone steps r fits h. primary_links past m ms f (pop_up past m ms e h);
  primary_stops = λ past steps r fits h. stopped_links past primary_stop h;
  secondary_stops = λ past steps r fits h. stopped_links past secondary_stop h;
  secondary_left = λ past e steps r fits h. calm (record { awaits = refl; down = tt; up = tt });
  primary_left =
      λ past e steps r fits h. left_settled (λ step after. OneCheckpoint after) past
      (settles_one (lose_links past) Report [] None Reported (record { awaits = refl; down = tt; up = tt })).0;
  asks = λ past e f g steps r fits h. calm_captures past (calm_of past h e);
}

pub one_checkpoint : (F : Past → Line → Type 0) (a : Start) (steps : List Step) (past : Past) → Reached F a steps past
    → OneCheckpoint past
one_checkpoint F a = each_history F a Links (calm (record { awaits = refl; down = tt; up = tt })) (link_cases F a)
