-- The secondary hears a message.
use Rattle.std.proofs.Common.{◌≡◌, ℕ, ◌||◌, Bool, true, false, List, [], ◌∷◌, ◌++◌, append-nil, Option, None, Some, unwrap_or, refl, sym, ap, subst, ◌∙◌, true≢false, Ok, Err}
use Rattle.std.specs.Prelude.{if◌then◌else◌}
use Rattle.std.proofs.lemmas.Bool.{cond-true, or_parts}
use Rattle.inet_frame.specs.declared.tuple.Tuple.{Tuple}
use Rattle.tcp_track.specs.Lines.{commit as commit_item}
use Rattle.tcp_track.specs.declared.openings.Opening.{Opening}
use Rattle.settle_rules.specs.Numbers.{keep_number}
use Rattle.state_wire.specs.Guest.{Kind}
use Rattle.node_parts.specs.Counts.{HasCounts}
use Rattle.colo_wire.specs.Kinds.{number_of_kind}
use Rattle.colo_wire.specs.Spelling.{kind_of, message_bytes}
use Rattle.colo_wire.specs.declared.answers.HearFault.TheVariants.{NotDue}
use Rattle.colo_wire.specs.declared.answers.Told.{Told}
use Rattle.colo_wire.specs.declared.messages.Message.{Message}
use Rattle.colo_wire.specs.declared.messages.Message.TheVariants.{Frame, Number, Begin, State, Page, Disk, Write, Held, Bytes, End, Known, Sent, Ack}
use Rattle.colo_wire.specs.declared.messages.Message.TheVariants as message
use Rattle.replay_log.specs.declared.lines.Line.TheVariants.{ToSecondary}
use Rattle.replay_log.specs.declared.records.Answer.TheVariants.{Heard, Nothing}
use Rattle.replay_log.specs.declared.records.Mark.TheVariants.{Committed}
use Rattle.node_secondary.specs.Answers as secondary
use Rattle.node_secondary.specs.Hearing.{commit, commit_by, hear_due, is_due, is_due_at, next_checkpoint, told, told_of}
use Rattle.node_secondary.specs.Node.{Node}
use Rattle.node_secondary.specs.Survivor.{Second, hears}
use Rattle.node_secondary.specs.declared.under_way.UnderWay.{UnderWay}
use Rattle.node_secondary.specs.declared.under_way.UnderWay.TheVariants as heard
use Rattle.pair_core.specs.Events as core
use Rattle.pair_core.specs.Events.{hears_with, secondary_hears}
use Rattle.pair_core.specs.Pair.{Pair, is_secondary, sent_up}
use Rattle.pair_theorem.specs.ClientFrames.{trims_by}
use Rattle.pair_theorem.specs.Events as theirs
use Rattle.pair_theorem.specs.Events.{deliver_down, hear_end, hear_frame, hear_number, is_full, outcome_of}
use Rattle.pair_theorem.specs.LogParts.{delivered_bytes}
use Rattle.pair_theorem.specs.Messages.{number_of, waiting_in}
use Rattle.pair_theorem.specs.Past.{Outcome, Past, is_secondary_stop, quietly, silently, step_with}
use Rattle.pair_theorem.proofs.MessageCases.{heard_case, stays_apart}
use Rattle.settle_history.proofs.NumberLemmas.{numbers_keep}
use Rattle.capture_laws.specs.Ways.{way}
use Rattle.capture_laws.proofs.DueLemmas.{goes_its_way}
use Rattle.theorem_runs.specs.Runs.{IsState}
use Rattle.pair_history.specs.Due.{Commits, CommitsWhole, Due}
use Rattle.pair_history.specs.Standing.{SecondaryStands, Stands, guest_in}
use Rattle.pair_history.proofs.Flags.{both_branches, it_hears, secondary_flag}
use Rattle.pair_history.proofs.Goes.{Goes, idle}
use Rattle.pair_history.proofs.SecondLemmas.{full_is, inbox_heard, known_alike, second_stands, tracks_heard}
use Rattle.pair_history.proofs.Written.{hears_pair, hears_pair_is}

-- A MESSAGE THAT IS DUE
abbrev heard_due : Pair → Node → Message → Node → Told → core.Outcome
heard_due w n m left told_it = record {
  after = sent_up (record w { second = hears left });
  answer = Heard told_it.kind told_it.full;
  marks = core.told_marks told_it;
  released = [];
  wire = core.arrow_down ∷ message_bytes m;
}

due_heard : (w : Pair) (n : Node) (m : Message) → w.second ≡ hears n → is_due n m ≡ true
    → secondary_hears w m ≡ heard_due w n m (hear_due n m) (told_of n m)
unfolding secondary_hears hears_with
due_heard w n m is e =
    ap (λ (s : Second). hears_with w m (secondary.answer_to s (Ok m))) is
    ∙ (ap (λ (a : secondary.Answer). hears_with w m a)
    (cond-true (is_due n m) (Ok (told_of n m)) (Err (NotDue (number_of_kind (kind_of m)))) e)
    ∙ (ap (λ (s : Second). heard_with s) is
    ∙ ap (λ (c : Bool). heard_due w n m (if c then hear_due n m else n) (told_of n m)) e))
  where
    heard_with : Second → core.Outcome
    heard_with s = record {
      after = sent_up (record w { second = secondary.after_reading s (Ok m) });
      answer = Heard (told_of n m).kind (told_of n m).full;
      marks = core.told_marks (told_of n m);
      released = [];
      wire = core.arrow_down ∷ message_bytes m;
    }

-- the secondary, with its guest and inbox by the past
abbrev node_of : Kind → Past → Node → Node
node_of kind past n = record n {
  guest = guest_in kind past.secondary past.secondary_turned;
  inbox = past.secondary_inbox;
  waits = [];
}

-- what the first message on the link finds
record Finds (kind : Kind) (stream : List (List ℕ)) (past : Past) (w : Pair) (n : Node) (m : Message)
    (ms : List Message) : Type 0 where
  pair : Stands kind stream past (hears_pair kind stream past n w)
  together : past.is_reported ≡ false
  stands : SecondaryStands kind past n
  whole : CommitsWhole kind past.copy n.under_way (commit_by m)
  later : Due kind past.copy past.captures (unwrap_or (commit_by m) n.committed) (way kind n.under_way m) ms

-- the pair without the message
abbrev without : Kind → List (List ℕ) → Past → Pair → Node → List Message → Pair
without kind stream past w n ms = record (hears_pair kind stream past n w) { down = ms }

-- what is due later, over the node that heard it
due_later : (kind : Kind) (stream : List (List ℕ)) (past : Past) (w : Pair) (n : Node) (m : Message) (ms : List Message)
    → Finds kind stream past w n m ms
    → Due kind past.copy past.captures (unwrap_or (commit_by m) n.committed)
    (hear_due (node_of kind past n) m).under_way ms
due_later kind stream past w n m ms f =
    subst (λ (u : UnderWay). Due kind past.copy past.captures (unwrap_or (commit_by m) n.committed) u ms)
    (sym (goes_its_way (node_of kind past n) m)) f.later

-- A FRAME
frame_alike : (kind : Kind) (stream : List (List ℕ)) (past : Past) (w : Pair) (n : Node) (index : ℕ)
    (seen : Option Opening) (trim : ℕ) (frame : List ℕ) (ms : List Message)
    → Finds kind stream past w n (Frame index seen trim frame) ms
    → Goes kind stream (silently (hear_frame (record past { to_secondary = ms }) (waiting_in index seen trim frame))
    ToSecondary (Heard 1 (is_full past.secondary_inbox)) (Some (Frame index seen trim frame)))
    (heard_due (without kind stream past w n ms) (node_of kind past n) (Frame index seen trim frame)
    (hear_due (node_of kind past n) (Frame index seen trim frame))
    (told_of (node_of kind past n) (Frame index seen trim frame)))
unfolding hear_frame delivered_bytes
frame_alike kind stream past w n index seen trim frame ms f states rests =
    let x = waiting_in index seen trim frame in
    let m = Frame index seen trim frame in
    record {
      happens = record {
        answer = ap (λ (c : Bool). Heard 1 c) (full_is past.secondary_inbox);
        marks = refl;
        released = refl;
        wire = refl;
      };
      after = second_stands kind stream past (hears_pair kind stream past n w) (hear_due (node_of kind past n) m)
          (record past.secondary { items = past.secondary.items ++ trims_by x }) _ past.secondary_turned
          past.secondary_numbers ms past.to_primary [] f.pair f.together refl (record {
            inbox = inbox_heard past.secondary_inbox x;
            lines = tracks_heard past.secondary.items n.lines x f.stands.lines;
            numbers = f.stands.numbers;
            waits = refl;
            due = due_later kind stream past w n m ms f;
          }) (append-nil past.to_primary);
    }

-- A NUMBER
number_alike : (kind : Kind) (stream : List (List ℕ)) (past : Past) (w : Pair) (n : Node) (t : Tuple)
    (client number : ℕ) (ms : List Message) → Finds kind stream past w n (Number t client number) ms
    → Goes kind stream (silently (hear_number (record past { to_secondary = ms }) t client number)
    ToSecondary (Heard 2 false) (Some (Number t client number)))
    (heard_due (without kind stream past w n ms) (node_of kind past n) (Number t client number)
    (hear_due (node_of kind past n) (Number t client number))
    (told_of (node_of kind past n) (Number t client number)))
unfolding delivered_bytes
number_alike kind stream past w n t client number ms f states rests =
    let m = Number t client number in
    let said = known_alike past.secondary_numbers n.numbers t client number f.stands.numbers in
    record {
      happens = record { answer = refl; marks = refl; released = refl; wire = refl };
      after = second_stands kind stream past (hears_pair kind stream past n w)
          (record (hear_due (node_of kind past n) m) { waits = [] }) past.secondary past.secondary_inbox
          past.secondary_turned (keep_number t client number true past.secondary_numbers) ms _ _ f.pair f.together refl
          (record {
            inbox = refl;
            lines = f.stands.lines;
            numbers = numbers_keep past.secondary_numbers n.numbers t client number true f.stands.numbers;
            waits = refl;
            due = due_later kind stream past w n m ms f;
          }) (ap (λ (k : ℕ). past.to_primary ++ Known t client k ∷ []) said);
    }

-- THE END commits the copy
ended_alike : (kind : Kind) (stream : List (List ℕ)) (past : Past) (w : Pair) (n : Node) (e : ℕ) (u : UnderWay)
    (ms : List Message) → Finds kind stream past w n (End e) ms → n.under_way ≡ u
    → is_due_at kind (next_checkpoint n.committed) u (End e) ≡ true → IsState kind past.secondary.run.state
    → Goes kind stream (quietly (hear_end (record past { to_secondary = ms }) e)
    (step_with ToSecondary (Heard 11 false) (Committed e ∷ []) (Some (End e)) []))
    (heard_due (without kind stream past w n ms) (node_of kind past n) (End e)
    (commit (node_of kind past n) e u) (told_of (node_of kind past n) (End e)))
unfolding delivered_bytes
ended_alike kind stream past w n e heard.Nothing ms f is due state states rests = absurd (true≢false (sym due))
ended_alike kind stream past w n e heard.Begun ms f is due state states rests = absurd (true≢false (sym due))
ended_alike kind stream past w n e (heard.Heard kept) ms f is due state states rests =
    let c : Commits kind past.copy kept = subst (λ (u : UnderWay). CommitsWhole kind past.copy u (Some e)) is f.whole in
    let counts : HasCounts (guest_in kind past.secondary past.secondary_turned) =
    record { pages = state.fits.page_count; sectors = state.fits.sector_count } in
    record {
      happens = record { answer = refl; marks = refl; released = refl; wire = refl };
      after = second_stands kind stream past (hears_pair kind stream past n w)
          (record (commit (node_of kind past n) e (heard.Heard kept)) { waits = [] })
          (record past.copy.run { items = past.copy.run.items ++ commit_item ∷ [] }) past.copy.inbox
          past.secondary_turned past.copy.numbers ms (past.to_primary ++ Ack e ∷ []) (Ack e ∷ []) f.pair f.together
          (c.state (guest_in kind past.secondary past.secondary_turned) refl counts) (record {
            inbox = c.inbox;
            lines = c.lines;
            numbers = c.numbers;
            waits = refl;
            due = subst (λ (u : UnderWay). Due kind past.copy past.captures e (way kind u (End e)) ms) is f.later;
          }) refl;
    }

-- WHAT IS KEPT APART
record Apart (n : Node) (m : Message) : Type 0 where
  left : hear_due n m ≡ record n { under_way = way n.guest.kind n.under_way m }
  told_is : told_of n m ≡ told (number_of_kind (kind_of m)) false None
  none : commit_by m ≡ None

apart : (n : Node) (m : Message) → stays_apart m ≡ true → Apart n m
apart n (Begin k) e = record { left = refl; told_is = refl; none = refl }
apart n (State bytes) e = record { left = refl; told_is = refl; none = refl }
apart n (Page k bytes) e = record { left = refl; told_is = refl; none = refl }
apart n (Disk first bytes) e = record { left = refl; told_is = refl; none = refl }
apart n (Write k bytes) e = record { left = refl; told_is = refl; none = refl }
apart n (Held index seen trim frame) e = record { left = refl; told_is = refl; none = refl }
apart n (message.Line t mac flags client own number refused acked window mss base) e =
    record { left = refl; told_is = refl; none = refl }
apart n (Bytes bytes) e = record { left = refl; told_is = refl; none = refl }
apart n (Known t client number) e = record { left = refl; told_is = refl; none = refl }
apart n (Sent frame) e = record { left = refl; told_is = refl; none = refl }
apart n (Ack k) e = record { left = refl; told_is = refl; none = refl }
apart n (Frame index seen trim frame) e = absurd (true≢false (sym e))
apart n (Number t client number) e = absurd (true≢false (sym e))
apart n (End k) e = absurd (true≢false (sym e))

apart_alike : (kind : Kind) (stream : List (List ℕ)) (past : Past) (w : Pair) (n : Node) (m : Message)
    (ms : List Message) → Finds kind stream past w n m ms → stays_apart m ≡ true
    → Goes kind stream (silently (record past { to_secondary = ms }) ToSecondary (Heard (number_of m) false) (Some m))
    (heard_due (without kind stream past w n ms) (node_of kind past n) m (hear_due (node_of kind past n) m)
    (told_of (node_of kind past n) m))
unfolding delivered_bytes
apart_alike kind stream past w n m ms f e =
    let a = apart (node_of kind past n) m e in
    let o = silently (record past { to_secondary = ms }) ToSecondary (Heard (number_of m) false) (Some m) in
    let left : Node = record (node_of kind past n) { under_way = way kind n.under_way m } in
    subst (λ (x : Node). Goes kind stream o (heard_due (without kind stream past w n ms) (node_of kind past n) m x
    (told_of (node_of kind past n) m))) (sym a.left)
    (subst (λ (x : Told). Goes kind stream o
    (heard_due (without kind stream past w n ms) (node_of kind past n) m left x))
    (sym a.told_is) (λ states rests. record {
      happens = record { answer = refl; marks = refl; released = refl; wire = refl };
      after = second_stands kind stream past (hears_pair kind stream past n w) left past.secondary past.secondary_inbox
          past.secondary_turned past.secondary_numbers ms past.to_primary [] f.pair f.together refl (record {
            inbox = refl;
            lines = f.stands.lines;
            numbers = f.stands.numbers;
            waits = refl;
            due = subst (λ (k : ℕ). Due kind past.copy past.captures k (way kind n.under_way m) ms)
                (ap (λ (k : Option ℕ). unwrap_or k n.committed) a.none) f.later;
          }) (append-nil past.to_primary);
    }))

-- ANY
heard_alike : (kind : Kind) (stream : List (List ℕ)) (past : Past) (w : Pair) (n : Node) (m : Message)
    (ms : List Message) → Finds kind stream past w n m ms
    → is_due_at kind (next_checkpoint n.committed) n.under_way m ≡ true → IsState kind past.secondary.run.state
    → Goes kind stream (theirs.secondary_hears (record past { to_secondary = ms }) m)
    (secondary_hears (without kind stream past w n ms) m)
heard_alike kind stream past w n m ms f due state =
    let p : Past = record past { to_secondary = ms } in
    let x = node_of kind past n in
    subst (λ (c : core.Outcome). Goes kind stream (theirs.secondary_hears p m) c)
    (sym (due_heard (without kind stream past w n ms) x m refl due))
    (heard_case (λ o. Goes kind stream o (of m)) p m
    (λ index seen trim frame is. at m (Frame index seen trim frame) is _ f
    (frame_alike kind stream past w n index seen trim frame ms))
    (λ t client number is. at m (Number t client number) is _ f (number_alike kind stream past w n t client number ms))
    (λ e is. at m (End e) is _ f (λ g. ended_alike kind stream past w n e n.under_way ms g refl
    (subst (λ (k : Message). is_due_at kind (next_checkpoint n.committed) n.under_way k ≡ true) is due) state))
    (λ e. apart_alike kind stream past w n m ms f e))
  where
    of : Message → core.Outcome
    of k = heard_due (without kind stream past w n ms) (node_of kind past n) k (hear_due (node_of kind past n) k)
        (told_of (node_of kind past n) k)

    at : (a b : Message) → a ≡ b → (o : Outcome) → Finds kind stream past w n a ms
        → (Finds kind stream past w n b ms → Goes kind stream o (of b)) → Goes kind stream o (of a)
    at a b is o g by = subst (λ (k : Message). Goes kind stream o (of k)) (sym is)
        (by (subst (λ (k : Message). Finds kind stream past w n k ms) is g))

first_down : (kind : Kind) (stream : List (List ℕ)) (past : Past) (w : Pair) (n : Node) (ms : List Message)
    → Stands kind stream past (hears_pair kind stream past n w) → past.is_reported ≡ false
    → SecondaryStands kind past n → past.to_secondary ≡ ms → IsState kind past.secondary.run.state
    → Goes kind stream (deliver_down past ms)
    (core.deliver_with secondary_hears (hears_pair kind stream past n w) ms
    (λ xs. record (hears_pair kind stream past n w) { down = xs }))
unfolding deliver_down
first_down kind stream past w n [] h together s is state =
    idle kind stream past ToSecondary (hears_pair kind stream past n w) h
first_down kind stream past w n (m ∷ ms) h together s is state =
    let due = subst (λ (xs : List Message). Due kind past.copy past.captures n.committed n.under_way xs) is s.due in
    heard_alike kind stream past w n m ms (record {
      pair = h;
      together = together;
      stands = s;
      whole = due.1.0;
      later = due.1.1;
    }) due.0 state

pub down_alike : (kind : Kind) (stream : List (List ℕ)) (past : Past) (w : Pair) → Stands kind stream past w
    → IsState kind past.secondary.run.state
    → Goes kind stream (outcome_of kind stream past ToSecondary) (core.event_of w ToSecondary)
unfolding outcome_of
down_alike kind stream past w h state =
    both_branches (λ o c. Goes kind stream o c) (is_secondary_stop past.stop || past.is_reported)
    (is_secondary w.stopped || w.is_reported) (silently past ToSecondary Nothing None)
    (deliver_down past past.to_secondary) (core.nothing w)
    (core.deliver_with secondary_hears w w.down (λ ms. record w { down = ms }))
    (λ i. secondary_flag kind stream past w h i || sym h.reported i)
    (λ f. idle kind stream past ToSecondary w h)
    (λ f. let parts = or_parts (is_secondary w.stopped) w.is_reported f in
    let together = sym h.reported ∙ parts.1 in
    let g = it_hears kind past w.second together (h.second parts.0) in
    subst (λ (v : Pair). Stands kind stream past v → Goes kind stream (deliver_down past past.to_secondary)
    (core.deliver_with secondary_hears v v.down (λ ms. record v { down = ms })))
    (sym (hears_pair_is kind stream past g.node w h g.is g.stands))
    (λ k. first_down kind stream past w g.node past.to_secondary k together g.stands refl state) h)
