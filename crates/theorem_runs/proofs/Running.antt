-- Each node's run is the run of its turns, given the frames that the log says.
use Rattle.std.proofs.Common.{◌≡◌, ℕ, ◌+◌, ◌&&◌, Bool, true, false, List, [], ◌∷◌, ◌++◌, length, map, Option, None, Some, refl, sym, ap, subst, ◌∙◌, arith, slice_get, unwrap_or, is_some}
use Rattle.std.specs.Prelude.{All, IfSome, IsSome, IsTrue}
use Rattle.std.specs.List.{AllByRecursion}
use Rattle.std.proofs.lemmas.List.{map-append}
use Rattle.std.proofs.lemmas.List.Sums.{fold_push}
use Rattle.shared_definitions.specs.Bytes.{AreBytes}
use Rattle.inet_frame.specs.Counted.{tcp_in}
use Rattle.inet_frame.specs.Fields.{TcpFields}
use Rattle.inet_frame.specs.declared.tuple.Tuple.{Tuple}
use Rattle.tcp_track.specs.Lines.{commit, sent_of}
use Rattle.tcp_track.specs.Stands.{opening_of, segments}
use Rattle.tcp_track.specs.declared.openings.Opening.{Opening}
use Rattle.seq_rewriter.specs.Given.{opening_for, raise_frame}
use Rattle.settle_rules.specs.Numbers.{KeptNumber}
use Rattle.settle_rules.specs.Progress.{ProgressTable}
use Rattle.state_wire.specs.Guest.{GuestTurn, Kind, turn_of}
use Rattle.state_wire.specs.Run.{Run, run_turn}
use Rattle.frame_mirror.specs.Accepted.{entry_of}
use Rattle.frame_mirror.specs.Laws.{IsKept}
use Rattle.frame_mirror.specs.declared.ingress.Entry.{Entry}
use Rattle.frame_mirror.specs.declared.ingress.Entry.TheVariants as entry
use Rattle.frame_mirror.specs.declared.ring.Waiting.{Waiting}
use Rattle.frame_mirror.proofs.AcceptLemmas.{accepted_is_kept}
use Rattle.colo_wire.specs.declared.messages.Message.{Message}
use Rattle.replay_log.specs.declared.lines.Line.{Line}
use Rattle.replay_log.specs.declared.lines.Line.TheVariants.{Primary, Secondary, ToPrimary}
use Rattle.replay_log.specs.declared.records.Answer.TheVariants.{Made, Nothing}
use Rattle.replay_log.specs.declared.records.Mark.TheVariants.{Captured}
use Rattle.replay_log.specs.declared.records.Record.{Record}
use Rattle.replay_log.specs.declared.turns.Turn.{Turn}
use Rattle.replay_log.specs.declared.turns.TurnFrame.TheVariants as frame
use Rattle.splice_run.specs.Frames.{frame_with, seen_in, turn_with}
use Rattle.splice_run.specs.Runs.{accepted_frame, frame_index, frame_seen, given_to, given_turn, is_accepted, kept_of, kept_where, run_given, run_turns, stream_frame}
use Rattle.splice_run.specs.Tokens.{Taken}
use Rattle.splice_run.proofs.GivenLemmas.{given_none, given_raised}
use Rattle.splice_run.proofs.OpeningLemmas.{opening_known}
use Rattle.pair_theorem.specs.Checkpoint.{capture, next_capture}
use Rattle.pair_theorem.specs.ClientFrames.{trims_by}
use Rattle.pair_theorem.specs.Events.{accept_by, acknowledge, hear_frame, hear_number, lose_links, numbers_of, primary_hears, secondary_hears, secondary_survives, turn_secondary}
use Rattle.pair_theorem.specs.GuestTurns.{TurnNumbers, add_turn, guest_turn, raise_waiting, taken_turn, turn_from, turn_if, turn_with as node_turn_with, turn_without}
use Rattle.pair_theorem.specs.History.{entries}
use Rattle.pair_theorem.specs.Past.{Copy, NodeRun, Past, Start, Step, first_run, is_primary_stop, step_with}
use Rattle.pair_theorem.proofs.AllLemmas.{All_at}
use Rattle.pair_theorem.proofs.EachHistory.{Keeps, Reached, each_history}
use Rattle.pair_theorem.proofs.EventCases.{Cases}
use Rattle.pair_theorem.proofs.MessageCases.{heard_back_case, heard_case}
use Rattle.theorem_runs.specs.Runs.{AreRuns, AreTold, AreTurnsAccepted, AreTurnsTold, IsRunBy, IsTold, RunRightly, SaysItems}
use Rattle.theorem_runs.proofs.Cuts.{entries-push}
use Rattle.theorem_runs.proofs.Growing.{turns_still, turns_told}
use Rattle.theorem_runs.proofs.Items.{say_items}
use Rattle.theorem_runs.proofs.ListFacts.{all_append}
use Rattle.theorem_runs.proofs.Settled.{ack_settled, known_base, known_settled, left_settled, primary_base, primary_settled, secondary_base, sent_base, sent_settled, survivor_settled, told_past}
use Rattle.theorem_runs.proofs.Waiting.{all_longer, are_told}

-- what a start has: no frame waits, what it was said is what was sent, and the client's frames are bytes
pub record StartsPlain (a : Start) : Type 0 where
  pub inbox : a.inbox ≡ []
  pub said : SaysItems (first_run a)
  pub bytes : All AreBytes a.stream

-- THE FRAME OF A TURN
pub kept_frame : (stream : List (List ℕ)) (i : ℕ) (kept : List ℕ) → All AreBytes stream
    → accepted_frame stream i ≡ Some kept → IsKept (stream_frame stream i) kept
unfolding accepted_frame
kept_frame stream i kept bytes e = by (slice_get stream i) refl e
  where
    by_entry : (b : List ℕ) → AreBytes b → (x : Entry) → entry_of b ≡ x → kept_of x ≡ Some kept → IsKept b kept
    by_entry b small (entry.Frame k) is f =
        accepted_is_kept b kept small (is ∙ ap (λ (o : Option (List ℕ)). entry.Frame (unwrap_or o k)) f)
    by_entry b small (entry.Answer r) is f = absurd (cc f)
    by_entry b small (entry.Drop w) is f = absurd (cc f)

    by : (o : Option (List ℕ)) → slice_get stream i ≡ o → kept_where o ≡ Some kept → IsKept (unwrap_or o []) kept
    by None at f = absurd (cc f)
    by (Some b) at f = by_entry b (All_at AreBytes stream i b bytes at) (entry_of b) refl f

seen_with_frame : (i : ℕ) (seen : Option Opening) → frame_index (frame_with i (Some seen)) ≡ Some i
seen_with_frame i None = refl
seen_with_frame i (Some o) = refl

seen_of_frame : (i : ℕ) (seen : Option Opening) → frame_seen (frame_with i (Some seen)) ≡ seen
seen_of_frame i None = refl
seen_of_frame i (Some o) = refl

given_waiting : (a : Start) (sent : List (List ℕ)) (w : Waiting) → All AreBytes a.stream
    → accepted_frame a.stream w.index ≡ Some w.frame
    → given_to a.stream (segments sent) (frame_with w.index (Some w.seen)) ≡ Some (raise_waiting w (segments sent))
unfolding raise_waiting
given_waiting a sent w bytes kept =
    let current : Tuple → Option Opening = λ t. opening_of t (segments sent) in
    let f = frame_with w.index (Some w.seen) in
    given_raised a.stream sent current f w.index w.frame
    (raise_frame w.frame w.seen (opening_for (tcp_in w.frame) (segments sent))) (seen_with_frame w.index w.seen)
    (kept_frame a.stream w.index w.frame bytes kept) (λ t. refl)
    (ap (λ (s : Option Opening). raise_frame w.frame s (opening_for (tcp_in w.frame) (segments sent)))
    (sym (seen_of_frame w.index w.seen))
    ∙ ap (λ (o : Option Opening). raise_frame w.frame (frame_seen f) o)
    (sym (opening_known current sent (tcp_in w.frame) (λ t. refl))))

-- ONE TURN MORE
run_turns-push : (kind : Kind) (stream : List (List ℕ)) (run : Run) (turns : List Turn) (t : Turn)
    → run_turns kind stream run (turns ++ t ∷ []) ≡ run_given kind stream (run_turns kind stream run turns) t
unfolding run_turns
run_turns-push kind stream run turns t = fold_push (run_given kind stream) run turns t

add_run : (a : Start) (log : List Record) (node : NodeRun) (turn : GuestTurn) (taken : Taken) → IsRunBy a log node
    → IfSome taken.index (λ i. IsSome (seen_in log i))
    → IfSome taken.index (λ i. IsTrue (is_accepted a.stream i))
    → given_turn a.stream (segments node.run.sent) (turn_with (seen_in log) taken) ≡ turn
    → IsRunBy a log (add_turn a.kind node turn taken)
unfolding add_turn
add_run a log node turn taken h told kept given =
    let tw = turn_with (seen_in log) in
    let t = tw taken in
    record {
      told = all_append (λ (x : Taken). IfSome x.index (λ i. IsSome (seen_in log i))) node.turns (taken ∷ []) h.told
          (told, tt);
      accepted = all_append (λ (x : Taken). IfSome x.index (λ i. IsTrue (is_accepted a.stream i))) node.turns
          (taken ∷ []) h.accepted (kept, tt);
      run = ap (λ (x : GuestTurn). run_turn a.kind node.run x) (sym given)
          ∙ (ap (λ (r : Run). run_given a.kind a.stream r t) h.run
          ∙ (sym (run_turns-push a.kind a.stream a.run (map tw node.turns) t)
          ∙ ap (λ (ts : List Turn). run_turns a.kind a.stream a.run ts) (sym (map-append tw node.turns (taken ∷ [])))));
    }

turn_without_frame : (a : Start) (log : List Record) (node : NodeRun) (n : TurnNumbers) → IsRunBy a log node
    → IsRunBy a log (add_turn a.kind node (guest_turn n None) (taken_turn n None))
turn_without_frame a log node n h =
    add_run a log node (guest_turn n None) (taken_turn n None) h tt tt
    (ap (λ (f : Option (List ℕ)). turn_of n.clock f n.blocks n.steps)
    (given_none a.stream (segments node.run.sent) frame.Absent refl))

turn_with_frame : (a : Start) (log : List Record) (node : NodeRun) (n : TurnNumbers) (w : Waiting) (next : ℕ)
    → All AreBytes a.stream → SaysItems node → IsTold a log next w → IsRunBy a log node
    → IsRunBy a log (add_turn a.kind node (guest_turn n (Some (raise_waiting w (sent_of node.items))))
    (taken_turn n (Some w.index)))
turn_with_frame a log node n w next bytes says told h =
    add_run a log node (guest_turn n (Some (raise_waiting w (sent_of node.items)))) (taken_turn n (Some w.index)) h
    (ap (λ (o : Option (Option Opening)). is_some o) told.seen)
    (ap (λ (o : Option (List ℕ)). is_some o) told.frame)
    (ap (λ (f : Option (List ℕ)). turn_of n.clock f n.blocks n.steps)
    (ap (λ (o : Option (Option Opening)). given_to a.stream (segments node.run.sent) (frame_with w.index o)) told.seen
    ∙ (given_waiting a node.run.sent w bytes told.frame
    ∙ ap (λ (said : List TcpFields). Some (raise_waiting w said)) (sym says))))

made_run : (a : Start) (log : List Record) (node : NodeRun) (inbox : List Waiting) (takes : Bool) (n : TurnNumbers)
    (next : ℕ) → All AreBytes a.stream → SaysItems node → AllByRecursion (IsTold a log next) inbox
    → IsRunBy a log node → IsRunBy a log (turn_from a.kind node inbox takes n).run
unfolding turn_from turn_if node_turn_with turn_without
made_run a log node [] takes n next bytes says told h = turn_without_frame a log node n h
made_run a log node (w ∷ inbox) takes n next bytes says told h = by (takes && a.kind.can_receive node.run.state)
  where
    by : (b : Bool) → IsRunBy a log (turn_if b a.kind node w inbox n).run
    by true = turn_with_frame a log node n w next bytes says told.0 h
    by false = turn_without_frame a log node n h

-- A LONGER LOG, and other items
run_longer : (a : Start) (log : List Record) (r : Record) (node : NodeRun) → IsRunBy a log node
    → IsRunBy a (log ++ r ∷ []) node
run_longer a log r node h = record {
  told = turns_told log r node.turns h.told;
  accepted = h.accepted;
  run = h.run
      ∙ ap (λ (ts : List Turn). run_turns a.kind a.stream a.run ts) (sym (turns_still log r node.turns h.told));
}

runs_longer : (a : Start) (log : List Record) (r : Record) (past : Past) → RunRightly a log past
    → RunRightly a (log ++ r ∷ []) past
runs_longer a log r past h = record {
  primary = run_longer a log r past.primary h.primary;
  secondary = run_longer a log r past.secondary h.secondary;
  copy = run_longer a log r past.copy.run h.copy;
}

same_run : (a : Start) (log : List Record) (node after : NodeRun) → after.turns ≡ node.turns → after.run ≡ node.run
    → IsRunBy a log node → IsRunBy a log after
same_run a log node after t r h = record {
  told = subst (λ (ts : List Taken). AreTurnsTold log ts) (sym t) h.told;
  accepted = subst (λ (ts : List Taken). AreTurnsAccepted a ts) (sym t) h.accepted;
  run = r ∙ (h.run
      ∙ ap (λ (ts : List Taken). run_turns a.kind a.stream a.run (map (turn_with (seen_in log)) ts)) (sym t));
}

same_runs : (a : Start) (log : List Record) (past after : Past) → after.primary ≡ past.primary
    → after.secondary ≡ past.secondary → after.copy ≡ past.copy → RunRightly a log past → RunRightly a log after
same_runs a log past after p s c h = record {
  primary = subst (IsRunBy a log) (sym p) h.primary;
  secondary = subst (IsRunBy a log) (sym s) h.secondary;
  copy = subst (λ (k : Copy). IsRunBy a log k.run) (sym c) h.copy;
}

told_runs : (a : Start) (log : List Record) (past : Past) (ns : List KeptNumber) (ps : ProgressTable)
    (new : List KeptNumber) → RunRightly a log past → RunRightly a log (told_past past ns ps new)
told_runs a log past ns ps new h = record { primary = h.primary; secondary = h.secondary; copy = h.copy }

captured_runs : (a : Start) (log : List Record) (past : Past) → RunRightly a log past → RunRightly a log (capture past)
unfolding capture
captured_runs a log past h = record { primary = h.primary; secondary = h.secondary; copy = h.primary }

accepted_runs : (a : Start) (log : List Record) (b : Bool) (past : Past) (w : Waiting) → RunRightly a log past
    → RunRightly a log (accept_by b past w (trims_by w))
unfolding accept_by
accepted_runs a log true past w h = record {
  primary = h.primary;
  secondary = same_run a log past.secondary (record past.secondary { items = past.secondary.items ++ trims_by w }) refl
      refl h.secondary;
  copy = h.copy;
}
accepted_runs a log false past w h = record {
  primary = same_run a log past.primary (record past.primary { items = past.primary.items ++ trims_by w }) refl refl
      h.primary;
  secondary = h.secondary;
  copy = h.copy;
}

heard_runs : (a : Start) (log : List Record) (past : Past) (m : Message) (ms : List Message) → RunRightly a log past
    → RunRightly a log (secondary_hears (record past { to_secondary = ms }) m).after
unfolding hear_frame
heard_runs a log past m ms h =
    let p : Past = record past { to_secondary = ms } in
    heard_case (λ o. RunRightly a log o.after) p m
    (λ index seen trim frame is. (record {
      primary = h.primary;
      secondary = same_run a log past.secondary _ refl refl h.secondary;
      copy = h.copy;
    }))
    (λ t client number is. same_runs a log past (hear_number p t client number) refl refl refl h)
    (λ n is. (record {
      primary = h.primary;
      secondary = same_run a log past.copy.run
          (record past.copy.run { items = past.copy.run.items ++ commit ∷ [] }) refl refl h.copy;
      copy = h.copy;
    }))
    (λ apart. same_runs a log past p refl refl refl h)

acknowledged_runs : (a : Start) (log : List Record) (past : Past) → RunRightly a log past
    → RunRightly a log (acknowledge past)
acknowledged_runs a log past h = record {
  primary = same_run a log past.primary (acknowledge past).primary refl refl h.primary;
  secondary = h.secondary;
  copy = h.copy;
}

-- EVERY EVENT: the log grows by its record, and then the past goes on
runs_on : (a : Start) (steps : List Step) (s : Step) (past after : Past)
    → (RunRightly a (entries steps ++ s.entry ∷ []) past → RunRightly a (entries steps ++ s.entry ∷ []) after)
    → AreRuns a steps past → AreRuns a (steps ++ s ∷ []) after
runs_on a steps s past after f h =
    subst (λ (log : List Record). RunRightly a log after) (sym (entries-push steps s))
    (f (runs_longer a (entries steps) s.entry past h))

runs_settled : (a : Start) (steps : List Step) (s : Step) (past base : Past) (ns : List KeptNumber) (ps : ProgressTable)
    (new : List KeptNumber)
    → (RunRightly a (entries steps ++ s.entry ∷ []) past → RunRightly a (entries steps ++ s.entry ∷ []) base)
    → AreRuns a steps past → AreRuns a (steps ++ s ∷ []) (told_past base ns ps new)
runs_settled a steps s past base ns ps new f h =
    runs_on a steps s past (told_past base ns ps new) (λ g. told_runs a _ base ns ps new (f g)) h

runs_captured : (a : Start) (steps : List Step) (s : Step) (past base : Past) (ns : List KeptNumber)
    (ps : ProgressTable) (new : List KeptNumber)
    → (RunRightly a (entries steps ++ s.entry ∷ []) past → RunRightly a (entries steps ++ s.entry ∷ []) base)
    → AreRuns a steps past → AreRuns a (steps ++ s ∷ []) (capture (told_past base ns ps new))
runs_captured a steps s past base ns ps new f h =
    runs_on a steps s past (capture (told_past base ns ps new))
    (λ g. captured_runs a _ (told_past base ns ps new) (told_runs a _ base ns ps new (f g))) h

primary_runs : (a : Start) (steps : List Step) (s : Step) (past : Past) (takes : Bool) (n : TurnNumbers)
    → All AreBytes a.stream → SaysItems past.primary → AreTold a steps past
    → RunRightly a (entries steps ++ s.entry ∷ []) past
    → RunRightly a (entries steps ++ s.entry ∷ [])
    (primary_base past (turn_from a.kind past.primary past.primary_inbox takes n))
primary_runs a steps s past takes n bytes says told h =
    let log = entries steps in
    record {
      primary = made_run a (log ++ s.entry ∷ []) past.primary past.primary_inbox takes n past.next bytes says
          (all_longer a log s.entry past.next past.next (omega arith) past.primary_inbox told.primary) h.primary;
      secondary = h.secondary;
      copy = h.copy;
    }

secondary_runs : (a : Start) (steps : List Step) (s : Step) (past : Past) (takes : Bool) (n : TurnNumbers)
    → All AreBytes a.stream → SaysItems past.secondary → AreTold a steps past
    → RunRightly a (entries steps ++ s.entry ∷ []) past
    → RunRightly a (entries steps ++ s.entry ∷ [])
    (secondary_base past (turn_from a.kind past.secondary past.secondary_inbox takes n))
secondary_runs a steps s past takes n bytes says told h =
    let log = entries steps in
    record {
      primary = h.primary;
      secondary = made_run a (log ++ s.entry ∷ []) past.secondary past.secondary_inbox takes n past.next bytes says
          (all_longer a log s.entry past.next past.next (omega arith) past.secondary_inbox told.secondary) h.secondary;
      copy = h.copy;
    }

back_runs : (a : Start) (steps : List Step) (past : Past) (m : Message) (ms : List Message) → AreRuns a steps past
    → AreRuns a (steps ++ (primary_hears (record past { to_primary = ms }) m).step ∷ [])
    (primary_hears (record past { to_primary = ms }) m).after
back_runs a steps past m ms h =
    let p : Past = record past { to_primary = ms } in
    let P : Step → Past → Type 0 = λ step after. AreRuns a (steps ++ step ∷ []) after in
    heard_back_case (λ o. AreRuns a (steps ++ o.step ∷ []) o.after) p m
    (λ t client number is. let base = known_base p t client number in
    known_settled P p t client number past.sent_heard
    (λ out ns ps new. runs_settled a steps _ past base ns ps new (λ g. same_runs a _ past base refl refl refl g) h)
    (λ out ns ps new why alone. runs_captured a steps _ past base ns ps new
    (λ g. same_runs a _ past base refl refl refl g) h))
    (λ frame is. let base = sent_base p frame in
    sent_settled P p frame (past.sent_heard + 1)
    (λ out ns ps new. runs_settled a steps _ past base ns ps new (λ g. same_runs a _ past base refl refl refl g) h)
    (λ out ns ps new why alone. runs_captured a steps _ past base ns ps new
    (λ g. same_runs a _ past base refl refl refl g) h))
    (λ n is. let base = acknowledge p in
    let f : (log : List Record) → RunRightly a log past → RunRightly a log base =
    λ log g. acknowledged_runs a log p (same_runs a log past p refl refl refl g) in
    ack_settled P p n (λ out ns ps new. runs_settled a steps _ past base ns ps new (f _) h)
    (λ out ns ps new why alone. runs_captured a steps _ past base ns ps new (f _) h))
    (λ foreign. runs_on a steps (step_with ToPrimary Nothing [] None []) past p
    (λ g. same_runs a _ past p refl refl refl g) h)

run_cases : (F : Past → Line → Type 0) (a : Start) → StartsPlain a → Cases a.kind a.stream (Keeps F a (AreRuns a))
unfolding secondary_survives turn_secondary
run_cases F a plain = record {
  idle = λ past x e f steps r fits h. runs_on a steps _ past past (λ g. g) h;
  primary_turn =
      λ past d i b n e f steps r fits h.
      let made = turn_from a.kind past.primary past.primary_inbox i (numbers_of d b n) in
      let says = (say_items F a plain.said steps past r).primary in
      let told = are_told F a plain.inbox steps past r in
      primary_settled (λ step after. AreRuns a (steps ++ step ∷ []) after) past d i b n made
      (λ out ns ps new. let s = step_with (Primary d i b n) (Made made.index (length out)) [] None out in
      runs_settled a steps s past (primary_base past made) ns ps new
      (λ g. primary_runs a steps s past i (numbers_of d b n) plain.bytes says told g) h)
      (λ out ns ps new why alone. let s = step_with (Primary d i b n) (Made made.index (length out))
      (Captured (next_capture (told_past (primary_base past made) ns ps new)) why ∷ []) None out in
      runs_captured a steps s past (primary_base past made) ns ps new
      (λ g. primary_runs a steps s past i (numbers_of d b n) plain.bytes says told g) h);
  secondary_turn =
      λ past d i b n e f steps r fits h.
      let made = turn_from a.kind past.secondary past.secondary_inbox i (numbers_of d b n) in
      let says = (say_items F a plain.said steps past r).secondary in
      let told = are_told F a plain.inbox steps past r in
      let o = turn_secondary past (Secondary d i b n) made in
      runs_on a steps o.step past o.after
      (λ g. same_runs a _ (secondary_base past made) o.after refl refl refl
      (secondary_runs a steps o.step past i (numbers_of d b n) plain.bytes says told g)) h;
  survivor_turn =
      λ past d i b n e steps r fits h.
      let made = turn_from a.kind past.secondary past.secondary_inbox i (numbers_of d b n) in
      let says = (say_items F a plain.said steps past r).secondary in
      let told = are_told F a plain.inbox steps past r in
      survivor_settled (λ step after. AreRuns a (steps ++ step ∷ []) after) past d i b n made
      (λ out ns ps new. let s = step_with (Secondary d i b n) (Made made.index (length out)) [] None out in
      runs_settled a steps s past (secondary_base past made) ns ps new
      (λ g. secondary_runs a steps s past i (numbers_of d b n) plain.bytes says told g) h)
      (λ out ns ps new why alone. let s = step_with (Secondary d i b n) (Made made.index (length out))
      (Captured (next_capture (told_past (secondary_base past made) ns ps new)) why ∷ []) None out in
      runs_captured a steps s past (secondary_base past made) ns ps new
      (λ g. secondary_runs a steps s past i (numbers_of d b n) plain.bytes says told g) h);
  accepts =
      λ past frame kept t e f steps r fits h. runs_on a steps _ past _
      (λ g. accepted_runs a _ (is_primary_stop past.stop) past _ g) h;
  is_full = λ past frame kept t e f steps r fits h.
      runs_on a steps _ past _ (λ g. same_runs a _ past _ refl refl refl g) h;
  answers = λ past frame b t e steps r fits h. runs_on a steps _ past _ (λ g. same_runs a _ past _ refl refl refl g) h;
  drops = λ past frame why t e steps r fits h. runs_on a steps _ past _ (λ g. same_runs a _ past _ refl refl refl g) h;
  loses = λ past frame t e f steps r fits h. runs_on a steps _ past _ (λ g. same_runs a _ past _ refl refl refl g) h;
  secondary_hears =
      λ past m ms e f g steps r fits h. runs_on a steps _ past _ (λ k. heard_runs a _ past m ms k) h;
  ignores =
      λ past m ms e f g running alone steps r fits h. runs_on a steps _ past _
      (λ k. same_runs a _ past _ refl refl refl k) h;
  primary_hears = λ past m ms e f running alone steps r fits h. back_runs a steps past m ms h;
  primary_stops = λ past steps r fits h. runs_on a steps _ past _ (λ g. same_runs a _ past _ refl refl refl g) h;
  secondary_stops = λ past steps r fits h. runs_on a steps _ past _ (λ g. same_runs a _ past _ refl refl refl g) h;
  secondary_left = λ past e steps r fits h. runs_on a steps _ past _ (λ g. same_runs a _ past _ refl refl refl g) h;
  primary_left =
      λ past e steps r fits h. left_settled (λ step after. AreRuns a (steps ++ step ∷ []) after) past
      (λ out ns ps new. runs_settled a steps _ past (lose_links past) ns ps new
      (λ g. same_runs a _ past (lose_links past) refl refl refl g) h);
  asks = λ past e f g steps r fits h. runs_on a steps _ past (capture past) (λ k. captured_runs a _ past k) h;
}

pub are_runs : (F : Past → Line → Type 0) (a : Start) → StartsPlain a → (steps : List Step) (past : Past)
    → Reached F a steps past → AreRuns a steps past
unfolding run_turns
are_runs F a plain =
    each_history F a (AreRuns a) (record {
      primary = record { told = tt; accepted = tt; run = refl };
      secondary = record { told = tt; accepted = tt; run = refl };
      copy = record { told = tt; accepted = tt; run = refl };
    }) (run_cases F a plain)
