-- The items of both nodes, and of the last capture, are the segments of what was sent.
use Rattle.std.proofs.Common.{◌≡◌, ◌+◌, ◌&&◌, Bool, true, false, List, [], ◌∷◌, ◌++◌, append-nil, map, None, Some, refl, sym, ap, subst, ◌∙◌}
use Rattle.std.proofs.lemmas.List.Elements.{filter_map-append}
use Rattle.inet_frame.specs.Counted.{counted}
use Rattle.inet_frame.specs.Fields.{TcpFields}
use Rattle.tcp_track.specs.Lines.{commit, segment_of, sent, sent_of}
use Rattle.tcp_track.specs.Stands.{segments}
use Rattle.settle_rules.specs.Numbers.{KeptNumber}
use Rattle.settle_rules.specs.Progress.{ProgressTable}
use Rattle.state_wire.specs.Guest.{GuestTurn, Kind}
use Rattle.frame_mirror.specs.declared.ring.Waiting.{Waiting}
use Rattle.colo_wire.specs.declared.messages.Message.{Message}
use Rattle.replay_log.specs.declared.lines.Line.{Line}
use Rattle.splice_run.specs.Tokens.{Taken}
use Rattle.pair_theorem.specs.Checkpoint.{capture}
use Rattle.pair_theorem.specs.ClientFrames.{trims_by}
use Rattle.pair_theorem.specs.Events.{accept_by, acknowledge, hear_frame, hear_number, lose_links, numbers_of, primary_hears, secondary_hears, secondary_survives, turn_secondary}
use Rattle.pair_theorem.specs.GuestTurns.{TurnNumbers, add_turn, guest_turn, raise_waiting, taken_turn, turn_from, turn_if, turn_with, turn_without}
use Rattle.pair_theorem.specs.Messages.{waiting_in}
use Rattle.pair_theorem.specs.Past.{NodeRun, Past, Start, Step, first_run, is_primary_stop}
use Rattle.pair_theorem.proofs.EachHistory.{Keeps, Reached, each_history}
use Rattle.pair_theorem.proofs.EventCases.{Cases}
use Rattle.pair_theorem.proofs.MessageCases.{heard_back_case, heard_case}
use Rattle.theorem_runs.specs.Runs.{AreSaid, SayItems, SaysItems}
use Rattle.theorem_runs.proofs.Checkpoints.{sent_of-trims}
use Rattle.theorem_runs.proofs.Settled.{ack_settled, known_base, known_settled, left_settled, primary_base, primary_settled, secondary_base, sent_base, sent_settled, survivor_settled, told_past}

sent_again : (xs : List TcpFields) → sent_of (map sent xs) ≡ xs
sent_again [] = refl
sent_again (x ∷ xs) = ap (λ (ys : List TcpFields). x ∷ ys) (sent_again xs)

says_turn : (kind : Kind) (node : NodeRun) (turn : GuestTurn) (taken : Taken) → SaysItems node
    → SaysItems (add_turn kind node turn taken)
unfolding add_turn
says_turn kind node turn taken h =
    filter_map-append segment_of node.items (map sent (segments (kind.sent node.run.state turn)))
    ∙ ((λ i. h i ++ sent_again (segments (kind.sent node.run.state turn)) i)
    ∙ sym (filter_map-append counted node.run.sent (kind.sent node.run.state turn)))

says_made : (kind : Kind) (node : NodeRun) (inbox : List Waiting) (takes : Bool) (n : TurnNumbers) → SaysItems node
    → SaysItems (turn_from kind node inbox takes n).run
unfolding turn_from turn_if turn_with turn_without
says_made kind node [] takes n h = says_turn kind node (guest_turn n None) (taken_turn n None) h
says_made kind node (w ∷ inbox) takes n h = by (takes && kind.can_receive node.run.state)
  where
    by : (b : Bool) → SaysItems (turn_if b kind node w inbox n).run
    by true =
        says_turn kind node (guest_turn n (Some (raise_waiting w (sent_of node.items)))) (taken_turn n (Some w.index)) h
    by false = says_turn kind node (guest_turn n None) (taken_turn n None) h

says_trims : (node : NodeRun) (w : Waiting) → SaysItems node
    → SaysItems (record node { items = node.items ++ trims_by w })
says_trims node w h = sent_of-trims node.items w ∙ h

says_commit : (node : NodeRun) → SaysItems node → SaysItems (record node { items = node.items ++ commit ∷ [] })
says_commit node h =
    filter_map-append segment_of node.items (commit ∷ []) ∙ (append-nil (sent_of node.items) ∙ h)

says_told : (past : Past) (ns : List KeptNumber) (ps : ProgressTable) (new : List KeptNumber) → AreSaid past
    → AreSaid (told_past past ns ps new)
says_told past ns ps new h = record { primary = h.primary; secondary = h.secondary; copy = h.copy }

says_captured : (past : Past) → AreSaid past → AreSaid (capture past)
unfolding capture
says_captured past h = record { primary = h.primary; secondary = h.secondary; copy = h.primary }

-- whom the frame goes to
says_accepted : (b : Bool) (past : Past) (w : Waiting) → AreSaid past → AreSaid (accept_by b past w (trims_by w))
unfolding accept_by
says_accepted true past w h =
    record { primary = h.primary; secondary = says_trims past.secondary w h.secondary; copy = h.copy }
says_accepted false past w h =
    record { primary = says_trims past.primary w h.primary; secondary = h.secondary; copy = h.copy }

same_said : (past after : Past) → after.primary ≡ past.primary → after.secondary ≡ past.secondary
    → after.copy.run ≡ past.copy.run → AreSaid past → AreSaid after
same_said past after p s c h = record {
  primary = subst SaysItems (sym p) h.primary;
  secondary = subst SaysItems (sym s) h.secondary;
  copy = subst SaysItems (sym c) h.copy;
}

says_heard : (past : Past) (m : Message) (ms : List Message) → AreSaid past
    → AreSaid (secondary_hears (record past { to_secondary = ms }) m).after
unfolding hear_frame
says_heard past m ms h =
    let p : Past = record past { to_secondary = ms } in
    heard_case (λ o. AreSaid o.after) p m
    (λ index seen trim frame is. (record {
      primary = h.primary;
      secondary = says_trims past.secondary (waiting_in index seen trim frame) h.secondary;
      copy = h.copy;
    }))
    (λ t client number is. same_said past (hear_number p t client number) refl refl refl h)
    (λ n is. (record { primary = h.primary; secondary = says_commit past.copy.run h.copy; copy = h.copy }))
    (λ apart. same_said past p refl refl refl h)

says_back : (past : Past) (m : Message) (ms : List Message) → AreSaid past
    → AreSaid (primary_hears (record past { to_primary = ms }) m).after
says_back past m ms h =
    let p : Past = record past { to_primary = ms } in
    heard_back_case (λ o. AreSaid o.after) p m
    (λ t client number is. let base = known_base p t client number in
    let now = same_said past base refl refl refl h in
    known_settled (λ step after. AreSaid after) p t client number past.sent_heard
    (λ out ns ps new. says_told base ns ps new now)
    (λ out ns ps new why alone. says_captured (told_past base ns ps new) (says_told base ns ps new now)))
    (λ frame is. let base = sent_base p frame in
    let now = same_said past base refl refl refl h in
    sent_settled (λ step after. AreSaid after) p frame (past.sent_heard + 1)
    (λ out ns ps new. says_told base ns ps new now)
    (λ out ns ps new why alone. says_captured (told_past base ns ps new) (says_told base ns ps new now)))
    (λ n is. let base = acknowledge p in
    let now : AreSaid base =
    record { primary = says_commit past.primary h.primary; secondary = h.secondary; copy = h.copy } in
    ack_settled (λ step after. AreSaid after) p n (λ out ns ps new. says_told base ns ps new now)
    (λ out ns ps new why alone. says_captured (told_past base ns ps new) (says_told base ns ps new now)))
    (λ foreign. same_said past p refl refl refl h)

said_cases : (F : Past → Line → Type 0) (a : Start) → Cases a.kind a.stream (Keeps F a SayItems)
unfolding secondary_survives turn_secondary
said_cases F a = record {
  idle = λ past x e f steps r fits h. h;
  primary_turn =
      λ past d i b n e f steps r fits h.
      let made = turn_from a.kind past.primary past.primary_inbox i (numbers_of d b n) in
      let base = primary_base past made in
      let now : AreSaid base = record {
        primary = says_made a.kind past.primary past.primary_inbox i (numbers_of d b n) h.primary;
        secondary = h.secondary;
        copy = h.copy;
      } in
      primary_settled (λ step after. AreSaid after) past d i b n made (λ out ns ps new. says_told base ns ps new now)
      (λ out ns ps new why alone. says_captured (told_past base ns ps new) (says_told base ns ps new now));
  secondary_turn =
      λ past d i b n e f steps r fits h. (record {
        primary = h.primary;
        secondary = says_made a.kind past.secondary past.secondary_inbox i (numbers_of d b n) h.secondary;
        copy = h.copy;
      });
  survivor_turn =
      λ past d i b n e steps r fits h.
      let made = turn_from a.kind past.secondary past.secondary_inbox i (numbers_of d b n) in
      let base = secondary_base past made in
      let now : AreSaid base = record {
        primary = h.primary;
        secondary = says_made a.kind past.secondary past.secondary_inbox i (numbers_of d b n) h.secondary;
        copy = h.copy;
      } in
      survivor_settled (λ step after. AreSaid after) past d i b n made (λ out ns ps new. says_told base ns ps new now)
      (λ out ns ps new why alone. says_captured (told_past base ns ps new) (says_told base ns ps new now));
  accepts = λ past frame kept t e f steps r fits h. says_accepted (is_primary_stop past.stop) past _ h;
  is_full = λ past frame kept t e f steps r fits h. same_said past _ refl refl refl h;
  answers = λ past frame b t e steps r fits h. same_said past _ refl refl refl h;
  drops = λ past frame why t e steps r fits h. same_said past _ refl refl refl h;
  loses = λ past frame t e f steps r fits h. same_said past _ refl refl refl h;
  secondary_hears = λ past m ms e f g steps r fits h. says_heard past m ms h;
  ignores = λ past m ms e f g running alone steps r fits h. same_said past _ refl refl refl h;
  primary_hears = λ past m ms e f running alone steps r fits h. says_back past m ms h;
  primary_stops = λ past steps r fits h. same_said past _ refl refl refl h;
  secondary_stops = λ past steps r fits h. same_said past _ refl refl refl h;
  secondary_left = λ past e steps r fits h. same_said past _ refl refl refl h;
  primary_left =
      λ past e steps r fits h. left_settled (λ step after. AreSaid after) past
      (λ out ns ps new. says_told (lose_links past) ns ps new (same_said past (lose_links past) refl refl refl h));
  asks = λ past e f g steps r fits h. says_captured past h;
}

pub say_items : (F : Past → Line → Type 0) (a : Start) → SaysItems (first_run a) → (steps : List Step) (past : Past)
    → Reached F a steps past → AreSaid past
say_items F a first =
    each_history F a SayItems (record { primary = first; secondary = first; copy = first }) (said_cases F a)
