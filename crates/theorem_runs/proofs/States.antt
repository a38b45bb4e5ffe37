-- The states of both guests are states of bytes with the kind's sizes: every event keeps it.
use Rattle.std.proofs.Common.{◌≡◌, ℕ, ◌+◌, ◌&&◌, Bool, true, false, List, [], ◌∷◌, None, Some, refl, sym, subst}
use Rattle.std.specs.Prelude.{All}
use Rattle.std.specs.List.{AllByRecursion}
use Rattle.shared_definitions.specs.Bytes.{AreBytes}
use Rattle.inet_frame.specs.Counted.{tcp_in}
use Rattle.inet_frame.specs.Fields.{TcpFields}
use Rattle.inet_build.specs.Edit.{clean_syn_fields}
use Rattle.seq_rewriter.specs.Given.{opening_for}
use Rattle.seq_rewriter.proofs.GivenLemmas.{raises_ack}
use Rattle.tcp_track.specs.Lines.{sent_of}
use Rattle.settle_rules.specs.Numbers.{KeptNumber}
use Rattle.settle_rules.specs.Progress.{ProgressTable}
use Rattle.state_wire.specs.Guest.{GuestTurn, Kind}
use Rattle.state_wire.specs.Regular.{FrameBytes, IsRegular}
use Rattle.frame_mirror.specs.declared.ring.Waiting.{Waiting}
use Rattle.colo_wire.specs.declared.messages.Message.{Message}
use Rattle.replay_log.specs.declared.lines.Line.{Line}
use Rattle.replay_log.specs.declared.records.Record.{Record}
use Rattle.splice_run.specs.Tokens.{Taken}
use Rattle.pair_theorem.specs.Checkpoint.{capture}
use Rattle.pair_theorem.specs.ClientFrames.{trims_by}
use Rattle.pair_theorem.specs.Events.{accept_by, acknowledge, hear_frame, lose_links, numbers_of, primary_hears, secondary_hears, secondary_survives, turn_secondary}
use Rattle.pair_theorem.specs.GuestTurns.{TurnNumbers, add_turn, guest_turn, raise_waiting, taken_turn, turn_from, turn_if, turn_with, turn_without}
use Rattle.pair_theorem.specs.History.{entries}
use Rattle.pair_theorem.specs.Past.{NodeRun, Past, Start, Step, is_primary_stop}
use Rattle.pair_theorem.proofs.EachHistory.{Keeps, Reached, each_history}
use Rattle.pair_theorem.proofs.EventCases.{Cases}
use Rattle.pair_theorem.proofs.MessageCases.{heard_back_case, heard_case}
use Rattle.theorem_runs.specs.Runs.{AreStates, IsState, IsTold, StatesFit}
use Rattle.theorem_runs.proofs.Running.{StartsPlain, kept_frame}
use Rattle.theorem_runs.proofs.Settled.{ack_settled, known_base, known_settled, left_settled, primary_base, primary_settled, secondary_base, sent_base, sent_settled, survivor_settled, told_past}
use Rattle.theorem_runs.proofs.Waiting.{are_told}

-- A FRAME that is given is bytes
given_bytes : (a : Start) (log : List Record) (next : ℕ) (w : Waiting) (said : List TcpFields) → All AreBytes a.stream
    → IsTold a log next w → AreBytes (raise_waiting w said)
unfolding raise_waiting
given_bytes a log next w said bytes told =
    let kept = kept_frame a.stream w.index w.frame bytes told.frame in
    (raises_ack w.frame w.seen (opening_for (tcp_in w.frame) said) (clean_syn_fields kept.fields) kept.bytes
    kept.still_tcp).0

-- A TURN
turned_state : (kind : Kind) (node : NodeRun) (turn : GuestTurn) (taken : Taken) → IsRegular kind
    → FrameBytes turn.frame → IsState kind node.run.state → IsState kind (add_turn kind node turn taken).run.state
unfolding add_turn
turned_state kind node turn taken regular frame h =
    let next = regular.next node.run.state turn h.fits h.bytes frame in
    record { fits = next.0; bytes = next.1 }

made_state : (a : Start) (log : List Record) (node : NodeRun) (inbox : List Waiting) (takes : Bool) (n : TurnNumbers)
    (next : ℕ) → IsRegular a.kind → All AreBytes a.stream → AllByRecursion (IsTold a log next) inbox
    → IsState a.kind node.run.state → IsState a.kind (turn_from a.kind node inbox takes n).run.run.state
unfolding turn_from turn_if turn_with turn_without
made_state a log node [] takes n next regular bytes told h =
    turned_state a.kind node (guest_turn n None) (taken_turn n None) regular tt h
made_state a log node (w ∷ inbox) takes n next regular bytes told h = by (takes && a.kind.can_receive node.run.state)
  where
    by : (b : Bool) → IsState a.kind (turn_if b a.kind node w inbox n).run.run.state
    by true =
        turned_state a.kind node (guest_turn n (Some (raise_waiting w (sent_of node.items))))
        (taken_turn n (Some w.index))
        regular (given_bytes a log next w (sent_of node.items) bytes told.0) h
    by false = turned_state a.kind node (guest_turn n None) (taken_turn n None) regular tt h

-- WHAT EVENTS LEAVE
same_states : (kind : Kind) (past after : Past) → after.primary.run.state ≡ past.primary.run.state
    → after.secondary.run.state ≡ past.secondary.run.state → after.copy.run.run.state ≡ past.copy.run.run.state
    → AreStates kind past → AreStates kind after
same_states kind past after p s c h = record {
  primary = subst (IsState kind) (sym p) h.primary;
  secondary = subst (IsState kind) (sym s) h.secondary;
  copy = subst (IsState kind) (sym c) h.copy;
}

told_states : (kind : Kind) (past : Past) (ns : List KeptNumber) (ps : ProgressTable) (new : List KeptNumber)
    → AreStates kind past → AreStates kind (told_past past ns ps new)
told_states kind past ns ps new h = record { primary = h.primary; secondary = h.secondary; copy = h.copy }

captured_states : (kind : Kind) (past : Past) → AreStates kind past → AreStates kind (capture past)
unfolding capture
captured_states kind past h = record { primary = h.primary; secondary = h.secondary; copy = h.primary }

accepted_states : (kind : Kind) (b : Bool) (past : Past) (w : Waiting) → AreStates kind past
    → AreStates kind (accept_by b past w (trims_by w))
unfolding accept_by
accepted_states kind true past w h = record { primary = h.primary; secondary = h.secondary; copy = h.copy }
accepted_states kind false past w h = record { primary = h.primary; secondary = h.secondary; copy = h.copy }

heard_states : (kind : Kind) (past : Past) (m : Message) → AreStates kind past
    → AreStates kind (secondary_hears past m).after
unfolding hear_frame
heard_states kind past m h =
    heard_case (λ o. AreStates kind o.after) past m
    (λ index seen trim frame is. (record { primary = h.primary; secondary = h.secondary; copy = h.copy }))
    (λ t client number is. (record { primary = h.primary; secondary = h.secondary; copy = h.copy }))
    (λ n is. (record { primary = h.primary; secondary = h.copy; copy = h.copy })) (λ apart. h)

back_states : (kind : Kind) (past : Past) (m : Message) → AreStates kind past
    → AreStates kind (primary_hears past m).after
back_states kind past m h =
    heard_back_case (λ o. AreStates kind o.after) past m
    (λ t client number is. let base = known_base past t client number in
    let now = same_states kind past base refl refl refl h in
    known_settled (λ step after. AreStates kind after) past t client number past.sent_heard
    (λ out ns ps new. told_states kind base ns ps new now)
    (λ out ns ps new why alone. captured_states kind (told_past base ns ps new) (told_states kind base ns ps new now)))
    (λ frame is. let base = sent_base past frame in
    let now = same_states kind past base refl refl refl h in
    sent_settled (λ step after. AreStates kind after) past frame (past.sent_heard + 1)
    (λ out ns ps new. told_states kind base ns ps new now)
    (λ out ns ps new why alone. captured_states kind (told_past base ns ps new) (told_states kind base ns ps new now)))
    (λ n is. let base = acknowledge past in
    let now = same_states kind past base refl refl refl h in
    ack_settled (λ step after. AreStates kind after) past n (λ out ns ps new. told_states kind base ns ps new now)
    (λ out ns ps new why alone. captured_states kind (told_past base ns ps new) (told_states kind base ns ps new now)))
    (λ foreign. h)

state_cases : (F : Past → Line → Type 0) (a : Start) → StartsPlain a → IsRegular a.kind
    → Cases a.kind a.stream (Keeps F a (StatesFit a))
unfolding secondary_survives turn_secondary
state_cases F a plain regular = record {
  idle = λ past x e f steps r fits h. h;
  primary_turn =
      λ past d i b n e f steps r fits h.
      let made = turn_from a.kind past.primary past.primary_inbox i (numbers_of d b n) in
      let base = primary_base past made in
      let told = are_told F a plain.inbox steps past r in
      let now : AreStates a.kind base = record {
        primary = made_state a (entries steps) past.primary past.primary_inbox i (numbers_of d b n) past.next regular
            plain.bytes told.primary h.primary;
        secondary = h.secondary;
        copy = h.copy;
      } in
      primary_settled (λ step after. AreStates a.kind after) past d i b n made
      (λ out ns ps new. told_states a.kind base ns ps new now)
      (λ out ns ps new why alone. captured_states a.kind (told_past base ns ps new)
      (told_states a.kind base ns ps new now));
  secondary_turn =
      λ past d i b n e f steps r fits h.
      let told = are_told F a plain.inbox steps past r in
      (record {
        primary = h.primary;
        secondary = made_state a (entries steps) past.secondary past.secondary_inbox i (numbers_of d b n) past.next
            regular plain.bytes told.secondary h.secondary;
        copy = h.copy;
      });
  survivor_turn =
      λ past d i b n e steps r fits h.
      let made = turn_from a.kind past.secondary past.secondary_inbox i (numbers_of d b n) in
      let base = secondary_base past made in
      let told = are_told F a plain.inbox steps past r in
      let now : AreStates a.kind base = record {
        primary = h.primary;
        secondary = made_state a (entries steps) past.secondary past.secondary_inbox i (numbers_of d b n) past.next
            regular plain.bytes told.secondary h.secondary;
        copy = h.copy;
      } in
      survivor_settled (λ step after. AreStates a.kind after) past d i b n made
      (λ out ns ps new. told_states a.kind base ns ps new now)
      (λ out ns ps new why alone. captured_states a.kind (told_past base ns ps new)
      (told_states a.kind base ns ps new now));
  accepts = λ past frame kept t e f steps r fits h. accepted_states a.kind (is_primary_stop past.stop) past _ h;
  is_full = λ past frame kept t e f steps r fits h.
      (record { primary = h.primary; secondary = h.secondary; copy = h.copy });
  answers = λ past frame b t e steps r fits h. (record { primary = h.primary; secondary = h.secondary; copy = h.copy });
  drops = λ past frame why t e steps r fits h. (record { primary = h.primary; secondary = h.secondary; copy = h.copy });
  loses = λ past frame t e f steps r fits h. (record { primary = h.primary; secondary = h.secondary; copy = h.copy });
  secondary_hears =
      λ past m ms e f g steps r fits h. heard_states a.kind (record past { to_secondary = ms }) m
      (record { primary = h.primary; secondary = h.secondary; copy = h.copy });
  ignores =
      λ past m ms e f g running alone steps r fits h. (record {
        primary = h.primary;
        secondary = h.secondary;
        copy = h.copy;
      });
  primary_hears =
      λ past m ms e f running alone steps r fits h. back_states a.kind (record past { to_primary = ms }) m
      (record { primary = h.primary; secondary = h.secondary; copy = h.copy });
  primary_stops = λ past steps r fits h. (record { primary = h.primary; secondary = h.secondary; copy = h.copy });
  secondary_stops = λ past steps r fits h. (record { primary = h.primary; secondary = h.secondary; copy = h.copy });
  secondary_left = λ past e steps r fits h. (record { primary = h.primary; secondary = h.secondary; copy = h.copy });
  primary_left =
      λ past e steps r fits h. left_settled (λ step after. AreStates a.kind after) past
      (λ out ns ps new. told_states a.kind (lose_links past) ns ps new
      (record { primary = h.primary; secondary = h.secondary; copy = h.copy }));
  asks = λ past e f g steps r fits h. captured_states a.kind past h;
}

pub states_fit : (F : Past → Line → Type 0) (a : Start) → StartsPlain a → IsRegular a.kind
    → IsState a.kind a.run.state → (steps : List Step) (past : Past) → Reached F a steps past → AreStates a.kind past
states_fit F a plain regular first =
    each_history F a (StatesFit a) (record { primary = first; secondary = first; copy = first })
    (state_cases F a plain regular)
