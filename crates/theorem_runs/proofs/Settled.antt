-- An event that settles, for whom the released frames don't count: numbers and progress are others, the secondary is
-- told the new numbers, and where something is a cause a checkpoint is captured.
use Rattle.std.proofs.Common.{◌≡◌, ℕ, ◌+◌, Bool, true, false, List, [], ◌∷◌, ◌++◌, length, map, Option, None, Some, refl, sym, ap, true≢false}
use Rattle.std.specs.Prelude.{if◌then◌else◌, is_some}
use Rattle.colo_base.specs.declared.fault.Cause.{Cause}
use Rattle.inet_frame.specs.declared.tuple.Tuple.{Tuple}
use Rattle.tcp_track.specs.Lines.{sent}
use Rattle.tcp_track.specs.Stands.{segments}
use Rattle.colo_wire.specs.declared.messages.Message.{Message}
use Rattle.colo_wire.specs.declared.messages.Message.TheVariants.{Known, Sent, Ack}
use Rattle.replay_log.specs.declared.lines.Line.{Line}
use Rattle.replay_log.specs.declared.lines.Line.TheVariants.{Primary, Secondary, ToPrimary, Report}
use Rattle.replay_log.specs.declared.records.Answer.{Answer}
use Rattle.replay_log.specs.declared.records.Answer.TheVariants.{HeardBack, Made, Reported}
use Rattle.replay_log.specs.declared.records.Mark.{Mark}
use Rattle.replay_log.specs.declared.records.Mark.TheVariants.{Acknowledged, Captured}
use Rattle.settle_rules.specs.Numbers.{KeptNumber, learn_number}
use Rattle.settle_rules.specs.OwnFrames.{own_frames}
use Rattle.settle_rules.specs.Progress.{ProgressTable}
use Rattle.settle_rules.specs.Release.{Released}
use Rattle.pair_theorem.specs.Checkpoint.{capture, next_capture}
use Rattle.pair_theorem.specs.Events.{Settling, ack_ended, acknowledge, committed_items, ended_by, known_ended, lose_links, no_frames, number_message, outcome_with, primary_ended, primary_survives, raise_count, restarts_in, sent_ended, settle_event, survivor_ended, turn_primary, turn_survivor}
use Rattle.pair_theorem.specs.GuestTurns.{TurnMade}
use Rattle.pair_theorem.specs.Past.{Outcome, Past, Step, step_with}
use Rattle.pair_theorem.proofs.EventCases.{settled_case}

abbrev pub told_past : Past → List KeptNumber → ProgressTable → List KeptNumber → Past
told_past past numbers progress new = record past {
  numbers = numbers;
  progress = progress;
  to_secondary = if past.is_reported then past.to_secondary else past.to_secondary ++ map number_message new;
}

lone_cause : (b : Bool) (why : Option Cause) (c : Cause) → (if b then None else why) ≡ Some c → b ≡ false
lone_cause true why c e = absurd (true≢false (sym (ap (λ (o : Option Cause). is_some o) e)))
lone_cause false why c e = refl

pub settled : (P : Step → Past → Type 0) (x : Line) (marks : List Mark) (delivered : Option Message)
    (answer : ℕ → Answer) (past : Past) (s : Settling)
    → ((out : List Released) (numbers : List KeptNumber) (progress : ProgressTable) (new : List KeptNumber)
    → P (step_with x (answer (length out)) marks delivered out) (told_past past numbers progress new))
    → ((out : List Released) (numbers : List KeptNumber) (progress : ProgressTable) (new : List KeptNumber)
    (why : Cause) → past.is_reported ≡ false
    → P (step_with x (answer (length out))
    (marks ++ Captured (next_capture (told_past past numbers progress new)) why ∷ []) delivered out)
    (capture (told_past past numbers progress new)))
    → P (outcome_with x marks delivered answer (settle_event past s)).step
    (outcome_with x marks delivered answer (settle_event past s)).after
unfolding settle_event ended_by
settled P x marks delivered answer past s none some =
    let e = settle_event past s in
    let new = (own_frames s.before past.numbers past.progress s.own).new_numbers in
    settled_case (λ (o : Outcome). P o.step o.after) x marks delivered answer e
    (λ h. none e.out e.after.numbers e.after.progress new)
    (λ why h. some e.out e.after.numbers e.after.progress new why (lone_cause past.is_reported _ why h))

-- WHAT IS TO BE SHOWN of an event that settles, over the past that it settles: of one without a cause, and of a capture
abbrev pub Uncaused : (Step → Past → Type 0) → Line → List Mark → Option Message → (ℕ → Answer) → Past → Type 0
Uncaused P x marks delivered answer past =
    (out : List Released) (numbers : List KeptNumber) (progress : ProgressTable) (new : List KeptNumber)
    → P (step_with x (answer (length out)) marks delivered out) (told_past past numbers progress new)

abbrev pub Caused : (Step → Past → Type 0) → Line → List Mark → Option Message → (ℕ → Answer) → Past → Type 0
Caused P x marks delivered answer past =
    (out : List Released) (numbers : List KeptNumber) (progress : ProgressTable) (new : List KeptNumber) (why : Cause)
    → past.is_reported ≡ false
    → P (step_with x (answer (length out))
    (marks ++ Captured (next_capture (told_past past numbers progress new)) why ∷ []) delivered out)
    (capture (told_past past numbers progress new))

abbrev pub primary_base : Past → TurnMade → Past
primary_base past made =
    record past {
      primary = made.run;
      primary_inbox = made.inbox;
      primary_turned = raise_count past.primary_turned;
    }

pub primary_settled : (P : Step → Past → Type 0) (past : Past) (d : ℕ) (i : Bool) (b n : ℕ) (made : TurnMade)
    → Uncaused P (Primary d i b n) [] None (Made made.index) (primary_base past made)
    → Caused P (Primary d i b n) [] None (Made made.index) (primary_base past made)
    → P (turn_primary past (Primary d i b n) made).step (turn_primary past (Primary d i b n) made).after
unfolding turn_primary primary_ended
primary_settled P past d i b n made none some =
    settled P (Primary d i b n) [] None (Made made.index) (primary_base past made) (record {
      before = past.primary.items;
      own = segments made.output;
      restarts = [];
      is_turn = true;
    }) none some

abbrev pub secondary_base : Past → TurnMade → Past
secondary_base past made =
    record past {
      secondary = made.run;
      secondary_inbox = made.inbox;
      secondary_turned = raise_count past.secondary_turned;
    }

pub survivor_settled : (P : Step → Past → Type 0) (past : Past) (d : ℕ) (i : Bool) (b n : ℕ) (made : TurnMade)
    → Uncaused P (Secondary d i b n) [] None (Made made.index) (secondary_base past made)
    → Caused P (Secondary d i b n) [] None (Made made.index) (secondary_base past made)
    → P (turn_survivor past (Secondary d i b n) made).step (turn_survivor past (Secondary d i b n) made).after
unfolding turn_survivor survivor_ended
survivor_settled P past d i b n made none some =
    settled P (Secondary d i b n) [] None (Made made.index) (secondary_base past made) (record {
      before = past.secondary.items;
      own = segments made.output;
      restarts = [];
      is_turn = true;
    }) none some

abbrev pub known_base : Past → Tuple → ℕ → ℕ → Past
known_base past t client number = record past { numbers = learn_number past.numbers t client number }

pub known_settled : (P : Step → Past → Type 0) (past : Past) (t : Tuple) (client number : ℕ) (m : ℕ)
    → Uncaused P ToPrimary [] (Some (Known t client number)) (HeardBack 12 m) (known_base past t client number)
    → Caused P ToPrimary [] (Some (Known t client number)) (HeardBack 12 m) (known_base past t client number)
    → P (outcome_with ToPrimary [] (Some (Known t client number)) (HeardBack 12 m)
    (known_ended past t client number)).step
    (outcome_with ToPrimary [] (Some (Known t client number)) (HeardBack 12 m) (known_ended past t client number)).after
unfolding known_ended
known_settled P past t client number m none some =
    settled P ToPrimary [] (Some (Known t client number)) (HeardBack 12 m) (known_base past t client number)
    (no_frames past.primary.items) none some

abbrev pub sent_base : Past → List ℕ → Past
sent_base past frame = record past {
  sent_heard = past.sent_heard + 1;
  known_items = past.known_items ++ map sent (segments (frame ∷ []));
}

pub sent_settled : (P : Step → Past → Type 0) (past : Past) (frame : List ℕ) (m : ℕ)
    → Uncaused P ToPrimary [] (Some (Sent frame)) (HeardBack 13 m) (sent_base past frame)
    → Caused P ToPrimary [] (Some (Sent frame)) (HeardBack 13 m) (sent_base past frame)
    → P (outcome_with ToPrimary [] (Some (Sent frame)) (HeardBack 13 m) (sent_ended past frame)).step
    (outcome_with ToPrimary [] (Some (Sent frame)) (HeardBack 13 m) (sent_ended past frame)).after
unfolding sent_ended
sent_settled P past frame m none some =
    settled P ToPrimary [] (Some (Sent frame)) (HeardBack 13 m) (sent_base past frame)
    (record (no_frames past.primary.items) { restarts = restarts_in past.known_items (segments (frame ∷ [])) })
    none some

pub ack_settled : (P : Step → Past → Type 0) (past : Past) (n : ℕ)
    → Uncaused P ToPrimary (Acknowledged n ∷ []) (Some (Ack n)) (HeardBack 14 0) (acknowledge past)
    → Caused P ToPrimary (Acknowledged n ∷ []) (Some (Ack n)) (HeardBack 14 0) (acknowledge past)
    → P (outcome_with ToPrimary (Acknowledged n ∷ []) (Some (Ack n)) (HeardBack 14 0) (ack_ended past)).step
    (outcome_with ToPrimary (Acknowledged n ∷ []) (Some (Ack n)) (HeardBack 14 0) (ack_ended past)).after
unfolding ack_ended
ack_settled P past n none some =
    settled P ToPrimary (Acknowledged n ∷ []) (Some (Ack n)) (HeardBack 14 0) (acknowledge past)
    (no_frames (committed_items past)) none some

-- a primary left alone captures nothing
pub left_settled : (P : Step → Past → Type 0) (past : Past)
    → Uncaused P Report [] None Reported (lose_links past)
    → P (outcome_with Report [] None Reported (primary_survives past)).step
    (outcome_with Report [] None Reported (primary_survives past)).after
unfolding primary_survives
left_settled P past none =
    settled P Report [] None Reported (lose_links past) (no_frames past.primary.items) none
    (λ out numbers progress new why alone. absurd (true≢false alone))
