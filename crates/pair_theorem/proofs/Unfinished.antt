-- A checkpoint that is not whole changes nothing of the secondary, on every log.
use Rattle.std.proofs.Common.{◌≡◌, ℕ, ◌+◌, ◌||◌, Bool, true, false, List, [], ◌∷◌, ◌++◌, Option, None, Some, refl, sym, ap, subst, ◌∙◌, true≢false}
use Rattle.std.specs.Prelude.{All}
use Rattle.std.proofs.lemmas.List.Elements.{All-nil, All-cons}
use Rattle.colo_base.specs.declared.fault.Cause.{Cause}
use Rattle.settle_rules.specs.Release.{Released}
use Rattle.state_wire.specs.Guest.{Kind}
use Rattle.colo_wire.specs.declared.messages.Message.{Message}
use Rattle.colo_wire.specs.declared.messages.Message.TheVariants.{Frame, Number, Begin, State, Page, Disk, Write, Held, Bytes, End, Known, Sent, Ack}
use Rattle.colo_wire.specs.declared.messages.Message.TheVariants as message
use Rattle.replay_log.specs.declared.lines.Line.{Line}
use Rattle.replay_log.specs.declared.lines.Line.TheVariants.{Primary, Secondary, ToSecondary, ToPrimary, Report}
use Rattle.replay_log.specs.declared.records.Answer.{Answer}
use Rattle.replay_log.specs.declared.records.Answer.TheVariants.{Made, HeardBack, Reported}
use Rattle.replay_log.specs.declared.records.Mark.{Mark}
use Rattle.replay_log.specs.declared.records.Mark.TheVariants.{Acknowledged}
use Rattle.pair_theorem.specs.Checkpoint.{capture}
use Rattle.pair_theorem.specs.Events.{Ended, ack_ended, ended_by, known_ended, mark_cause, numbers_of, outcome_of, outcome_with, primary_ended, primary_hears, primary_survives, secondary_hears, secondary_survives, sent_ended, settle_event, survivor_ended, turn_primary, turn_secondary, turn_survivor}
use Rattle.pair_theorem.specs.GuestTurns.{TurnMade, turn_from}
use Rattle.pair_theorem.specs.History.{pair_log, steps_from}
use Rattle.pair_theorem.specs.Log.{is_report}
use Rattle.pair_theorem.specs.Past.{Past, Start, first_past}
use Rattle.pair_theorem.specs.Places.{Event, events, events_from}
use Rattle.pair_theorem.specs.Splicing.{ChangesNothing, IsUnchanged, is_part}
use Rattle.pair_theorem.proofs.EventCases.{Cases, Claim, asked_outcome, each_case}
use Rattle.pair_theorem.proofs.EventFacts.{event_facts}

-- what holds of each event, with the outcome that the definitions give it, holds of the events of each log
each_event_from : (kind : Kind) (stream : List (List ℕ)) (Q : Event → Type 0)
    → ((past : Past) (released : List Released) (x : Line) → Q (record {
      past = past;
      released = released;
      step = (outcome_of kind stream past x).step;
      outcome = outcome_of kind stream past x;
    })) → (past : Past) (released : List Released) (lines : List Line)
    → All Q (events_from kind stream past released (steps_from kind stream past lines))
unfolding steps_from events_from
each_event_from kind stream Q each past released [] = All-nil Q
each_event_from kind stream Q each past released (x ∷ xs) =
    let o = outcome_of kind stream past x in
    let rest = steps_from kind stream o.after xs in
    let made : Line → List Event =
    λ l. let p = outcome_of kind stream past l in
    record { past = past; released = released; step = o.step; outcome = p }
    ∷ events_from kind stream p.after (released ++ o.step.released) rest in
    subst (λ (l : Line). All Q (made l)) (sym (event_facts kind stream past x).line)
    (All-cons Q (record { past = past; released = released; step = o.step; outcome = o })
    (events_from kind stream o.after (released ++ o.step.released) rest) (each past released x)
    (each_event_from kind stream Q each o.after (released ++ o.step.released) xs))

pub each_event : (a : Start) (Q : Event → Type 0)
    → ((past : Past) (released : List Released) (x : Line) → Q (record {
      past = past;
      released = released;
      step = (outcome_of a.kind a.stream past x).step;
      outcome = outcome_of a.kind a.stream past x;
    })) → (lines : List Line) → All Q (events a (pair_log a lines))
unfolding events pair_log
each_event a Q each lines = each_event_from a.kind a.stream Q each (first_past a) [] lines

-- a part of a checkpoint, or a report, leaves the secondary as it is
ChangesNothingOf : Claim
ChangesNothingOf past x o = (is_part o.step.delivered || is_report x) ≡ true → IsUnchanged past o.after

same : (past : Past) → IsUnchanged past past
same past = record { run = refl; inbox = refl; numbers = refl }

-- a cause changes nothing of it
marked_same : (why : Option Cause) (x : Line) (marks : List Mark) (delivered : Option Message) (answer : ℕ → Answer)
    (past : Past) (e : Ended) → IsUnchanged past e.after
    → IsUnchanged past (mark_cause why x marks delivered answer e).after
unfolding mark_cause capture
marked_same None x marks delivered answer past e h = h
marked_same (Some why) x marks delivered answer past e h =
    record { run = h.run; inbox = h.inbox; numbers = h.numbers }

marked_told : (why : Option Cause) (x : Line) (marks : List Mark) (delivered : Option Message) (answer : ℕ → Answer)
    (e : Ended) → (mark_cause why x marks delivered answer e).step.delivered ≡ delivered
unfolding mark_cause
marked_told None x marks delivered answer e = refl
marked_told (Some why) x marks delivered answer e = refl

primary_same : (past : Past) (d : ℕ) (i : Bool) (b n : ℕ) (made : TurnMade)
    → IsUnchanged past (turn_primary past (Primary d i b n) made).after
unfolding turn_primary outcome_with primary_ended settle_event ended_by
primary_same past d i b n made =
    marked_same (primary_ended past made).cause (Primary d i b n) [] None (Made made.index) past
    (primary_ended past made) (record { run = refl; inbox = refl; numbers = refl })

-- a turn delivers nothing
secondary_turn_same : (past : Past) (d : ℕ) (i : Bool) (b n : ℕ) (made : TurnMade)
    → ChangesNothingOf past (Secondary d i b n) (turn_secondary past (Secondary d i b n) made)
unfolding turn_secondary ChangesNothingOf
secondary_turn_same past d i b n made e = absurd (true≢false (sym e))

survivor_turn_same : (past : Past) (d : ℕ) (i : Bool) (b n : ℕ) (made : TurnMade)
    → ChangesNothingOf past (Secondary d i b n) (turn_survivor past (Secondary d i b n) made)
unfolding turn_survivor outcome_with ChangesNothingOf
survivor_turn_same past d i b n made e =
    absurd (true≢false (sym e ∙ ap (λ (m : Option Message). is_part m || false)
    (marked_told (survivor_ended past made).cause (Secondary d i b n) [] None (Made made.index)
    (survivor_ended past made))))

part_same : (past : Past) (m : Message) (ms : List Message)
    → ChangesNothingOf past ToSecondary (secondary_hears (record past { to_secondary = ms }) m)
unfolding secondary_hears ChangesNothingOf
part_same past (Frame index seen trim frame) ms e = absurd (true≢false (sym e))
part_same past (Number t client number) ms e = absurd (true≢false (sym e))
part_same past (Begin n) ms e = record { run = refl; inbox = refl; numbers = refl }
part_same past (State bytes) ms e = record { run = refl; inbox = refl; numbers = refl }
part_same past (Page k bytes) ms e = record { run = refl; inbox = refl; numbers = refl }
part_same past (Disk first bytes) ms e = record { run = refl; inbox = refl; numbers = refl }
part_same past (Write k bytes) ms e = record { run = refl; inbox = refl; numbers = refl }
part_same past (Held index seen trim frame) ms e = record { run = refl; inbox = refl; numbers = refl }
part_same past (message.Line t mac flags client own number refused acked window mss base) ms e =
    record { run = refl; inbox = refl; numbers = refl }
part_same past (Bytes bytes) ms e = record { run = refl; inbox = refl; numbers = refl }
part_same past (End n) ms e = absurd (true≢false (sym e))
part_same past (Known t client number) ms e = record { run = refl; inbox = refl; numbers = refl }
part_same past (Sent frame) ms e = record { run = refl; inbox = refl; numbers = refl }
part_same past (Ack n) ms e = record { run = refl; inbox = refl; numbers = refl }

up_same : (past : Past) (m : Message) (ms : List Message)
    → IsUnchanged past (primary_hears (record past { to_primary = ms }) m).after
unfolding primary_hears outcome_with known_ended sent_ended ack_ended settle_event ended_by
up_same past (Known t client number) ms =
    let e = known_ended (record past { to_primary = ms }) t client number in
    marked_same e.cause ToPrimary [] (Some (Known t client number)) (HeardBack 12 past.sent_heard) past e
    (record { run = refl; inbox = refl; numbers = refl })
up_same past (Sent frame) ms =
    let e = sent_ended (record past { to_primary = ms }) frame in
    marked_same e.cause ToPrimary [] (Some (Sent frame)) (HeardBack 13 (past.sent_heard + 1)) past e
    (record { run = refl; inbox = refl; numbers = refl })
up_same past (Ack n) ms =
    let e = ack_ended (record past { to_primary = ms }) in
    marked_same e.cause ToPrimary (Acknowledged n ∷ []) (Some (Ack n)) (HeardBack 14 0) past e
    (record { run = refl; inbox = refl; numbers = refl })
up_same past (Frame index seen trim frame) ms = record { run = refl; inbox = refl; numbers = refl }
up_same past (Number t client number) ms = record { run = refl; inbox = refl; numbers = refl }
up_same past (Begin n) ms = record { run = refl; inbox = refl; numbers = refl }
up_same past (State bytes) ms = record { run = refl; inbox = refl; numbers = refl }
up_same past (Page k bytes) ms = record { run = refl; inbox = refl; numbers = refl }
up_same past (Disk first bytes) ms = record { run = refl; inbox = refl; numbers = refl }
up_same past (Write k bytes) ms = record { run = refl; inbox = refl; numbers = refl }
up_same past (Held index seen trim frame) ms = record { run = refl; inbox = refl; numbers = refl }
up_same past (message.Line t mac flags client own number refused acked window mss base) ms =
    record { run = refl; inbox = refl; numbers = refl }
up_same past (Bytes bytes) ms = record { run = refl; inbox = refl; numbers = refl }
up_same past (End n) ms = record { run = refl; inbox = refl; numbers = refl }

survived_same : (past : Past) → IsUnchanged past (secondary_survives past).after
unfolding secondary_survives
survived_same past = record { run = refl; inbox = refl; numbers = refl }

left_same : (past : Past) → IsUnchanged past (outcome_with Report [] None Reported (primary_survives past)).after
unfolding outcome_with primary_survives settle_event ended_by
left_same past =
    marked_same (primary_survives past).cause Report [] None Reported past (primary_survives past)
    (record { run = refl; inbox = refl; numbers = refl })

asked_same : (past : Past) → IsUnchanged past (asked_outcome past).after
unfolding capture
asked_same past = record { run = refl; inbox = refl; numbers = refl }

unchanged : (kind : Kind) (stream : List (List ℕ)) → Cases kind stream ChangesNothingOf
unfolding ChangesNothingOf
unchanged kind stream = record {
  idle = λ past x f g e. same past;
  primary_turn =
      λ past d i b n f g e. primary_same past d i b n
      (turn_from kind past.primary past.primary_inbox i (numbers_of d b n));
  secondary_turn =
      λ past d i b n f g. secondary_turn_same past d i b n
      (turn_from kind past.secondary past.secondary_inbox i (numbers_of d b n));
  survivor_turn =
      λ past d i b n f. survivor_turn_same past d i b n
      (turn_from kind past.secondary past.secondary_inbox i (numbers_of d b n));
  accepts = λ past frame kept t f g e. absurd (true≢false (sym e));
  is_full = λ past frame kept t f g e. absurd (true≢false (sym e));
  answers = λ past frame b t f e. absurd (true≢false (sym e));
  drops = λ past frame why t f e. absurd (true≢false (sym e));
  loses = λ past frame t f g e. absurd (true≢false (sym e));
  secondary_hears = λ past m ms f g h. part_same past m ms;
  ignores = λ past m ms f g h i j e. (record { run = refl; inbox = refl; numbers = refl });
  primary_hears = λ past m ms f g h i e. up_same past m ms;
  primary_stops = λ past e. (record { run = refl; inbox = refl; numbers = refl });
  secondary_stops = λ past e. (record { run = refl; inbox = refl; numbers = refl });
  secondary_left = λ past f e. survived_same past;
  primary_left = λ past f e. left_same past;
  asks = λ past f g h e. asked_same past;
}

pub unfinished_changes_nothing : (a : Start) (lines : List Line) → All ChangesNothing (events a (pair_log a lines))
unfolding ChangesNothingOf
unfinished_changes_nothing a =
    each_event a ChangesNothing (λ past released x e. each_case a.kind a.stream ChangesNothingOf
    (unchanged a.kind a.stream) past x
    (subst (λ (l : Line). (is_part (outcome_of a.kind a.stream past x).step.delivered || is_report l) ≡ true)
    (event_facts a.kind a.stream past x).line e))
