-- A pair that stands for the past after some lines: the event of one line more is the theorem's,
-- and then the pair stands for the past after it.
use Rattle.std.specs.Prelude.{◌≡◌, ℕ, Bool, true, false, List, [], ◌∷◌, map, None, ⊤}
use Rattle.settle_rules.specs.Release.{released_frame}
use Rattle.state_wire.specs.Guest.{GuestState, Kind}
use Rattle.colo_wire.specs.declared.messages.Message.{Message}
use Rattle.replay_log.specs.declared.lines.Line.{Line}
use Rattle.replay_log.specs.declared.lines.Line.TheVariants.{Primary, Secondary}
use Rattle.node_primary.specs.Node.{IsCaptured}
use Rattle.node_primary.specs.Steps.{is_due}
use Rattle.node_secondary.specs.Steps.{is_due_to}
use Rattle.pair_core.specs.Events as core
use Rattle.pair_core.specs.Pair.{Pair, is_primary, is_secondary, new_pair}
use Rattle.pair_core.specs.Steps.{refusal}
use Rattle.pair_theorem.specs.Events.{outcome_of}
use Rattle.pair_theorem.specs.History.{pair_log, past_from}
use Rattle.pair_theorem.specs.LogParts.{delivered_bytes}
use Rattle.pair_theorem.specs.Past.{Outcome, Past, Start, Step, boot, first_past}
use Rattle.pair_theorem.specs.Starts.{IsStart}
use Rattle.pair_history.specs.Standing.{Stands}

-- the past after some lines
unfoldable pub past_after : Start → List Line → Past
unfolding past_from
past_after a lines = past_from a.kind a.stream (first_past a) lines

abbrev pub StandsAfter : Start → List Line → Pair → Type 0
StandsAfter a lines w = Stands a.kind a.stream (past_after a lines) w

-- A pair of which no event has happened stands for the past of a boot, once the clients' frames are
-- there.
abbrev pub BeginsAtBoot : Type 0
BeginsAtBoot =
    (kind : Kind) (stream : List (List ℕ)) (state : GuestState) (m n : ℕ) →
    StandsAfter (boot kind stream state m n) []
    (record (new_pair (record { kind = kind; state = state; turned = m })
    (record { kind = kind; state = state; turned = n })) { frames = stream })

-- what an event answers, marks, releases and delivers is the step of the theorem
pub record HappensAs (step : Step) (o : core.Outcome) : Type 0 where
  pub answer : o.answer ≡ step.entry.answer
  pub marks : o.marks ≡ step.entry.marks
  pub released : o.released ≡ map released_frame step.released
  pub wire : o.wire ≡ delivered_bytes step

-- and then the pair stands for the past after it
pub record GoesOnTo (kind : Kind) (stream : List (List ℕ)) (theirs : Outcome) (o : core.Outcome)
    : Type 0 where
  pub happens : HappensAs theirs.step o
  pub after : Stands kind stream theirs.after o.after

-- a guest that rests until a checkpoint is acknowledged is in a state that was captured
abbrev pub RestsCaptured : Pair → Type 0
RestsCaptured w = w.first.awaits ≡ true → IsCaptured w.first.guest

-- The event of this line, after any lines.
abbrev pub GoesOn : Line → Type 0
GoesOn x =
    (a : Start) (lines : List Line) (w : Pair) → IsStart a → StandsAfter a lines w →
    refusal w x ≡ None → RestsCaptured (core.event_of w x).after →
    GoesOnTo a.kind a.stream (outcome_of a.kind a.stream (past_after a lines) x) (core.event_of w x)

abbrev pub PrimaryGoesOn : Type 0
PrimaryGoesOn = (d : ℕ) (i : Bool) (b n : ℕ) → GoesOn (Primary d i b n)

abbrev pub SecondaryGoesOn : Type 0
SecondaryGoesOn = (d : ℕ) (i : Bool) (b n : ℕ) → GoesOn (Secondary d i b n)

-- ---- deliveries

-- After any lines, until a report, the first message on a link to a node that runs is due. So none
-- is lost: a delivery answers `-` only where nothing is on the link.
abbrev pub DownIsDue : Type 0
DownIsDue =
    (a : Start) (lines : List Line) (w : Pair) (m : Message) (ms : List Message) →
    StandsAfter a lines w → is_secondary w.stopped ≡ false → w.is_reported ≡ false →
    w.down ≡ m ∷ ms → is_due_to w.second m ≡ true

abbrev pub UpIsDue : Type 0
UpIsDue =
    (a : Start) (lines : List Line) (w : Pair) (m : Message) (ms : List Message) →
    StandsAfter a lines w → is_primary w.stopped ≡ false → w.is_reported ≡ false →
    w.up ≡ m ∷ ms → is_due w.first m ≡ true

-- ---- a whole log

-- the events of some lines, from a pair on
unfoldable pub events_from : Pair → List Line → List core.Outcome
events_from w [] = []
events_from w (x ∷ xs) = core.event_of w x ∷ events_from (core.event_of w x).after xs

-- none of the lines is refused, and after each event a guest that rests was captured
abbrev pub AreEvents : Pair → List Line → Type 0
AreEvents w [] = ⊤
AreEvents w (x ∷ xs) =
    (refusal w x ≡ None)
    × (RestsCaptured (core.event_of w x).after × AreEvents (core.event_of w x).after xs)

abbrev pub HappenAs : List Step → List core.Outcome → Type 0
HappenAs [] [] = ⊤
HappenAs (step ∷ steps) (o ∷ os) = HappensAs step o × HappenAs steps os
HappenAs _ _ = ⊥

-- From a boot on the events of a pair are the log of the theorem.
abbrev pub RunsTheLog : Type 0
RunsTheLog =
    (a : Start) (w : Pair) (lines : List Line) → IsStart a → StandsAfter a [] w →
    AreEvents w lines → HappenAs (pair_log a lines) (events_from w lines)
