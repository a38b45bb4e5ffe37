-- A pair that runs, step by step, and what the theorem says of it.
use Rattle.std.specs.Prelude.{◌≡◌, ℕ, ⊤, List, [], ◌∷◌, ◌++◌, map}
use Rattle.settle_rules.specs.Release.{released_frame}
use Rattle.state_wire.specs.Guest.{Meaning}
use Rattle.replay_log.specs.declared.lines.Line.{Line}
use Rattle.pair_core.specs.Pair.{Pair}
use Rattle.pair_core.specs.declared.pair.Step.{Step}
use Rattle.pair_theorem.specs.Events.{outcome_of}
use Rattle.pair_theorem.specs.History.{pair_log}
use Rattle.pair_theorem.specs.LogParts.{delivered_bytes}
use Rattle.pair_theorem.specs.Past as theirs
use Rattle.pair_theorem.specs.Past.{Start, boot}
use Rattle.pair_theorem.specs.Starts.{IsStart}
use Rattle.pair_history.specs.Laws.{StandsAfter, past_after}

-- a start to which a client sends one frame more
abbrev pub with_frame : Start → List ℕ → Start
with_frame a frame = record a { stream = a.stream ++ frame ∷ [] }

-- a pair of which no event has happened stands for a start, and goes on to, whatever its clients
-- send before its first event
abbrev pub StandsForStart : Start → Pair → Type 0
StandsForStart a w = StandsAfter a [] w

abbrev pub TakesFrame : Pair → Pair → List ℕ → Type 0
TakesFrame old new frame =
    (a : Start) → StandsForStart a old → StandsForStart (with_frame a frame) new

-- two guests of one kind in one state
pub record AreAlike (first second : Meaning) : Type 0 where
  pub kind : second.kind ≡ first.kind
  pub state : second.state ≡ first.state

-- what both boot from, with the frames that clients send
abbrev pub start_of : Meaning → Meaning → List (List ℕ) → Start
start_of first second frames = boot first.kind frames first.state first.turned second.turned

-- a step is the theorem's: its record in the log, the frames that go out, the message delivered
pub record TellsAs (step : theirs.Step) (made : Step) : Type 0 where
  pub entry : made.entry ≡ step.entry
  pub released : made.released ≡ map released_frame step.released
  pub wire : made.wire.items ≡ delivered_bytes step

-- after any lines of any start
pub record IsNext (a : Start) (lines : List Line) (line : Line) (new : Pair) (made : Step)
    : Type 0 where
  pub tells : TellsAs (outcome_of a.kind a.stream (past_after a lines) line).step made
  pub stands : StandsAfter a (lines ++ line ∷ []) new

abbrev pub GoesOnBy : Pair → Pair → Line → Step → Type 0
GoesOnBy old new line made =
    (a : Start) (lines : List Line) → IsStart a → StandsAfter a lines old →
    IsNext a lines line new made

-- all steps of a schedule
abbrev pub TellAs : List theirs.Step → List Step → Type 0
TellAs [] [] = ⊤
TellAs (step ∷ steps) (m ∷ made) = TellsAs step m × TellAs steps made
TellAs _ _ = ⊥

-- From any start what a pair tells is the log of the schedule, and then it stands for the past
-- after it.
pub record RunsAs (a : Start) (lines : List Line) (new : Pair) (made : List Step) : Type 0 where
  pub log : TellAs (pair_log a lines) made
  pub stands : StandsAfter a lines new

abbrev pub RunsBy : Pair → List Line → Pair → List Step → Type 0
RunsBy old lines new made =
    (a : Start) → IsStart a → StandsForStart a old → RunsAs a lines new made
