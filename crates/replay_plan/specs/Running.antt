-- A pair that runs by a schedule, and the log of whatever start it stands for.
use Rattle.std.specs.Prelude.{◌≡◌, List, length, sum_by}
use Rattle.replay_log.specs.declared.lines.Line.{Line}
use Rattle.command_plans.specs.Replay.{count, survivor}
use Rattle.command_plans.specs.declared.replay.Counts.{Counts}
use Rattle.pair_core.specs.Pair.{Pair}
use Rattle.pair_history.specs.Laws.{StandsAfter, past_after}
use Rattle.pair_theorem.specs.Events.{outcome_of}
use Rattle.pair_theorem.specs.History.{pair_log}
use Rattle.pair_theorem.specs.Past.{Start, Step}
use Rattle.pair_theorem.specs.Starts.{IsStart}
use Rattle.pair_world.specs.Running.{StandsForStart}
use Rattle.replay_plan.specs.LogPlan.{captured_by, released_by, survivor_of}

-- P holds of each start that a pair stands for
abbrev pub OfItsStart : Pair → (Start → Type 0) → Type 0
OfItsStart w P = (a : Start) → IsStart a → StandsForStart a w → P a

-- the step that a line makes after some lines
abbrev pub step_after : Start → List Line → Line → Step
step_after a lines line = (outcome_of a.kind a.stream (past_after a lines) line).step

-- P holds of the step of a line, whatever start and lines a pair stands for
abbrev pub OfItsStep : Pair → Line → (Step → Type 0) → Type 0
OfItsStep w line P =
    (a : Start) (lines : List Line) → IsStart a → StandsAfter a lines w
    → P (step_after a lines line)

-- so many steps, frames and checkpoints
pub record IsCounted (steps : List Step) (counts : Counts) : Type 0 where
  pub lines : counts.lines ≡ length steps
  pub released : counts.released ≡ count (sum_by released_by steps)
  pub captured : counts.captured ≡ count (sum_by captured_by steps)

-- the log of these lines was made: its steps are counted, and the survivor is in its state
pub record HasRun (a : Start) (lines : List Line) (counts : Counts) (w : Pair) : Type 0 where
  pub counted : IsCounted (pair_log a lines) counts
  pub state : (survivor w).state ≡ survivor_of a (pair_log a lines)
