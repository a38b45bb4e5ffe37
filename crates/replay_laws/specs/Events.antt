-- The event as the unit of writing.
use Rattle.std.specs.Prelude.{◌≡◌, List, ◌++◌, flat_map, ◌⊎◌}
use Rattle.command_plans.specs.Replay.{replay_files, state_steps}
use Rattle.file_steps.specs.Steps as file
use Rattle.file_steps.specs.Steps.{IsFront, creates}
use Rattle.pair_theorem.specs.Past.{Start, Step}
use Rattle.plan_laws.specs.Fronts.{AreInOrder}
use Rattle.replay_plan.specs.LogPlan.{log_steps, survivor_of, writes_of}

-- the files were being created
abbrev pub IsCreating : List file.Step → Type 0
IsCreating made = (left : List file.Step) × IsFront (creates replay_files) made left

-- they are there, and the log was being written: what some of its steps leave whole, a front of
-- what the next one leaves, in the order record, released frames, message, and nothing of the
-- others
pub record IsWritingLog (steps : List Step) (made : List file.Step) : Type 0 where
  pub later : List file.Step
  pub made_is : made ≡ creates replay_files ++ later
  pub in_order : AreInOrder writes_of steps later

-- the whole log was written, and then memory and disk were
pub record IsWritingState (a : Start) (steps : List Step) (made : List file.Step) : Type 0 where
  pub later : List file.Step
  pub made_is : made ≡ creates replay_files ++ (flat_map writes_of steps ++ later)
  pub left : List file.Step
  pub front : IsFront (state_steps (survivor_of a steps)) later left

-- where a replay is cut off
abbrev pub EventsAreWhole : Type 0
EventsAreWhole = (a : Start) (steps : List Step) (made rest : List file.Step)
    → IsFront (log_steps a steps) made rest
    → IsCreating made ⊎ (IsWritingLog steps made ⊎ IsWritingState a steps made)
