-- Where a replay is cut off.
use Rattle.std.proofs.Common.{List, ◌++◌, flat_map, inl, inr, ◌⊎◌, ap, ◌∙◌}
use Rattle.command_plans.specs.Replay.{replay_files, state_steps}
use Rattle.file_steps.specs.Steps as file
use Rattle.file_steps.specs.Steps.{creates}
use Rattle.pair_theorem.specs.Past.{Start, Step}
use Rattle.plan_laws.specs.Fronts.{GoesPast, StaysBefore}
use Rattle.plan_laws.proofs.FrontLemmas.{fronts_of_two, in_order}
use Rattle.replay_plan.specs.LogPlan.{log_steps, survivor_of, writes_of}
use Rattle.replay_laws.specs.Events.{EventsAreWhole, IsCreating, IsWritingLog, IsWritingState}

module _ (a : Start) (steps : List Step) (rest : List file.Step) where
  abbrev happened : List file.Step
  happened = flat_map writes_of steps

  abbrev left : List file.Step
  left = state_steps (survivor_of a steps)

  later : (made : List file.Step) (g : GoesPast (creates replay_files) (happened ++ left) made rest)
      → StaysBefore happened left g.later rest ⊎ GoesPast happened left g.later rest
      → IsCreating made ⊎ (IsWritingLog steps made ⊎ IsWritingState a steps made)
  later made g (inl s) = inr (inl (record {
    later = g.later;
    made_is = g.made_is;
    in_order = in_order writes_of steps g.later s.left s.front;
  }))
  later made g (inr p) = inr (inr (record {
    later = p.later;
    made_is = g.made_is ∙ ap (λ (l : List file.Step). creates replay_files ++ l) p.made_is;
    left = rest;
    front = p.front;
  }))

  first : (made : List file.Step) → StaysBefore (creates replay_files) (happened ++ left) made rest
      ⊎ GoesPast (creates replay_files) (happened ++ left) made rest
      → IsCreating made ⊎ (IsWritingLog steps made ⊎ IsWritingState a steps made)
  first made (inl s) = inl (s.left, s.front)
  first made (inr g) = later made g (fronts_of_two happened left g.later rest g.front)

pub events_are_whole : EventsAreWhole
unfolding log_steps
events_are_whole a steps made rest front =
    first a steps rest made
    (fronts_of_two (creates replay_files) (happened a steps rest ++ left a steps rest) made rest front)
