-- Which calls of an object in memory are to fail.
use Rattle.std.specs.Prelude.{ℕ, Bool, List, [], ◌∷◌, ◌++◌, ◌==◌}
use Rattle.std.specs.List.{list_any}
use Rattle.colo_base.specs.Count.{incremented}

-- the numbers of the calls that are to fail, counted from 1, and how many calls were made
pub record PlanState : Type 0 where
  pub failing : List ℕ
  pub made : ℕ

-- no call is to fail, and none was made
abbrev pub empty_plan : PlanState
empty_plan = record { failing = []; made = 0 }

-- the plan once one more call is to fail
abbrev pub plan_failure : PlanState → ℕ → PlanState
plan_failure plan call = record plan { failing = plan.failing ++ call ∷ [] }

-- the plan after one more call
abbrev pub count_call : PlanState → PlanState
count_call plan = record plan { made = incremented plan.made }

-- whether the next call is to fail
abbrev pub is_next_failing : PlanState → Bool
is_next_failing plan = list_any (λ number. number == (count_call plan).made) plan.failing
