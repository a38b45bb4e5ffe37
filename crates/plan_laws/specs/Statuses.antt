-- When a status comes, of a task whose plan is made of the texts alone.
use Rattle.std.specs.Prelude.{◌≡◌, ◌⊎◌}
use Rattle.command_plans.specs.Planning.{refusal_plan}
use Rattle.file_steps.specs.Ending.{Call, Ends, Gives}
use Rattle.file_steps.specs.Plans.{Refusal}

-- where what is read is refused before any file is created, its own status comes, unless a file
-- can't be read or memory is refused
abbrev pub RefusalsAreFirst : Type 0
RefusalsAreFirst = (call : Call) → Ends call → (refusal : Refusal) → Gives call
    (λ task plan status. plan ≡ refusal_plan refusal
    → (status ≡ refusal.status) ⊎ ((status ≡ 6) ⊎ (status ≡ 8)))
