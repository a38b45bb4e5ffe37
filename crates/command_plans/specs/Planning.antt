-- From what was read to a plan.
use Rattle.std.specs.Prelude.{◌≡◌, ℕ, List, [], ◌∷◌, IsTrue, Result, Ok, Err}
use Rattle.colo_base.specs.Clock.{ClockState}
use Rattle.colo_base.specs.Link.{LinkState}
use Rattle.colo_base.specs.Shelf.{ShelfState}
use Rattle.file_steps.specs.declared.fault.Fault.{Fault}
use Rattle.file_steps.specs.declared.fault.Fault.TheVariants.{Usage, Refused, Read, Write, NoMemory}
use Rattle.file_steps.specs.Plans.{Plan, Refusal, done, is_own, refused, waits}
use Rattle.file_steps.specs.Status.{refusal_of}
use Rattle.file_steps.specs.Steps.{Done, Fails, Outside, Writes, nothing, outside}

-- what is read is refused before any file is created
abbrev pub refusal_plan : Refusal → Plan
refusal_plan refusal = record { steps = []; end = refused refusal }

-- the plan of what was read
abbrev pub plan_or : {A : Type 0} → Result A Refusal → (A → Plan) → Plan
plan_or (Ok value) plan = plan value
plan_or (Err refusal) plan = refusal_plan refusal

-- making a plan fails so: it is that of a refusal, or memory was refused
abbrev pub IsRefusal : Plan → Fault → Type 0
IsRefusal plan Usage = ⊥
IsRefusal plan (Refused refusal) =
    (plan ≡ refusal_plan (refusal_of refusal)) × IsTrue (is_own refusal.status)
IsRefusal plan Read = ⊥
IsRefusal plan Write = ⊥
IsRefusal plan NoMemory = Unit {0}

-- the plan of the four texts that a run reads
abbrev pub of_four : (List ℕ → List ℕ → List ℕ → List ℕ → Plan) → List (List ℕ) → Plan
of_four plan (image ∷ (disk ∷ (client ∷ (lines ∷ [])))) = plan image disk client lines
of_four plan texts = record { steps = []; end = waits }

-- ---- a plan carried out on files, whatever the link and the clock are

-- its steps were carried out, and it ends with this line
pub record PlanCompletes (out : List ℕ) (plan : Plan) (old new : ShelfState) (line : List ℕ)
    : Type 0 where
  pub end : plan.end ≡ done line
  pub steps : Writes out plan.steps old new

-- its steps were carried out and it ends with this refusal, or they were cut off by this fault
abbrev pub EndsBy : List ℕ → Plan → Outside → Outside → Fault → Type 0
EndsBy out plan old new (Refused refusal) =
    IsTrue (is_own refusal.status) × (plan.end ≡ refused (refusal_of refusal))
    × Done out plan.steps nothing old new
EndsBy out plan old new fault = Fails out plan.steps nothing old new fault

abbrev pub PlanFails : List ℕ → Plan → ShelfState → ShelfState → Fault → Type 0
PlanFails out plan old new fault = (l : LinkState) (k : ClockState)
    → EndsBy out plan (outside old l k) (outside new l k) fault
