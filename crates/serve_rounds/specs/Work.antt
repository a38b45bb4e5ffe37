-- The work of a command that uses the link and the clock: a plan, by what the outside says.
use Rattle.std.specs.Prelude.{◌≡◌, ℕ, IsTrue, List, [], ◌∷◌, ◌++◌}
use Rattle.colo_base.specs.Link.{Arrival}
use Rattle.file_steps.specs.Plans.{End, Plan, is_own, refused, waits}
use Rattle.file_steps.specs.Status.{refusal_of}
use Rattle.file_steps.specs.Steps.{Done, Fails, Outside, Said, Step, hear, read_clock, said_then}
use Rattle.file_steps.specs.declared.fault.Fault.{Fault}
use Rattle.file_steps.specs.declared.fault.Fault.TheVariants.{Usage, Refused, Read, Write, NoMemory}

abbrev pub Work : Type 0
Work = Said → Plan

-- steps before those of a plan
abbrev pub after : List Step → Plan → Plan
after steps plan = record { steps = steps ++ plan.steps; end = plan.end }

-- steps to which the outside says nothing, and then the rest
abbrev pub does : List Step → Work → Work
does steps next said = after steps (next said)

-- one receive with so much room; what came says how the work goes on, and it waits where nothing
-- is said yet
abbrev pub by_arrivals : ℕ → (Arrival → Work) → List Arrival → List ℕ → Plan
by_arrivals room next [] ticks = record { steps = hear room ∷ []; end = waits }
by_arrivals room next (a ∷ arrivals) ticks =
    after (hear room ∷ []) (next a (record { arrivals = arrivals; ticks = ticks }))

abbrev pub hears : ℕ → (Arrival → Work) → Work
hears room next said = by_arrivals room next said.arrivals said.ticks

-- one reading of the clock, alike
abbrev pub by_ticks : (ℕ → Work) → List Arrival → List ℕ → Plan
by_ticks next arrivals [] = record { steps = read_clock ∷ []; end = waits }
by_ticks next arrivals (t ∷ ticks) =
    after (read_clock ∷ []) (next t (record { arrivals = arrivals; ticks = ticks }))

abbrev pub reads : (ℕ → Work) → Work
reads next said = by_ticks next said.arrivals said.ticks

-- ---- how far the work came

-- it ends so: its steps were carried out, and no call failed
pub record EndsWith (out : List ℕ) (work : Work) (end : End) (old new : Outside) : Type 0 where
  pub said : Said
  pub ends : (work said).end ≡ end
  pub done : Done out (work said).steps said old new

-- its steps were cut off by this fault
pub record IsCut (out : List ℕ) (work : Work) (old new : Outside) (fault : Fault) : Type 0 where
  pub said : Said
  pub fails : Fails out (work said).steps said old new fault

-- it was stopped by this fault: it ends with the refusal, or was cut off
abbrev pub IsStopped : List ℕ → Work → Outside → Outside → Fault → Type 0
IsStopped out work old new Usage = ⊥
IsStopped out work old new (Refused refusal) =
    IsTrue (is_own refusal.status) × EndsWith out work (refused (refusal_of refusal)) old new
IsStopped out work old new Read = IsCut out work old new Read
IsStopped out work old new Write = IsCut out work old new Write
IsStopped out work old new NoMemory = IsCut out work old new NoMemory

-- its first steps were carried out, and this is the rest of it, whatever the outside says then
pub record Reaches (out : List ℕ) (work rest : Work) (old new : Outside) : Type 0 where
  pub steps : List Step
  pub said : Said
  pub goes : (more : Said) → work (said_then said more) ≡ after steps (rest more)
  pub done : Done out steps said old new
