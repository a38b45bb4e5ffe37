-- From how a plan's steps end to how its task ends.
use Rattle.std.proofs.Common.{◌≡◌, ℕ, List, inl, inr}
use Rattle.colo_base.specs.Shelf.{ShelfState}
use Rattle.colo_base.proofs.StateLemmas.{changes_none}
use Rattle.file_steps.specs.declared.fault.Fault.{Fault}
use Rattle.file_steps.specs.declared.fault.Fault.TheVariants.{Usage, Refused, Read, Write, NoMemory}
use Rattle.file_steps.specs.Ending.{Completes, TaskFails}
use Rattle.file_steps.specs.Plans.{Plan, Task, done, offline}
use Rattle.file_steps.specs.Reading.{AreRead}
use Rattle.file_steps.specs.Steps.{FailsToWrite, Writes, nothing}

-- memory was refused before anything was done
pub task_no_memory : (task : Task) (s : ShelfState) → TaskFails task s s NoMemory
task_no_memory task s = λ l k. inl (changes_none (λ name. ⊥) s)

module _ (reads : List (List ℕ)) (out : List ℕ) (plan : List (List ℕ) → Plan) (texts : List (List ℕ))
    (old new : ShelfState) (are : AreRead old reads texts) where
  abbrev the_task : Task
  the_task = record { reads = reads; out = out; making = offline plan }

  -- all of its steps were carried out
  pub task_done : (line : List ℕ) → (plan texts).end ≡ done line → Writes out (plan texts).steps old new
      → Completes the_task old new line
  task_done line end_is writes = λ l k.
      record { texts = texts; are = are; said = nothing; holds = (end_is, writes l k) }

  -- one of them failed
  pub task_fails : (fault : Fault) → FailsToWrite out (plan texts).steps old new fault
      → TaskFails the_task old new fault
  task_fails Usage fails = λ l k. fails l k
  task_fails (Refused refusal) fails = λ l k. absurd (fails l k)
  task_fails Read fails = λ l k. inr (record { texts = texts; are = are; said = nothing; holds = fails l k })
  task_fails Write fails = λ l k. record { texts = texts; are = are; said = nothing; holds = fails l k }
  task_fails NoMemory fails = λ l k. inr (record { texts = texts; are = are; said = nothing; holds = fails l k })
