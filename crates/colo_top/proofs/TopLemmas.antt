-- From how the words' task ended to how the call's work ended.
use Rattle.std.proofs.Common.{◌≡◌, ℕ, List, Some, None, Result, Ok, Err, IfOk, IfErr, String, refl, string_bytes, sym}
use Rattle.std.specs.declared.alloc.Global.{Global}
use Rattle.colo_base.specs.Clock.{ClockState}
use Rattle.colo_base.specs.Link.{LinkState}
use Rattle.colo_base.specs.Shelf.{ShelfState}
use Rattle.command_tasks.specs.Tasks.{read_task, task_of}
use Rattle.command_tasks.specs.Words.{Command, read_words}
use Rattle.file_steps.specs.declared.fault.Fault.{Fault}
use Rattle.file_steps.specs.declared.fault.Fault.TheVariants.{Usage}
use Rattle.file_steps.specs.Ending.{Completes, HasEnded, TaskFails}
use Rattle.file_steps.specs.Steps.{outside}
use Rattle.file_steps.proofs.ReadLemmas.{untouched_none}

module _ (words : List (List ℕ)) where
  pub no_task_ends : None ≡ read_words words → (s : ShelfState) (l : LinkState) (k : ClockState)
      → HasEnded (read_task words) (outside s l k) (outside s l k) (Err Usage)
  no_task_ends e s l k = rw (sym e) (refl, untouched_none s)

  pub task_ends : (command : Command) → Some command ≡ read_words words → (a b : ShelfState)
      (r : Result (String Global) Fault) → IfOk r (λ line. Completes (task_of command) a b (string_bytes line))
      → IfErr r (TaskFails (task_of command) a b) → (l : LinkState) (k : ClockState)
      → HasEnded (read_task words) (outside a l k) (outside b l k) r
  task_ends command e a b (Ok line) done fails l k = rw (sym e) (done l k)
  task_ends command e a b (Err fault) done fails l k = rw (sym e) (fails l k)
