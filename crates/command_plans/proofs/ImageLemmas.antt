-- How writing a demo image ends its task.
use Rattle.std.proofs.Common.{◌≡◌, ℕ, List, [], ap, sym, subst, ◌∙◌, unwrap_or}
use Rattle.colo_base.specs.Shelf.{ShelfState}
use Rattle.colo_guests.specs.Images.{image}
use Rattle.file_steps.specs.declared.fault.Fault.{Fault}
use Rattle.file_steps.specs.Ending.{Completes, TaskFails}
use Rattle.file_steps.specs.Plans.{done}
use Rattle.file_steps.specs.Steps.{FailsToWrite, Writes}
use Rattle.command_plans.specs.Image.{bytes_line, image_plan, image_task}
use Rattle.command_plans.specs.OneFile.{one_file}
use Rattle.command_plans.proofs.PlanLemmas.{task_done, task_fails}

module _ (name out bytes : List ℕ) (is : bytes ≡ unwrap_or (image name) []) (old new : ShelfState) where
  pub image_done : (line : List ℕ) → line ≡ bytes_line bytes → Writes out (one_file bytes) old new
      → Completes (image_task name out) old new line
  unfolding image_plan
  image_done line line_is writes =
      task_done [] out (λ texts. image_plan (unwrap_or (image name) [])) [] old new tt line
      (ap done (sym (line_is ∙ ap bytes_line is)))
      (subst (λ (b : List ℕ). Writes out (one_file b) old new) is writes)

  pub image_fails : (fault : Fault) → FailsToWrite out (one_file bytes) old new fault
      → TaskFails (image_task name out) old new fault
  unfolding image_plan
  image_fails fault fails =
      task_fails [] out (λ texts. image_plan (unwrap_or (image name) [])) [] old new tt fault
      (subst (λ (b : List ℕ). FailsToWrite out (one_file b) old new fault) is fails)
