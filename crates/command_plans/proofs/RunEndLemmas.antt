-- How the files of a single run are written, by how the run ended.
use Rattle.std.proofs.Common.{◌≡◌, ℕ, List, ◌++◌, String, Vec, codes, refl, string_bytes}
use Rattle.std.specs.declared.alloc.Global.{Global}
use Rattle.colo_base.specs.Shelf.{ShelfState}
use Rattle.file_steps.specs.declared.fault.Fault.{Fault}
use Rattle.file_steps.specs.declared.fault.Fault.TheVariants.{Refused}
use Rattle.file_steps.specs.declared.fault.Refusal.{Refusal}
use Rattle.file_steps.specs.Steps.{FailsToWrite, Step, Writes, append_step, creates}
use Rattle.file_steps.proofs.WriteLemmas.{write_fails_front, write_fails_then, writes_then}
use Rattle.state_wire.specs.Guest.{GuestState}
use Rattle.command_plans.specs.Planning.{PlanCompletes, PlanFails}
use Rattle.command_plans.specs.Replay.{state_steps}
use Rattle.command_plans.specs.Solo.{solo_files}
use Rattle.command_plans.specs.SoloEnds.{IsOwnEnd, ended_plan}
use Rattle.command_plans.specs.declared.solo.RunEnd.{RunEnd}
use Rattle.command_plans.specs.declared.solo.RunEnd.TheVariants.{Made, Stopped}
use Rattle.command_plans.proofs.CarryLemmas.{steps_fail}

-- what is written once the files were created
abbrev left : GuestState → Vec ℕ Global → List Step
left state sent = append_step (codes ".sent") sent.items ++ state_steps state

module _ (state : GuestState) (out : List ℕ) (a b : ShelfState) where
  -- a file can't be created
  pub create_fails : (end : RunEnd) (fault : Fault) → FailsToWrite out (creates solo_files) a b fault
      → PlanFails out (ended_plan state end) a b fault
  create_fails (Made sent line) fault fails =
      steps_fail out (ended_plan state (Made sent line)) a b fault
      (write_fails_front out (creates solo_files) (left state sent) a b fault fails)
  create_fails (Stopped held) fault fails = steps_fail out (ended_plan state (Stopped held)) a b fault fails

  -- the run stopped
  pub stop_ends : (end : RunEnd) (held : Refusal) → end ≡ Stopped held → IsOwnEnd end
      → Writes out (creates solo_files) a b → PlanFails out (ended_plan state end) a b (Refused held)
  stop_ends end held is own created = rw is (λ l k. (rw is at own, refl, created l k))

  module _ (end : RunEnd) (sent : Vec ℕ Global) (line : String Global) (is : end ≡ Made sent line) (c : ShelfState)
      (created : Writes out (creates solo_files) a b) where
    pub left_fails : (fault : Fault) → FailsToWrite out (left state sent) b c fault
        → PlanFails out (ended_plan state end) a c fault
    left_fails fault fails =
        rw is (steps_fail out (ended_plan state (Made sent line)) a c fault
        (write_fails_then out (creates solo_files) (left state sent) a b c fault created fails))

    pub left_done : Writes out (left state sent) b c
        → PlanCompletes out (ended_plan state end) a c (string_bytes line)
    left_done wrote = rw is (record {
      end = refl;
      steps = writes_then out (creates solo_files) (left state sent) a b c created wrote;
    })
