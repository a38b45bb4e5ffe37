-- What the code of `solo` holds of a run that has ended.
use Rattle.std.specs.Prelude.{◌++◌, IsTrue, codes, string_bytes}
use Rattle.file_steps.specs.Plans.{Plan, done, is_own, refused}
use Rattle.file_steps.specs.Status.{refusal_of}
use Rattle.file_steps.specs.Steps.{append_step, creates}
use Rattle.state_wire.specs.Guest.{GuestState}
use Rattle.command_plans.specs.Replay.{state_steps}
use Rattle.command_plans.specs.Solo.{solo_files}
use Rattle.command_plans.specs.declared.solo.RunEnd.{RunEnd}
use Rattle.command_plans.specs.declared.solo.RunEnd.TheVariants.{Made, Stopped}

-- the plan of a run that ended so, with the guest in this state
abbrev pub ended_plan : GuestState → RunEnd → Plan
ended_plan state (Made sent line) =
    record {
      steps = creates solo_files ++ (append_step (codes ".sent") sent.items ++ state_steps state);
      end = done (string_bytes line);
    }
ended_plan state (Stopped refusal) =
    record { steps = creates solo_files; end = refused (refusal_of refusal) }

-- the refusal of a run that stopped has a status of its own
abbrev pub IsOwnEnd : RunEnd → Type 0
IsOwnEnd (Made sent line) = Unit {0}
IsOwnEnd (Stopped refusal) = IsTrue (is_own refusal.status)
