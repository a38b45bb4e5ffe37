-- `solo`: a single run is made again on one machine, from an image's boot state on, and what it
-- leaves is written.
use Rattle.std.specs.Prelude.{ℕ, ◌+◌, List, [], ◌∷◌, ◌++◌, codes, decimal, length, Option, Some, None, if◌then◌else◌}
use Rattle.command_inputs.specs.Reading.{line_refusal}
use Rattle.command_inputs.specs.Start.{read_start}
use Rattle.command_inputs.specs.Texts.{read_single}
use Rattle.file_steps.specs.Plans.{Plan, done, refused}
use Rattle.file_steps.specs.Steps.{Step, append_step, creates}
use Rattle.replay_log.specs.declared.turns.Turn.{Turn}
use Rattle.sock_link.specs.Stream.{stream_of}
use Rattle.splice_run.specs.Runs.{run_given, run_turns}
use Rattle.splice_run.specs.Solo.{can_make}
use Rattle.state_wire.specs.Guest.{Kind, Meaning}
use Rattle.state_wire.specs.Run.{Run}
use Rattle.command_plans.specs.Planning.{of_four, plan_or}
use Rattle.command_plans.specs.Replay.{state_steps}

-- ---- what is run

-- a machine before its first turn has sent nothing
abbrev pub start_of : Meaning → Run
start_of machine = record { state = machine.state; sent = [] }

-- the number of the first turn that can't be made once those before it were, where the first one
-- has this number
abbrev pub stop_from : ℕ → Kind → List (List ℕ) → Run → List Turn → Option ℕ
stop_from number kind stream run [] = None
stop_from number kind stream run (t ∷ turns) =
    if can_make kind stream run t
    then stop_from (number + 1) kind stream (run_given kind stream run t) turns
    else Some number

-- ---- what is written

-- the files, in the order in which they are created
abbrev pub solo_files : List (List ℕ)
solo_files = codes ".sent" ∷ (codes ".ram" ∷ (codes ".disk" ∷ []))

-- the frames sent, each after its length, and the memory and the disk of the last state
abbrev pub left_steps : Run → List Step
left_steps run = append_step (codes ".sent") (stream_of run.sent) ++ state_steps run.state

-- the line of so many turns and so many frames sent
abbrev pub made_line : ℕ → ℕ → List ℕ
made_line turns sent =
    codes "turns " ++ (decimal turns ++ (codes " sent " ++ (decimal sent ++ codes "\n")))

-- A run that stops is refused by the number of the turn, which is that of its line, once the files
-- were created.
abbrev pub end_plan : Option ℕ → List Turn → Run → Plan
end_plan (Some number) turns run =
    record { steps = creates solo_files; end = refused (line_refusal number) }
end_plan None turns run =
    record {
      steps = creates solo_files ++ left_steps run;
      end = done (made_line (length turns) (length run.sent));
    }

abbrev pub run_plan : Meaning → List (List ℕ) → List Turn → Plan
run_plan machine frames turns =
    end_plan (stop_from 1 machine.kind frames (start_of machine) turns) turns
    (run_turns machine.kind frames (start_of machine) turns)

-- the image is tested first, then the disk, the client stream, and the turns
unfoldable pub solo_plan : ℕ → List ℕ → List ℕ → List ℕ → List ℕ → Plan
solo_plan mib image disk client lines =
    plan_or (read_start mib image disk client) (λ start.
    plan_or (read_single lines) (λ turns. run_plan start.machine start.frames turns))

-- the same of the texts that were read
abbrev pub solo_texts : ℕ → List (List ℕ) → Plan
solo_texts mib texts = of_four (solo_plan mib) texts
