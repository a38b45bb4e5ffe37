-- `replay` as a plan: the log that the theorem determines for two machines at an image's boot
-- state, the frames of a client stream, and the lines of a schedule.
use Rattle.std.specs.Prelude.{ℕ, Bool, List, [], nat_lt, if◌then◌else◌}
use Rattle.std.specs.List.{list_all}
use Rattle.command_inputs.specs.Start as inputs
use Rattle.command_inputs.specs.Start.{read_start}
use Rattle.command_inputs.specs.Texts.{read_schedule}
use Rattle.command_plans.specs.Planning.{of_four, plan_or}
use Rattle.file_steps.specs.Plans.{Plan, waits}
use Rattle.pair_core.specs.Pair.{Pair, new_pair}
use Rattle.pair_theorem.specs.Past.{Start}
use Rattle.pair_world.specs.Running.{start_of}
use Rattle.replay_plan.specs.LogPlan.{log_plan}
use Rattle.state_wire.specs.Guest.{Meaning}

-- the start of two machines in one state, to which clients send these frames
abbrev pub start_with : inputs.Start → Start
start_with s = start_of s.machine s.machine s.frames

-- the same two as a pair
abbrev pub pair_with : Meaning → List (List ℕ) → Pair
pair_with machine frames = record (new_pair machine machine) { frames = frames }

-- the image is tested first, then the disk, the client stream, and the schedule
unfoldable pub replay_plan : ℕ → List ℕ → List ℕ → List ℕ → List ℕ → Plan
replay_plan mib image disk client lines =
    plan_or (read_start mib image disk client) (λ start.
    plan_or (read_schedule lines) (λ schedule. log_plan (start_with start) schedule))

-- the same of the texts that were read: four lists of bytes, as files are
abbrev pub are_bytes : List ℕ → Bool
are_bytes text = list_all (λ byte. nat_lt byte 256) text

abbrev pub of_bytes : (List (List ℕ) → Plan) → List (List ℕ) → Plan
of_bytes plan texts =
    if list_all are_bytes texts then plan texts else record { steps = []; end = waits }

abbrev pub replay_texts : ℕ → List (List ℕ) → Plan
replay_texts mib texts = of_bytes (of_four (replay_plan mib)) texts
