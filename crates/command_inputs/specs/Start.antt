-- What a run begins with.
use Rattle.std.specs.Prelude.{ℕ, List, Result, Ok}
use Rattle.file_steps.specs.Plans.{Refusal}
use Rattle.state_wire.specs.Guest.{Meaning}
use Rattle.command_inputs.specs.Client.{read_client}
use Rattle.command_inputs.specs.Machine.{read_machine}
use Rattle.command_inputs.specs.Reading.{and_then}

-- a machine at an image's boot state, and the frames of a client stream
pub record Start : Type 0 where
  pub machine : Meaning
  pub frames : List (List ℕ)

-- the image is tested first, then the disk, then the client stream
unfoldable pub read_start : ℕ → List ℕ → List ℕ → List ℕ → Result Start Refusal
read_start mib image disk client =
    and_then (read_machine mib image disk) (λ machine.
    and_then (read_client client) (λ frames. Ok (record { machine = machine; frames = frames })))
