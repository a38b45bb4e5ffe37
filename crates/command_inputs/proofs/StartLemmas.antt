-- What a run begins with is read in order.
use Rattle.std.proofs.Common.{◌≡◌, ℕ, List, Ok, Err, refl}
use Rattle.file_steps.specs.Plans.{Refusal}
use Rattle.state_wire.specs.Guest.{Meaning}
use Rattle.command_inputs.specs.Client.{read_client}
use Rattle.command_inputs.specs.Machine.{read_machine}
use Rattle.command_inputs.specs.Start.{read_start}

pub start_first : (mib : ℕ) (image disk client : List ℕ) (refusal : Refusal)
    → read_machine mib image disk ≡ Err refusal → read_start mib image disk client ≡ Err refusal
unfolding read_start
start_first mib image disk client refusal e = rw e refl

pub start_second : (mib : ℕ) (image disk client : List ℕ) (machine : Meaning) (refusal : Refusal)
    → read_machine mib image disk ≡ Ok machine → read_client client ≡ Err refusal
    → read_start mib image disk client ≡ Err refusal
unfolding read_start
start_second mib image disk client machine refusal m e = rw (m, e) refl

pub start_whole : (mib : ℕ) (image disk client : List ℕ) (machine : Meaning) (frames : List (List ℕ))
    → read_machine mib image disk ≡ Ok machine → read_client client ≡ Ok frames
    → read_start mib image disk client ≡ Ok (record { machine = machine; frames = frames })
unfolding read_start
start_whole mib image disk client machine frames m e = rw (m, e) refl
