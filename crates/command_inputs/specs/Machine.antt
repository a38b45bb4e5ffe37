-- The machine of an image and a disk, as a function of their bytes and the memory's size.
use Rattle.std.specs.Prelude.{◌≡◌, ℕ, zero, suc, ◌/◌, true, false, List, [], ◌∷◌, length, take, drop, Some, option_map, Result, Ok, Err, if◌then◌else◌}
use Rattle.disk_buffers.specs.Sectors.{AreSectors, is_length}
use Rattle.elf_load.specs.Boot.{elf_case}
use Rattle.file_steps.specs.Plans.{Refusal}
use Rattle.guest_machine.specs.Boot.{at_boot, boot_state, ram_size}
use Rattle.guest_machine.specs.Guest.{machine_meaning}
use Rattle.guest_machine.specs.Turn.{State}
use Rattle.state_wire.specs.Guest.{Meaning}
use Rattle.command_inputs.specs.Reading.{and_then, disk_refusal, image_refusal, unless}

-- so many sectors of 512 bytes
abbrev pub sectors_within : ℕ → List ℕ → List (List ℕ)
sectors_within zero bytes = []
sectors_within (suc n) bytes = take 512 bytes ∷ sectors_within n (drop 512 bytes)

-- the bytes as sectors
unfoldable pub sectors_of : List ℕ → List (List ℕ)
sectors_of bytes = sectors_within (length bytes / 512) bytes

-- a disk is refused by its length
abbrev pub read_disk : List ℕ → Result (List (List ℕ)) Refusal
read_disk disk =
    if is_length (length disk) then Ok (sectors_of disk) else Err (disk_refusal (length disk))

-- a machine in this state that has made no turn
abbrev pub at_rest : State → Meaning
at_rest state = machine_meaning (record { state = state; turned = 0; spent = false })

-- at boot, with a disk of these sectors
abbrev pub machine_at : ℕ → List ℕ → List (List ℕ) → Meaning
machine_at mib image sectors = at_rest (at_boot mib image (record { mine = sectors }))

-- the image is tested first: it is refused by the first case of the loader that holds of it
unfoldable pub read_machine : ℕ → List ℕ → List ℕ → Result Meaning Refusal
read_machine mib image disk =
    unless (option_map image_refusal (elf_case (ram_size mib) image))
    (and_then (read_disk disk) (λ sectors. Ok (machine_at mib image sectors)))

-- ---- the same as a relation

-- the image boots this machine, with so many MiB of memory and a disk of these bytes
pub record IsBooted (mib : ℕ) (image disk : List ℕ) (machine : Meaning) : Type 0 where
  pub sized : is_length (length disk) ≡ true
  pub sectors : List (List ℕ)
  pub sectors_are : AreSectors disk sectors
  pub state : State
  pub booted : boot_state mib image (record { mine = sectors }) ≡ Some state
  pub machine_is : machine ≡ at_rest state
