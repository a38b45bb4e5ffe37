-- The guests that are built are starts of the theorem of the pair: each kind is regular, and the
-- state in which both guests boot is one of bytes with the kind's sizes.
use Rattle.std.specs.Prelude.{◌≡◌, ℕ, All, List, length, Some}
use Rattle.shared_definitions.specs.Bytes.{AreBytes}
use Rattle.virtio_blk.specs.Disk.{DiskState}
use Rattle.guest_machine.specs.Boot.{boot_state}
use Rattle.guest_machine.specs.Guest.{MachineParts, machine_meaning}
use Rattle.state_wire.specs.Script.{ScriptParts, script_meaning}
use Rattle.pair_theorem.specs.Past.{boot}
use Rattle.pair_theorem.specs.Starts.{IsStart}

-- a machine in the state in which an image of bytes boots over a disk of bytes
pub record IsBooted (mib : ℕ) (image : List ℕ) (disk : DiskState)
    (machine : MachineParts) : Type 0 where
  pub state : boot_state mib image disk ≡ Some machine.state
  pub image_bytes : AreBytes image
  pub disk_bytes : All AreBytes disk.mine
  pub sectors : All (λ (sector : List ℕ). length sector ≡ 512) disk.mine

-- two such machines are a start, whatever turns they had made
abbrev pub MachinesStart : Type 0
MachinesStart =
    (mib : ℕ) (image : List ℕ) (disk : DiskState) (machine : MachineParts)
    (stream : List (List ℕ)) (m n : ℕ) → IsBooted mib image disk machine → All AreBytes stream
    → IsStart (boot (machine_meaning machine).kind stream (machine_meaning machine).state m n)

-- two test guests are, where each frame of their table and the last frame received are bytes
abbrev pub ScriptsStart : Type 0
ScriptsStart =
    (g : ScriptParts) (stream : List (List ℕ)) (m n : ℕ) → All (All AreBytes) g.table
    → AreBytes g.frame → All AreBytes stream
    → IsStart (boot (script_meaning g).kind stream (script_meaning g).state m n)
