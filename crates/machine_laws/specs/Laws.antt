-- What holds of every machine, whatever its state: its turns lead from bytes to bytes and keep the
-- numbers and sizes of pages and sectors, and what it sends is bytes. So a machine is a guest of a
-- regular kind, and a boot is such a state.
use Rattle.std.specs.Prelude.{◌≡◌, ℕ, All, List, length}
use Rattle.shared_definitions.specs.Bytes.{AreBytes}
use Rattle.rv_platform.specs.Step.{PlatformState, Step, run_steps}
use Rattle.state_wire.specs.Guest.{GuestState, GuestTurn}
use Rattle.state_wire.specs.Regular.{FitsKind, FrameBytes, GuestBytes, IsRegular, KeepsBytes}
use Rattle.virtio_blk.specs.Disk.{DiskState}
use Rattle.guest_machine.specs.Boot.{at_boot}
use Rattle.guest_machine.specs.Guest.{MachineParts, machine_meaning}
use Rattle.guest_machine.specs.Turn.{State, Turned, make_turn}

-- ---- bytes of a platform, a state and a turn

pub record HasBytes (p : PlatformState) : Type 0 where
  pub memory : AreBytes p.memory.bytes
  pub neighbour : AreBytes p.net.neighbour

pub record IsBytes (step : Step) : Type 0 where
  pub platform : HasBytes step.platform
  pub frames : All AreBytes step.frames

-- a state of the machine whose memory, disk and neighbour are bytes
pub record StateBytes (s : State) : Type 0 where
  pub platform : HasBytes s.platform
  pub disk : All AreBytes s.disk.mine

pub record TurnBytes (t : Turned) : Type 0 where
  pub state : StateBytes t.state
  pub frames : All AreBytes t.frames

-- ---- the laws

abbrev pub StepsKeepBytes : Type 0
StepsKeepBytes = (n : ℕ) (p : PlatformState) → HasBytes p → IsBytes (run_steps n p)

abbrev pub TurnsKeepBytes : Type 0
TurnsKeepBytes = (s : State) (turn : GuestTurn) → StateBytes s → FrameBytes turn.frame
    → TurnBytes (make_turn s turn)

abbrev pub MachinesKeepBytes : Type 0
MachinesKeepBytes = (m : MachineParts) → KeepsBytes (machine_meaning m).kind

-- memory keeps its size over steps
abbrev pub SizesStay : Type 0
SizesStay = (n : ℕ) (p : PlatformState)
    → length (run_steps n p).platform.memory.bytes ≡ length p.memory.bytes

-- a turn leads from states with the right sizes to such states
abbrev pub MachinesFit : Type 0
MachinesFit = (m : MachineParts) (g : GuestState) (turn : GuestTurn)
    → FitsKind (machine_meaning m).kind g
    → FitsKind (machine_meaning m).kind ((machine_meaning m).kind.next g turn)

abbrev pub MachinesAreRegular : Type 0
MachinesAreRegular = (m : MachineParts) → IsRegular (machine_meaning m).kind

-- the state of a machine of bytes, whose sectors have 512 bytes, is one of its kind: with a regular
-- kind this is what a start of the pair asks
abbrev pub StatesAreOfTheirKind : Type 0
StatesAreOfTheirKind = (m : MachineParts) → StateBytes m.state
    → All (λ (sector : List ℕ). length sector ≡ 512) m.state.disk.mine
    → FitsKind (machine_meaning m).kind (machine_meaning m).state × GuestBytes (machine_meaning m).state

-- a machine that boots from bytes over a disk of bytes is of bytes
abbrev pub BootsAreBytes : Type 0
BootsAreBytes = (mib : ℕ) (image : List ℕ) (disk : DiskState) → AreBytes image
    → All AreBytes disk.mine → StateBytes (at_boot mib image disk)
