-- The kinds of the machine's devices: the block device has as many sectors as the disk.
use Rattle.std.specs.Prelude.{◌≡◌, length}
use Rattle.virtio_blk.specs.Disk.{DiskState}
use Rattle.virtio_mmio.specs.declared.kind.Kind.TheVariants.{Network, Block}
use Rattle.rv_platform.specs.Step.{PlatformState}
use Rattle.guest_machine.specs.Turn.{State}

pub record IsOfKinds (p : PlatformState) (disk : DiskState) : Type 0 where
  pub net : p.net.device.kind ≡ Network
  pub blk : p.blk.kind ≡ Block (length disk.mine)

-- memory and the disk have the same sizes
pub record KeepsSizes (old new : State) : Type 0 where
  pub memory : length new.platform.memory.bytes ≡ length old.platform.memory.bytes
  pub disk : length new.disk.mine ≡ length old.disk.mine
