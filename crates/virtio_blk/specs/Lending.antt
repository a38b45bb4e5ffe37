-- What a block device becomes after its registers were lent.
use Rattle.std.specs.Borrow.{Lends, MutBor, Fml}
use Rattle.virtio_mmio.specs.contracts.regs.Regs.{the_row as regs_row}
use Rattle.virtio_mmio.specs.Device.{Device}
use Rattle.virtio_blk.specs.contracts.blk.Blk.{the_row}

-- the device ends as the last value of its registers
abbrev pub LendsRegs : MutBor Device → MutBor Device → Fml
LendsRegs blk regs = Lends the_row regs_row blk regs (λ d. d)
