-- What a card becomes after its registers were lent.
use Rattle.std.specs.Borrow.{Lends, MutBor, Fml}
use Rattle.virtio_mmio.specs.Device.{Device}
use Rattle.virtio_mmio.specs.contracts.regs.Regs.{the_row as regs_row}
use Rattle.virtio_net.specs.Port.{Card}
use Rattle.virtio_net.specs.contracts.net.Net.{the_row}

-- the card ends with the last value of its registers
abbrev pub LendsRegs : MutBor Card → MutBor Device → Fml
LendsRegs card regs =
    Lends the_row regs_row card regs (λ device. record card.now { device = device })
