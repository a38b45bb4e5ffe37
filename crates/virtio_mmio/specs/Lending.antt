-- What a device becomes after one of its queues was lent.
use Rattle.std.specs.Prelude.{ℕ, ◌==◌, Option, if◌then◌else◌}
use Rattle.std.specs.Borrow.{Lends, LendsIf, MutBor, Fml}
use Rattle.virt_queue.specs.contracts.queue.Queue.{the_row as queue_row}
use Rattle.virt_queue.specs.declared.fields.QueueFields.{QueueFields}
use Rattle.virtio_mmio.specs.Device.{Device}
use Rattle.virtio_mmio.specs.contracts.regs.Regs.{the_row}

-- the device with another first, or second, queue
abbrev pub with_numbered : Device → ℕ → QueueFields → Device
with_numbered d k queue = if k == 0 then record d { first = queue } else record d { second = queue }

-- the device ends with the last value behind the queue in its place, and as it was where there is
-- none
abbrev pub LendsQueue : MutBor Device → ℕ → Option (MutBor QueueFields) → Fml
LendsQueue d k queue = LendsIf the_row queue_row d queue (with_numbered d.now k) d.now

-- the device ends with the last value behind its first queue
abbrev pub LendsFirst : MutBor Device → MutBor QueueFields → Fml
LendsFirst d queue = Lends the_row queue_row d queue (λ q. record d.now { first = q })
