use Rattle.std.proofs.Common.{◌≡◌, length}
use Rattle.virtio_net.specs.Port.{port_of}
use Rattle.virtio_net.proofs.SendLemmas.{Underway}
use Rattle.virtio_net.proofs.net.Net.sent.Given as goal

abbrev pub invariant-loop : goal.invariant-loop
invariant-loop l = (l.most ≡ l.fn.self.device.second.num)
    × Underway (port_of l.fn.self l.fn.ram) (port_of l.self l.ram) l.most l.counter l.so_far l.fn.out l.out
    × (l.self.device.kind ≡ l.fn.self.device.kind) × (length l.ram.bytes ≡ length l.fn.ram.bytes)
