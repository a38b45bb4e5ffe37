use Rattle.std.proofs.Common.{◌≡◌, length}
use Rattle.kept_checkpoint.specs.Slots.{AreOfSize, put_sectors, sector_size}
use Rattle.kept_checkpoint.proofs.slots.Slots.put_sectors.Given as goal

abbrev pub invariant-loop-n : goal.invariant-loop-n
invariant-loop-n l = record {
  places : length l.self ≡ length l.initial.self;
  value : l.self ≡ put_sectors l.first l.bytes l.n l.initial.self;
  sizes : AreOfSize sector_size l.initial.self → AreOfSize sector_size l.self;
}
