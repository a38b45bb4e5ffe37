use Rattle.std.proofs.Common.{◌≡◌, take}
use Rattle.kept_checkpoint.specs.Slots.{with_sectors}
use Rattle.kept_checkpoint.proofs.loading.load_sectors.Given as goal

abbrev pub invariant-loop-k : goal.invariant-loop-k
invariant-loop-k g l = g.G.Guest.meaning l.guest ≡ with_sectors (g.G.Guest.meaning l.initial.guest) (take l.k l.sectors)
