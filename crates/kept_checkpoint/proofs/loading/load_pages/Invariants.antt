use Rattle.std.proofs.Common.{◌≡◌, take}
use Rattle.kept_checkpoint.specs.Slots.{with_pages}
use Rattle.kept_checkpoint.proofs.loading.load_pages.Given as goal

abbrev pub invariant-loop-k : goal.invariant-loop-k
invariant-loop-k g l = g.G.Guest.meaning l.guest ≡ with_pages (g.G.Guest.meaning l.initial.guest) (take l.k l.pages)
