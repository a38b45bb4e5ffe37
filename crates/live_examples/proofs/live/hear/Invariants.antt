-- The link stays open.
use Rattle.std.proofs.Common.{IsTrue, ◌<◌, length}
use Rattle.live_examples.proofs.live.hear.Given as goal

abbrev pub invariant-loop : goal.invariant-loop
invariant-loop g l = record {
  opened : IsTrue (g.L.Link.state l.link).opened;
  room : 0 < length l.into;
}
