-- What was moved stands behind the link's messages, and what was not waits; nothing else changes.
use Rattle.std.proofs.Common.{◌≡◌, ◌++◌, length}
use Rattle.pair_core.proofs.links.pull_primary.Given as goal

abbrev pub invariant-loop-message : goal.invariant-loop-message
invariant-loop-message g l = record {
  all : l.into ++ l.from.waits ≡ l.initial.into ++ l.initial.from.waits;
  rest : l.from ≡ record l.initial.from { waits = l.from.waits };
}

abbrev pub decreases-loop-message : goal.decreases-loop-message
decreases-loop-message g l = length l.from.waits
