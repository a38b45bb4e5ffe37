-- The words that are left, added to the sum so far, give the whole sum.
use Rattle.std.proofs.Common.{◌≡◌, length}
use Rattle.inet_frame.specs.Sum.{ones_sum}
use Rattle.inet_frame.proofs.sum.ones_sum.Given as goal

abbrev pub invariant-loop-rest : goal.invariant-loop-rest
invariant-loop-rest l = ones_sum l.sum l.rest ≡ ones_sum l.start l.bytes

abbrev pub decreases-loop-rest : goal.decreases-loop-rest
decreases-loop-rest l = length l.rest
