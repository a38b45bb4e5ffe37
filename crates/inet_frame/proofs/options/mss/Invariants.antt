use Rattle.std.proofs.Common.{◌≡◌, length}
use Rattle.inet_frame.specs.Options.{mss_of}
use Rattle.inet_frame.proofs.options.mss.Given as goal

abbrev pub invariant-loop-rest : goal.invariant-loop-rest
invariant-loop-rest l = mss_of l.rest ≡ mss_of l.fn.options

abbrev pub decreases-loop-rest : goal.decreases-loop-rest
decreases-loop-rest l = length l.rest
