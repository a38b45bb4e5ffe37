-- What lies before `at` is cleaned, and an option of `len` bytes begins there.
use Rattle.std.proofs.Common.{◌-◌, length}
use Rattle.inet_build.proofs.OptionLemmas.{Walked}
use Rattle.inet_build.proofs.options.clean_options.Given as goal

abbrev pub invariant-loop-len : goal.invariant-loop-len
invariant-loop-len l = Walked l.initial.options l.options l.at l.len l.found

abbrev pub decreases-loop-len : goal.decreases-loop-len
decreases-loop-len l = length l.initial.options - l.at
