-- All bytes before the index agree.
use Rattle.std.proofs.Common.{◌≡◌, ◌+◌, nat_eq, drop}
use Rattle.std.specs.List.{common_prefix_len}
use Rattle.line_match.proofs.agreeing.common_prefix_len.Given as goal

abbrev pub invariant-loop-k : goal.invariant-loop-k
invariant-loop-k l = common_prefix_len nat_eq l.xs l.ys
    ≡ l.k + common_prefix_len nat_eq (drop l.k l.xs) (drop l.k l.ys)
