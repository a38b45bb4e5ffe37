-- No tuple before the index has waited.
use Rattle.std.proofs.Common.{◌≡◌, drop, find}
use Rattle.settle_table.specs.Kept.{tuples_of}
use Rattle.settle_table.specs.Needs.{has_waited}
use Rattle.settle_table.proofs.causes.first_wait.Given as goal

abbrev pub invariant-loop-k : goal.invariant-loop-k
invariant-loop-k l = find (has_waited l.table.entries) (tuples_of l.scene.mine.now)
    ≡ find (has_waited l.table.entries) (drop l.k (tuples_of l.scene.mine.now))
