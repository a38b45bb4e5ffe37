-- The turns so far, and those of the rest of the log, are the log's.
use Rattle.std.proofs.Common.{◌≡◌, ◌++◌, ◌≤◌, take, reverse, length}
use Rattle.std.specs.BTreeMap.{get}
use Rattle.std.specs.Ordering.{nat_cmp}
use Rattle.splice_run.specs.Backwards.{counted_back}
use Rattle.splice_run.specs.Single.{single_run}
use Rattle.splice_run.proofs.splicing.splice.Given as goal

abbrev pub invariant-loop-end : goal.invariant-loop-end
invariant-loop-end l = record {
  within : l.end ≤ length l.log;
  counted : counted_back (get nat_cmp l.seen) l.part (reverse (take l.end l.log)) ++ reverse l.turns.items
      ≡ single_run l.log;
}

abbrev pub decreases-loop-end : goal.decreases-loop-end
decreases-loop-end l = l.end
