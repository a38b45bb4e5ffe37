-- What was read so far says the rest of what the log says.
use Rattle.std.proofs.Common.{◌≡◌, ℕ, ◌≤◌, take, length}
use Rattle.std.specs.BTreeMap.{get}
use Rattle.std.specs.Ordering.{nat_cmp}
use Rattle.splice_run.specs.Frames.{seen_before, seen_in}
use Rattle.splice_run.proofs.seen.seen_in.Given as goal

abbrev pub invariant-loop-end : goal.invariant-loop-end
invariant-loop-end l = record {
  within : l.end ≤ length l.log;
  said : (index : ℕ) → seen_before (take l.end l.log) index (get nat_cmp l.seen index) ≡ seen_in l.log index;
}

abbrev pub decreases-loop-end : goal.decreases-loop-end
decreases-loop-end l = l.end
