-- What was taken out and what is left are all places below the bound.
use Rattle.std.proofs.Common.{◌≡◌, ◌++◌, filter, length, nat_lt}
use Rattle.settle_touched.proofs.touched.take_below.Given as goal

abbrev pub invariant-loop-place : goal.invariant-loop-place
invariant-loop-place l = filter (λ k. nat_lt k l.bound) l.initial.places.keys
    ≡ l.taken.items ++ filter (λ k. nat_lt k l.bound) l.places.keys

abbrev pub decreases-loop-place : goal.decreases-loop-place
decreases-loop-place l = length l.places.keys
