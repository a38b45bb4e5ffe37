-- The frames that were passed have been followed and told.
use Rattle.std.proofs.Common.{◌≡◌, ◌++◌, take}
use Rattle.std.specs.Prelude.{fold}
use Rattle.out_compare.specs.Comparing.{take_own}
use Rattle.out_compare.specs.Held.{holds}
use Rattle.node_release.specs.Following.{new_numbers}
use Rattle.node_release.proofs.following.follow_telling.Given as goal

abbrev pub invariant-loop-k : goal.invariant-loop-k
invariant-loop-k l = record {
  after : l.compare ≡ holds (fold take_own l.initial.compare.comparing (take l.k l.sent));
  waits : l.waits ≡ l.initial.waits ++ new_numbers l.initial.compare.comparing (take l.k l.sent);
}
