-- No restarted tuple before the index is this one.
use Rattle.std.proofs.Common.{◌≡◌, false, take}
use Rattle.std.specs.List.{list_any}
use Rattle.tcp_track.specs.Segments.{same_tuple}
use Rattle.settle_touched.proofs.lines.is_restarted.Given as goal

abbrev pub invariant-loop-restarted : goal.invariant-loop-restarted
invariant-loop-restarted l = list_any (same_tuple l.tuple) (take l.restarted-index l.restarts) ≡ false
