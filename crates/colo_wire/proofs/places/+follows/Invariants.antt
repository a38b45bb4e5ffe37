use Rattle.std.proofs.Common.{length}
use Rattle.colo_wire.proofs.places.+follows.Given as goal

abbrev pub decreases-follows : goal.decreases-follows
decreases-follows l = length l.places.now
