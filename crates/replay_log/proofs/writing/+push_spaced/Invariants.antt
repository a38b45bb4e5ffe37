use Rattle.std.proofs.Common.{length}
use Rattle.replay_log.proofs.writing.+push_spaced.Given as goal

abbrev pub decreases-push_spaced : goal.decreases-push_spaced
decreases-push_spaced l = length l.places.now
