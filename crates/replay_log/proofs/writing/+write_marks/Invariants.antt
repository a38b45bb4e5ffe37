use Rattle.std.proofs.Common.{length}
use Rattle.replay_log.proofs.writing.+write_marks.Given as goal

abbrev pub decreases-write_marks : goal.decreases-write_marks
decreases-write_marks l = length l.marks.now
