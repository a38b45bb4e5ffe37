use Rattle.std.proofs.Common.{length}
use Rattle.splice_run.proofs.parts.+part_before_all.Given as goal

abbrev pub decreases-part_before_all : goal.decreases-part_before_all
decreases-part_before_all l = length l.marks.now
