-- The words that are left.
use Rattle.std.proofs.Common.{length}
use Rattle.colo_words.proofs.options.+read_one.Given as goal

abbrev pub decreases-read_one : goal.decreases-read_one
decreases-read_one l = length l.words.now
