-- The lines read so far and what is left spell the text.
use Rattle.std.proofs.Common.{length}
use Rattle.replay_log.proofs.ReadingLemmas.{IsReadTo}
use Rattle.replay_log.proofs.texts.read_items.Given as goal

abbrev pub invariant-loop-rest : goal.invariant-loop-rest
invariant-loop-rest l = IsReadTo l.forms l.before l.items.items l.text l.rest

abbrev pub decreases-loop-rest : goal.decreases-loop-rest
decreases-loop-rest l = length l.rest
