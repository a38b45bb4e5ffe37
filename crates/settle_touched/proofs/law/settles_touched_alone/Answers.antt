-- The lemma says it.
use Rattle.settle_touched.proofs.PlaceLemmas.{settles_touched_alone}
use Rattle.settle_touched.proofs.law.settles_touched_alone.Goals as goal

pub returns : goal.returns
returns c = settles_touched_alone
