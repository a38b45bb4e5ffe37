-- The lemma says it.
use Rattle.settle_touched.proofs.CauseLemmas.{needs_first_places}
use Rattle.settle_touched.proofs.law.needs_first_places.Goals as goal

pub returns : goal.returns
returns c = needs_first_places
