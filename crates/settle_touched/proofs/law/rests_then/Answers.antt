-- Settled places rest, and others stay.
use Rattle.settle_touched.proofs.RestLemmas.{other_places_stay, settled_places_rest, stores_on}
use Rattle.settle_touched.proofs.law.rests_then.Goals as goal

pub returns-clause-settled : goal.returns-clause-settled
returns-clause-settled c = settled_places_rest

pub returns-clause-others : goal.returns-clause-others
returns-clause-others c = other_places_stay

pub returns-clause-stored : goal.returns-clause-stored
returns-clause-stored c = stores_on
