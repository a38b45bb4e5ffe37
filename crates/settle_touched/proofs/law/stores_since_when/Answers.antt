-- What is stored stands for the progress.
use Rattle.settle_touched.proofs.AgeLemmas.{settles_what_is_stored, stores_since}
use Rattle.settle_touched.proofs.law.stores_since_when.Goals as goal

pub returns-clause-settles : goal.returns-clause-settles
returns-clause-settles c = settles_what_is_stored

pub returns-clause-since : goal.returns-clause-since
returns-clause-since c = stores_since
