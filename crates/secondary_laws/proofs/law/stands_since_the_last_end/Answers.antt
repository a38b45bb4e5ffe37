-- By cases of the calls.
use Rattle.secondary_laws.proofs.SinceLemmas.{stands_since}
use Rattle.secondary_laws.proofs.law.stands_since_the_last_end.Goals as goal

pub returns : goal.returns
returns c = stands_since
