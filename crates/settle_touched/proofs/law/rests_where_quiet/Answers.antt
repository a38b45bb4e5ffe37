-- Settling makes every connection quiet.
use Rattle.settle_touched.proofs.QuietLemmas.{settling_makes_quiet}
use Rattle.settle_touched.proofs.law.rests_where_quiet.Goals as goal

pub returns-clause-quiet : goal.returns-clause-quiet
returns-clause-quiet c = settling_makes_quiet
