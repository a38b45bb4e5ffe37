use Rattle.settle_history.proofs.AlikeLemmas.{settles_or_rests_alike}
use Rattle.settle_history.proofs.CauseLemmas.{settles_by_the_rules}
use Rattle.settle_history.proofs.law.settles_by_the_rules.Goals as goal

pub returns-clause-settles : goal.returns-clause-settles
returns-clause-settles c = settles_by_the_rules

pub returns-clause-reads : goal.returns-clause-reads
returns-clause-reads c = settles_or_rests_alike
