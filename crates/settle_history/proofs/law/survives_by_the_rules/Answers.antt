use Rattle.settle_history.proofs.SurviveLemmas.{survives_by_the_rules}
use Rattle.settle_history.proofs.law.survives_by_the_rules.Goals as goal

pub returns : goal.returns
returns c = survives_by_the_rules
