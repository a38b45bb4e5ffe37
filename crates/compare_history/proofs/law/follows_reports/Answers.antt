use Rattle.compare_history.proofs.EventLemmas.{primary_survives_alone, secondary_survives_alone}
use Rattle.compare_history.proofs.law.follows_reports.Goals as goal

pub returns-clause-primary : goal.returns-clause-primary
returns-clause-primary c = primary_survives_alone

pub returns-clause-secondary : goal.returns-clause-secondary
returns-clause-secondary c = secondary_survives_alone
