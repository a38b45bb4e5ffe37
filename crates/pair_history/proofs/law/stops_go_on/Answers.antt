use Rattle.pair_history.proofs.LogLemmas.{goes_on_other_stop, goes_on_report, goes_on_stop}
use Rattle.pair_history.proofs.law.stops_go_on.Goals as goal

pub returns-clause-primary : goal.returns-clause-primary
returns-clause-primary c = goes_on_stop

pub returns-clause-secondary : goal.returns-clause-secondary
returns-clause-secondary c = goes_on_other_stop

pub returns-clause-report : goal.returns-clause-report
returns-clause-report c = goes_on_report
