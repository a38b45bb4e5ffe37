use Rattle.pair_history.proofs.LogLemmas.{goes_on_primary, goes_on_secondary}
use Rattle.pair_history.proofs.law.turns_go_on.Goals as goal

pub returns-clause-primary : goal.returns-clause-primary
returns-clause-primary c = goes_on_primary

pub returns-clause-secondary : goal.returns-clause-secondary
returns-clause-secondary c = goes_on_secondary
