use Rattle.pair_history.proofs.LogLemmas.{goes_on_down, goes_on_up}
use Rattle.pair_history.proofs.law.deliveries_go_on.Goals as goal

pub returns-clause-down : goal.returns-clause-down
returns-clause-down c = goes_on_down

pub returns-clause-up : goal.returns-clause-up
returns-clause-up c = goes_on_up
