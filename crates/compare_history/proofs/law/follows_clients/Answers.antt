use Rattle.compare_history.proofs.EventLemmas.{primary_looks, survivor_looks}
use Rattle.compare_history.proofs.law.follows_clients.Goals as goal

pub returns-clause-primary : goal.returns-clause-primary
returns-clause-primary c = primary_looks

pub returns-clause-survivor : goal.returns-clause-survivor
returns-clause-survivor c = survivor_looks
