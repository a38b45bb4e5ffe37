use Rattle.pair_history.proofs.LogLemmas.{goes_on_client}
use Rattle.pair_history.proofs.law.clients_go_on.Goals as goal

pub returns : goal.returns
returns c = goes_on_client
