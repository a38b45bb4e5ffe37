use Rattle.pair_history.proofs.LogLemmas.{goes_on_ask}
use Rattle.pair_history.proofs.law.asks_go_on.Goals as goal

pub returns : goal.returns
returns c = goes_on_ask
