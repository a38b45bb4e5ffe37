use Rattle.pair_history.proofs.LogLemmas.{runs_the_log}
use Rattle.pair_history.proofs.law.runs_the_log.Goals as goal

pub returns : goal.returns
returns c = runs_the_log
