use Rattle.pair_history.proofs.LogLemmas.{begins_at_boot}
use Rattle.pair_history.proofs.law.begins_at_boot.Goals as goal

pub returns : goal.returns
returns c = begins_at_boot
