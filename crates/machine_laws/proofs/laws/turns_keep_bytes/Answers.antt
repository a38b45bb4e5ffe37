use Rattle.machine_laws.proofs.TurnLemmas.{turns_keep}
use Rattle.machine_laws.proofs.laws.turns_keep_bytes.Goals as goal

pub returns : goal.returns
returns c = turns_keep
