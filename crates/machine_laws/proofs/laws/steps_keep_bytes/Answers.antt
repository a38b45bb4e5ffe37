use Rattle.machine_laws.proofs.BytesLemmas.{steps_keep}
use Rattle.machine_laws.proofs.laws.steps_keep_bytes.Goals as goal

pub returns : goal.returns
returns c = steps_keep
