use Rattle.machine_laws.proofs.BootLemmas.{boots_are}
use Rattle.machine_laws.proofs.laws.boots_are_bytes.Goals as goal

pub returns : goal.returns
returns c = boots_are
