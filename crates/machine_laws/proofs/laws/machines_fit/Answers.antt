use Rattle.machine_laws.proofs.FitLemmas.{machines_fit}
use Rattle.machine_laws.proofs.laws.machines_fit.Goals as goal

pub returns : goal.returns
returns c = machines_fit
