use Rattle.command_inputs.proofs.MachineLemmas.{machines_lem}
use Rattle.command_inputs.proofs.law.reads_machines.Goals as goal

pub returns : goal.returns
returns c = machines_lem
