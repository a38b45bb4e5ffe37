use Rattle.command_inputs.proofs.ClientLemmas.{clients_lem}
use Rattle.command_inputs.proofs.law.reads_clients.Goals as goal

pub returns : goal.returns
returns c = clients_lem
