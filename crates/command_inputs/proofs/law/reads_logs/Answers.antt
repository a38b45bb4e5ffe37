use Rattle.command_inputs.proofs.LogLemmas.{logs_lem}
use Rattle.command_inputs.proofs.law.reads_logs.Goals as goal

pub returns : goal.returns
returns c = logs_lem
