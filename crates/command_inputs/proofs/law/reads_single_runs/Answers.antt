use Rattle.command_inputs.proofs.TextLemmas.{singles_lem}
use Rattle.command_inputs.proofs.law.reads_single_runs.Goals as goal

pub returns : goal.returns
returns c = singles_lem
