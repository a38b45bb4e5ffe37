use Rattle.command_inputs.proofs.TextLemmas.{schedules_lem}
use Rattle.command_inputs.proofs.law.reads_schedules.Goals as goal

pub returns : goal.returns
returns c = schedules_lem
