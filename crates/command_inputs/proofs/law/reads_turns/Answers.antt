use Rattle.command_inputs.proofs.TurnLemmas.{turns_lem}
use Rattle.command_inputs.proofs.law.reads_turns.Goals as goal

pub returns : goal.returns
returns c = turns_lem
