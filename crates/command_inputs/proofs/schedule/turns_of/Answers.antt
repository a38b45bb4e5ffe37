-- All lines are turns.
use Rattle.std.proofs.Common.{sym}
use Rattle.command_inputs.proofs.TurnLemmas.{turns_all}
use Rattle.command_inputs.proofs.schedule.turns_of.Goals as goal

pub returns-clause-read : goal.returns-clause-read
returns-clause-read c =
    turns_all c.args.lines.now c.in_ok-turns_in.field-0.items (sym c.if-not-are_turns.ensures) c.in_ok-turns_in.ensures
