use Rattle.pair_history.proofs.DueEvents.{down_is_due, up_is_due}
use Rattle.pair_history.proofs.law.each_message_is_due.Goals as goal

pub returns-clause-down : goal.returns-clause-down
returns-clause-down c = down_is_due

pub returns-clause-up : goal.returns-clause-up
returns-clause-up c = up_is_due
