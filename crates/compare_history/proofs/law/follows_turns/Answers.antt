use Rattle.compare_history.proofs.EventLemmas.{begins_at_boot, primary_turns, survivor_turns}
use Rattle.compare_history.proofs.law.follows_turns.Goals as goal

pub returns-clause-boot : goal.returns-clause-boot
returns-clause-boot c = begins_at_boot

pub returns-clause-primary : goal.returns-clause-primary
returns-clause-primary c = primary_turns

pub returns-clause-survivor : goal.returns-clause-survivor
returns-clause-survivor c = survivor_turns
