use Rattle.plan_laws.proofs.StatusLemmas.{refusals_are_first}
use Rattle.plan_laws.proofs.refusals_are_first.Goals as goal

pub returns : goal.returns
returns c = refusals_are_first
