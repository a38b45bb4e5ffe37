-- By cases of the calls.
use Rattle.secondary_laws.proofs.CallLemmas.{go_in_order}
use Rattle.secondary_laws.proofs.law.go_in_order.Goals as goal

pub returns : goal.returns
returns c = go_in_order
