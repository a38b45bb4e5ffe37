-- By cases of the calls.
use Rattle.node_primary.proofs.CallLemmas.{wait_in_order}
use Rattle.node_primary.proofs.law.wait_in_order.Goals as goal

pub returns : goal.returns
returns c = wait_in_order
