use Rattle.settle_history.proofs.CallLemmas.{looks_at_client}
use Rattle.settle_history.proofs.law.looks_at_client.Goals as goal

pub returns : goal.returns
returns c = looks_at_client
