use Rattle.splice_run.proofs.RunLemmas.{run_is_spelled}
use Rattle.splice_run.proofs.law.single_run_is_spelled.Goals as goal

pub returns : goal.returns
returns c = λ log text t. run_is_spelled log text t
