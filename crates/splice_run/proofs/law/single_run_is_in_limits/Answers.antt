use Rattle.splice_run.proofs.LimitLemmas.{single_is_in_limits}
use Rattle.splice_run.proofs.law.single_run_is_in_limits.Goals as goal

pub returns : goal.returns
returns c = single_is_in_limits
