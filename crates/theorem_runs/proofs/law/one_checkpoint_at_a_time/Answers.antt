use Rattle.theorem_runs.proofs.law.one_checkpoint_at_a_time.Goals as goal
use Rattle.theorem_runs.proofs.EachLaw.{one_checkpoint_holds}

pub returns : goal.returns
returns c = one_checkpoint_holds
