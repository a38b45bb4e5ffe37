use Rattle.theorem_runs.proofs.law.each_log_names_one_run.Goals as goal
use Rattle.theorem_runs.proofs.Names.{names_hold}

pub returns : goal.returns
returns c = names_hold
