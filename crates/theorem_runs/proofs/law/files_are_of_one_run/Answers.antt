use Rattle.theorem_runs.proofs.law.files_are_of_one_run.Goals as goal
use Rattle.theorem_runs.proofs.Parts.{files_hold}

pub returns : goal.returns
returns c = files_hold
