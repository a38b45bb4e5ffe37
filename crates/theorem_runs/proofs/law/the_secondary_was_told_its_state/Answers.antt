use Rattle.theorem_runs.proofs.law.the_secondary_was_told_its_state.Goals as goal
use Rattle.theorem_runs.proofs.Telling.{told_holds}

pub returns : goal.returns
returns c = told_holds
