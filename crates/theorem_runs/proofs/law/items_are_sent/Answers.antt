use Rattle.theorem_runs.proofs.law.items_are_sent.Goals as goal
use Rattle.theorem_runs.proofs.EachLaw.{items_hold}

pub returns : goal.returns
returns c = items_hold
