use Rattle.theorem_frames.proofs.GrowthLemmas.{what_stands_goes_on}
use Rattle.theorem_frames.proofs.standing.what_stands_goes_on.Goals as goal

pub returns : goal.returns
returns c = what_stands_goes_on
