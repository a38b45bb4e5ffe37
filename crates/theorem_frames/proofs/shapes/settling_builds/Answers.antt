use Rattle.theorem_frames.proofs.BuildLemmas.{settling_builds_lem}
use Rattle.theorem_frames.proofs.shapes.settling_builds.Goals as goal

pub returns : goal.returns
returns c = settling_builds_lem
