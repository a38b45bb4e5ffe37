use Rattle.theorem_frames.proofs.BuildLemmas.{surviving_builds_lem}
use Rattle.theorem_frames.proofs.shapes.surviving_builds.Goals as goal

pub returns : goal.returns
returns c = surviving_builds_lem
