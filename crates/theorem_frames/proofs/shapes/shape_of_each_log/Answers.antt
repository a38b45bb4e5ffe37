use Rattle.theorem_frames.proofs.ShapeLemmas.{shape_of_each_log}
use Rattle.theorem_frames.proofs.shapes.shape_of_each_log.Goals as goal

pub returns : goal.returns
returns c = shape_of_each_log
