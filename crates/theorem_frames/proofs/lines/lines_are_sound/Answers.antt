use Rattle.theorem_frames.proofs.LineLemmas.{lines_are_sound_lem}
use Rattle.theorem_frames.proofs.lines.lines_are_sound.Goals as goal

pub returns : goal.returns
returns c = lines_are_sound_lem
