use Rattle.theorem_frames.proofs.ShownLemmas.{symbols_of_each_log}
use Rattle.theorem_frames.proofs.prompt.symbols_of_each_log.Goals as goal

pub returns : goal.returns
returns c = symbols_of_each_log
