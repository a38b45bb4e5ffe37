use Rattle.replay_laws.proofs.FilesLemmas.{log_leaves}
use Rattle.replay_laws.proofs.log_leaves.Goals as goal

pub returns : goal.returns
returns c = log_leaves
