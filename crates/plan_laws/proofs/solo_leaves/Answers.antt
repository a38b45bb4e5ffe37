use Rattle.plan_laws.proofs.FilesLemmas.{solo_leaves}
use Rattle.plan_laws.proofs.solo_leaves.Goals as goal

pub returns : goal.returns
returns c = solo_leaves
