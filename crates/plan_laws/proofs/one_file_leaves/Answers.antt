use Rattle.plan_laws.proofs.FilesLemmas.{one_file_leaves}
use Rattle.plan_laws.proofs.one_file_leaves.Goals as goal

pub returns : goal.returns
returns c = one_file_leaves
