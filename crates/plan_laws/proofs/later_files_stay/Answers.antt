use Rattle.plan_laws.proofs.FrontLemmas.{later_files_stay}
use Rattle.plan_laws.proofs.later_files_stay.Goals as goal

pub returns : goal.returns
returns c = later_files_stay
