use Rattle.plan_laws.proofs.FrontLemmas.{fronts_of_two}
use Rattle.plan_laws.proofs.fronts_of_two.Goals as goal

pub returns : goal.returns
returns c = fronts_of_two
