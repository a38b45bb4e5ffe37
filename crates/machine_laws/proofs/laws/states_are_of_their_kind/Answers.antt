use Rattle.machine_laws.proofs.RegularLemmas.{states_are_of_their_kind}
use Rattle.machine_laws.proofs.laws.states_are_of_their_kind.Goals as goal

pub returns : goal.returns
returns c = states_are_of_their_kind
