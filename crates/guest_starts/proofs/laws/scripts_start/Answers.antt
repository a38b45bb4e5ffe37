use Rattle.guest_starts.proofs.StartLemmas.{scripts_are_starts}
use Rattle.guest_starts.proofs.laws.scripts_start.Goals as goal

pub returns : goal.returns
returns c = scripts_are_starts c.scripts_are_regular.ensures
