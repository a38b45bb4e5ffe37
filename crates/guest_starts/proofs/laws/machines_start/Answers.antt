use Rattle.guest_starts.proofs.StartLemmas.{machines_are_starts}
use Rattle.guest_starts.proofs.laws.machines_start.Goals as goal

pub returns : goal.returns
returns c = machines_are_starts c.boots_are_bytes.ensures c.machines_are_regular.ensures
    c.states_are_of_their_kind.ensures
