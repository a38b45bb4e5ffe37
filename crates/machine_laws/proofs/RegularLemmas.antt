-- A machine's kind is regular, by both laws of its turns together, and its state is one of the kind.
use Rattle.std.proofs.Common.{refl}
use Rattle.state_wire.specs.Regular.{FitsKind}
use Rattle.guest_machine.specs.Guest.{guest_state, machine_meaning}
use Rattle.guest_machine.proofs.PageLemmas.{length_pages}
use Rattle.machine_laws.specs.Laws.{MachinesAreRegular, StatesAreOfTheirKind}
use Rattle.machine_laws.proofs.FitLemmas.{all_pages, machines_fit}
use Rattle.machine_laws.proofs.TurnLemmas.{guest_bytes, machines_keep}

pub machines_are_regular : MachinesAreRegular
machines_are_regular m =
    let keeps = machines_keep m in
    record {
      next = λ state turn fits bytes frame. (machines_fit m state turn fits, keeps.next state turn bytes frame);
      sent = keeps.sent;
    }

pub states_are_of_their_kind : StatesAreOfTheirKind
unfolding guest_state
states_are_of_their_kind m bytes sectors =
    let memory = m.state.platform.memory.bytes in
    let fits : FitsKind (machine_meaning m).kind (machine_meaning m).state = record {
      page_count = length_pages memory;
      sector_count = refl;
      pages = all_pages memory;
      sectors = sectors;
    } in
    (fits, guest_bytes m.state bytes)
