-- There are as many pages as the list has.
use Rattle.std.proofs.Common.{length, ap, ◌∙◌, arith}
use Rattle.page_track.specs.Memory.{Memory}
use Rattle.guest_machine.specs.Guest.{MachineParts, guest_state}
use Rattle.guest_machine.proofs.PageLemmas.{length_pages}
use Rattle.guest_machine.proofs.machine.MachineGuest.pages.Goals as goal

pub returns-clause-state : goal.returns-clause-state
unfolding guest_state
returns-clause-state g c =
    let memory = c.ram.ensures ∙ ap (λ (m : MachineParts). m.state.platform.memory) c.self.view_is in
    omega (
      arith,
      length_pages c.args.self.now.state.platform.memory.bytes,
      ap (λ (m : Memory). length m.bytes) memory,
      c.pages.ensures,
    )
