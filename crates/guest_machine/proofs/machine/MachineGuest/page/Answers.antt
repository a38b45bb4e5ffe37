-- The page is the one of the list.
use Rattle.std.proofs.Common.{ap, ◌∙◌}
use Rattle.page_track.specs.Memory.{Memory, find_page}
use Rattle.guest_machine.specs.Guest.{MachineParts, guest_state}
use Rattle.guest_machine.proofs.PageLemmas.{page_is}
use Rattle.guest_machine.proofs.machine.MachineGuest.page.Goals as goal

pub returns-clause-page : goal.returns-clause-page
unfolding guest_state
returns-clause-page g c =
    let memory = c.ram.ensures ∙ ap (λ (m : MachineParts). m.state.platform.memory) c.self.view_is in
    c.page.ensures ∙ (ap (λ (m : Memory). find_page m.bytes c.args.k) memory
    ∙ page_is c.args.self.now.state.platform.memory.bytes c.args.k)
