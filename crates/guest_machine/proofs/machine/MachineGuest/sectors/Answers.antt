-- There are as many sectors as the list has.
use Rattle.std.proofs.Common.{length, ap, ◌∙◌}
use Rattle.guest_machine.specs.Guest.{MachineParts, guest_state}
use Rattle.guest_machine.proofs.machine.MachineGuest.sectors.Goals as goal

pub returns-clause-state : goal.returns-clause-state
unfolding guest_state
returns-clause-state g c =
    c.sectors.ensures ∙ ap (λ (m : MachineParts). length m.state.disk.mine) c.self.view_is
