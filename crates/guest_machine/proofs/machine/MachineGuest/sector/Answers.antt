-- The sector is the one of the list.
use Rattle.std.proofs.Common.{◌≤◌, length, ap, sym, ◌∙◌, arith}
use Rattle.std.proofs.lemmas.Option.{slice_get_past}
use Rattle.std.specs.Prelude.{slice_get}
use Rattle.guest_machine.specs.Guest.{MachineParts, guest_state}
use Rattle.guest_machine.proofs.machine.MachineGuest.sector.Goals as goal

pub returns-then-k-sectors-clause-sector : goal.returns-then-k-sectors-clause-sector
unfolding guest_state
returns-then-k-sectors-clause-sector g c =
    sym c.sector.ensures.sector ∙ ap (λ (m : MachineParts). slice_get m.state.disk.mine c.args.k) c.self.view_is

pub returns-else-k-sectors-clause-sector : goal.returns-else-k-sectors-clause-sector
unfolding guest_state
returns-else-k-sectors-clause-sector g c =
    let count = c.sectors.ensures ∙ ap (λ (m : MachineParts). length m.state.disk.mine) c.self.view_is in
    let past : length c.args.self.now.state.disk.mine ≤ c.args.k = omega (arith, count, c.if-k-sectors.false) in
    sym (slice_get_past c.args.self.now.state.disk.mine c.args.k past)
