-- The sector that is written is the sector that is set.
use Rattle.std.proofs.Common.{◌≡◌, ℕ, List, ◌≤◌, length, refl, ap, subst, ◌∙◌, arith}
use Rattle.std.specs.Prelude.{slice_set}
use Rattle.state_wire.specs.Guest.{with_sector}
use Rattle.virtio_blk.specs.Disk.{DiskState}
use Rattle.guest_machine.specs.Guest.{MachineParts, machine_meaning}
use Rattle.guest_machine.proofs.StateLemmas.{sector_absent, sector_loaded}
use Rattle.guest_machine.proofs.machine.MachineGuest.load_sector.Goals as goal

pub returns-then-k-sectors : goal.returns-then-k-sectors
returns-then-k-sectors g c =
    let count = c.sectors.ensures ∙ ap (λ (m : MachineParts). length m.state.disk.mine) c.self.view_is in
    let past : length c.args.self.now.state.disk.mine ≤ c.args.k = omega (arith, count, c.if-k-sectors.true) in
    sector_absent c.args.self.now c.args.k c.args.bytes.now past

pub returns : goal.returns
returns g c =
    let d = g.D.Disk.state c.self.inside.disk in
    let new = g.D.Disk.state c.write_sector.new.self in
    let of : DiskState → MachineParts = λ x. record {
      state = record { platform = c.self.inside.platform; disk = x };
      turned = c.self.inside.turned;
      spent = c.self.inside.spent;
    } in
    subst (λ (m : MachineParts). machine_meaning (of new) ≡ with_sector (machine_meaning m) c.args.k c.args.bytes.now)
    c.self.view_is
    (sector_loaded (of d) (of new) c.args.k c.args.bytes.now refl
    (ap (λ (x : DiskState). x.mine) c.write_sector.ensures
    ∙ ap (λ (b : List ℕ). slice_set d.mine c.args.k b) c.copy_from_slice.ensures.after) refl)
