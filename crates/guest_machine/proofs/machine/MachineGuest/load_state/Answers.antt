-- The values of the bytes are those of the machine.
use Rattle.std.proofs.Common.{◌≡◌, length, refl, ap, sym, subst, ◌∙◌}
use Rattle.machine_bytes.specs.Spelling.{bytes_of}
use Rattle.machine_bytes.specs.declared.fields.StateFields.{StateFields}
use Rattle.rv_platform.specs.Step.{PlatformState}
use Rattle.state_wire.specs.Guest.{with_bytes}
use Rattle.virtio_mmio.specs.Fields.{CanHold}
use Rattle.virtio_mmio.specs.declared.kind.Kind.{Kind}
use Rattle.guest_machine.specs.Guest.{MachineParts, machine_meaning, platform_of}
use Rattle.guest_machine.proofs.KindLemmas.{platform_set}
use Rattle.guest_machine.proofs.StateLemmas.{bytes_loaded}
use Rattle.guest_machine.proofs.machine.MachineGuest.load_state.Goals as goal

pub set_devices-requires-clause-block : goal.set_devices-requires-clause-block
set_devices-requires-clause-block g c =
    let kind = ap (λ (p : PlatformState). p.blk.kind) c.set_hart.ensures ∙ c.self.invariant.blk in
    subst (λ (k : Kind). CanHold k c.in-Some.f.block) (sym kind)
    (c.in-Some.ensures.legal.block (length (g.D.Disk.state c.self.inside.disk).mine))

pub returns-clause-ok : goal.returns-clause-ok
returns-clause-ok g c =
    let p = c.self.inside.platform in
    let d = g.D.Disk.state c.self.inside.disk in
    let b = c.args.state.now in
    let f = c.in-Some.f in
    let new = c.set_devices.new.self in
    let of : PlatformState → MachineParts = λ x. record {
      state = record { platform = x; disk = d };
      turned = c.self.inside.turned;
      spent = c.self.inside.spent;
    } in
    let set = platform_set p c.set_hart.new.self new d f c.self.invariant c.set_hart.ensures c.set_devices.ensures in
    let value = c.in-Some.ensures.value in
    subst (λ (m : MachineParts). machine_meaning (of new) ≡ with_bytes (machine_meaning m) b) c.self.view_is
    (bytes_loaded (of p) (of new) b
    (set ∙ ap (λ (x : StateFields). platform_of x p.memory (length d.mine)) value) refl refl
    (ap bytes_of (sym value) ∙ c.in-Some.ensures.back))
