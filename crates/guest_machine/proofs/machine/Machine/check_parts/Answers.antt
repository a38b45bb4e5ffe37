-- The values of the state are read back from their bytes.
use Rattle.std.proofs.Common.{◌≡◌, length, ap, sym, subst, ◌∙◌, arith}
use Rattle.machine_bytes.specs.Reading.{fields_in}
use Rattle.machine_bytes.specs.Spelling.{bytes_of}
use Rattle.machine_bytes.specs.declared.fields.StateFields.{StateFields}
use Rattle.page_track.specs.Memory.{Memory}
use Rattle.guest_machine.specs.Guest.{MachineParts, platform_of}
use Rattle.guest_machine.proofs.StateLemmas.{parts_stand}
use Rattle.guest_machine.proofs.machine.Machine.check_parts.Goals as goal

pub returns : goal.returns
returns g c =
    let s = c.args.self.now.state in
    let value = c.fields.ensures.value in
    let bytes = c.to_bytes-bytes.ensures in
    let memory = c.ram.ensures ∙ ap (λ (m : MachineParts). m.state.platform.memory) c.self.view_is in
    parts_stand s
    (ap (λ (f : StateFields). fields_in (bytes_of f)) (sym value)
    ∙ (ap fields_in (sym bytes.value) ∙ (bytes.back ∙ value)))
    (subst (λ (f : StateFields). platform_of f s.platform.memory (length s.disk.mine) ≡ s.platform) value
    c.fields.ensures.back)
    (omega (arith, c.size-size.ensures.whole, c.size-size.ensures.value, ap (λ (m : Memory). length m.bytes) memory))
