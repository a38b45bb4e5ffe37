-- The platform that starts is the one at boot.
use Rattle.std.proofs.Common.{ℕ, length, ap, sym, ◌∙◌}
use Rattle.elf_load.specs.Boot.{elf_case}
use Rattle.guest_machine.proofs.BootLemmas.{booted, zeros_size}
use Rattle.guest_machine.proofs.machine.Machine.boot.Goals as goal

pub returns-in-Ok-load_image-clause-ok : goal.returns-in-Ok-load_image-clause-ok
returns-in-Ok-load_image-clause-ok g c =
    let loaded = c.in-Ok-load_image.ensures in
    booted c.args.mib c.args.image.now (g.D.Disk.state c.args.disk) (length c.in-Ok.ram.bytes)
    c.in-Ok-load_image.entry c.sectors.result c.load_image.new.ram c.new-platform.result
    (zeros_size c.args.mib c.in-Ok.ram c.in-Ok.ensures) loaded.no_case loaded.entry loaded.memory c.sectors.ensures
    c.new-platform.ensures

pub returns-in-Err-clause-fault : goal.returns-in-Err-clause-fault
returns-in-Err-clause-fault g c =
    ap (λ (n : ℕ). elf_case n c.args.image.now) (sym (zeros_size c.args.mib c.in-Ok.ram c.in-Ok.ensures))
    ∙ c.in-Err.ensures.first_case
