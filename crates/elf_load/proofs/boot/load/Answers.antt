use Rattle.std.proofs.Common.{◌∙◌, ap}
use Rattle.std.specs.List.{fold}
use Rattle.elf_load.specs.Elf.{segments}
use Rattle.elf_load.specs.Boot.{boot_memory, place_segment}
use Rattle.elf_load.proofs.boot.load.Goals as goal

pub returns-clause-memory : goal.returns-clause-memory
unfolding boot_memory
returns-clause-memory c =
    c.place_segments.ensures
    ∙ ap (λ m. fold (place_segment c.args.bytes.now) m (segments c.args.bytes.now)) (c.fill.ensures.after (λ y h. h))
