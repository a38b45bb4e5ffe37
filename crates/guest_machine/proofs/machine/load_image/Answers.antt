-- All of memory was lent.
use Rattle.std.proofs.Common.{◌≡◌, length, ap, ◌∙◌, arith}
use Rattle.elf_load.specs.Boot.{boot_memory}
use Rattle.guest_machine.proofs.PageLemmas.{take_whole}
use Rattle.guest_machine.proofs.TurnLemmas.{on_ok}
use Rattle.guest_machine.proofs.machine.load_image.Goals as goal

pub returns-clause-memory : goal.returns-clause-memory
returns-clause-memory c =
    let b = c.args.ram.now.bytes in
    let len : length c.lent.result.now ≡ length b = omega (arith, c.lent.ensures.len, c.size-size.ensures.value) in
    on_ok _ _ c.load.result
    (λ e. take_whole b c.load.new.memory (omega (arith, c.load.auto.memory, len))
    ∙ (e ∙ ap (λ n. boot_memory n c.args.image.now) len))
    c.load.ensures.memory
