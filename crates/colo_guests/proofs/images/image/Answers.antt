use Rattle.std.proofs.Common.{length, arith, ap, ◌∙◌}
use Rattle.elf_load.specs.Boot.{elf_case}
use Rattle.colo_guests.proofs.CaseLemmas.{length_file, no_case}
use Rattle.colo_guests.proofs.images.image.Goals as goal

pub returns-in_ok-bytes-in-Some-clause-loads : goal.returns-in_ok-bytes-in-Some-clause-loads
returns-in_ok-bytes-in-Some-clause-loads c size room =
    ap (elf_case size) c.in_ok-bytes-in-Some.ensures
    ∙ no_case c.in-Some.words.now size c.in-Some.ensures.some c.in-Some.ensures.small room

pub returns-in_ok-bytes-in-Some-clause-small : goal.returns-in_ok-bytes-in-Some-clause-small
returns-in_ok-bytes-in-Some-clause-small c = omega (
  arith,
  ap length c.in_ok-bytes-in-Some.ensures,
  length_file c.in-Some.words.now,
  c.in-Some.ensures.small,
)
