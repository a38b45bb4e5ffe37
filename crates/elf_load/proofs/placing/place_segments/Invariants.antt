use Rattle.std.proofs.Common.{◌≡◌}
use Rattle.std.specs.Prelude.{fold}
use Rattle.elf_load.specs.Boot.{place_segment}
use Rattle.elf_load.proofs.TableLemmas.{segments_up_to}
use Rattle.elf_load.proofs.placing.place_segments.Given as goal

abbrev pub invariant-loop-k : goal.invariant-loop-k
invariant-loop-k l = l.memory ≡ fold (place_segment l.bytes) l.fn.memory (segments_up_to l.bytes l.k)
