use Rattle.elf_load.proofs.TableLemmas.{Found}
use Rattle.elf_load.proofs.segments.check_segments.Given as goal

abbrev pub invariant-loop-k : goal.invariant-loop-k
invariant-loop-k l = Found l.bytes l.size l.k l.outside l.empty
