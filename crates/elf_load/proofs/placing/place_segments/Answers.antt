use Rattle.std.proofs.Common.{length, arith, ◌∙◌}
use Rattle.elf_load.specs.Boot.{overruns, lies_outside}
use Rattle.elf_load.proofs.TableLemmas.{no_segment}
use Rattle.elf_load.proofs.PlaceLemmas.{place_loaded, place_skipped}
use Rattle.elf_load.proofs.placing.place_segments.Goals as goal
use Rattle.elf_load.proofs.placing.place_segments.Goals.{then-is_load, else-is_load}

pub place-requires-clause-no_overrun : goal.place-requires-clause-no_overrun
place-requires-clause-no_overrun c =
    no_segment c.args.bytes.now c.loop-k.k (overruns (length c.args.bytes.now)) c.header-segment.result
    c.requires.no_overrun (omega arith) c.header-segment.ensures c.if-is_load.ensures

pub place-requires-clause-inside : goal.place-requires-clause-inside
place-requires-clause-inside c =
    rw (c.loop-k.auto.memory) (no_segment c.args.bytes.now c.loop-k.k (lies_outside
    (length c.args.memory.now)) c.header-segment.result
    c.requires.inside (omega arith) c.header-segment.ensures c.if-is_load.ensures)

pub loop-k-preserved : goal.loop-k-preserved
loop-k-preserved c = elim c.if-is_load.branch [
  | then-is_load w ↦ place_loaded c.args.bytes.now c.args.memory.now c.loop-k.k c.header-segment.result
      c.loop-k.invariant c.header-segment.ensures w.if-is_load.ensures (w.memory-is ∙ w.place.ensures)
  | else-is_load w ↦ place_skipped c.args.bytes.now c.args.memory.now c.loop-k.k c.header-segment.result
      c.loop-k.invariant c.header-segment.ensures w.if-is_load.ensures w.memory-is
]
