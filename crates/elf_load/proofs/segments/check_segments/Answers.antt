use Rattle.std.proofs.Common.{◌||◌, ◌&&◌, ap, ◌∙◌, refl, arith, length}
use Rattle.elf_load.specs.Boot.{overruns}
use Rattle.elf_load.proofs.TableLemmas.{found_none, found_loaded, found_skipped, some_segment}
use Rattle.elf_load.proofs.segments.check_segments.Goals as goal
use Rattle.elf_load.proofs.segments.check_segments.Goals.{then-is_load+else-overruns, else-is_load}

pub returns-then-overruns-clause-err : goal.returns-then-overruns-clause-err
returns-then-overruns-clause-err c =
    rw (some_segment c.args.bytes.now c.loop-k.k (overruns (length c.args.bytes.now)) c.header-segment.result
    (omega arith) c.header-segment.ensures c.if-is_load.ensures c.if-overruns.ensures) refl

pub loop-k-init : goal.loop-k-init
loop-k-init c = found_none c.args.bytes.now c.args.size

pub loop-k-preserved : goal.loop-k-preserved
loop-k-preserved c = elim c.if-is_load.branch [
  | then-is_load+else-overruns w ↦ found_loaded c.header-segment.result c.loop-k.invariant c.header-segment.ensures
      w.if-is_load.ensures w.if-overruns.ensures
      (w.outside-is ∙ ap (λ x. c.loop-k.outside || x) w.lies_outside-outside.ensures)
      (w.empty-is ∙ ap (λ x. c.loop-k.empty && x) w.is_empty-empty.ensures)
  | else-is_load w ↦ found_skipped c.header-segment.result c.loop-k.invariant c.header-segment.ensures
      w.if-is_load.ensures w.outside-is w.empty-is
]
