use Rattle.std.proofs.Common.{arith, ◌*◌}
use Rattle.std.proofs.lemmas.Grind.{common_steps}
use Rattle.machine_bytes.proofs.NumberLemmas.{table_more}
use Rattle.machine_bytes.proofs.ReadLemmas.{words_from_reads}
use Rattle.machine_bytes.specs.Reading.{number_at}
use Rattle.machine_bytes.proofs.reading.registers_of.Goals as goal

pub loop-k-preserved : goal.loop-k-preserved
loop-k-preserved c = (
  grind (arith, common_steps),
  table_more c.loop-k.x c.loop-k.k c.word_at.result (λ j. number_at 4 c.args.bytes.now (4 * j)) (omega arith)
      c.word_at.ensures c.loop-k.invariant.1,
)

pub returns : goal.returns
returns c = words_from_reads 31 c.args.bytes.now c.loop-k.x c.loop-k.invariant.0 (λ k below. c.loop-k.invariant.1 k
    (omega arith))
