use Rattle.virt_queue.proofs.ChainLemmas.{Walking}
use Rattle.virt_queue.proofs.walk.walk.Given as goal

abbrev pub invariant-loop-k : goal.invariant-loop-k
invariant-loop-k l = Walking l.ram.bytes l.q l.k l.index l.after l.chain
