use Rattle.virt_queue.proofs.PartLemmas.{Reading}
use Rattle.virt_queue.proofs.chain.Chain.read.Given as goal

abbrev pub invariant-loop-k : goal.invariant-loop-k
invariant-loop-k l = Reading l.ram.bytes l.self.parts l.from l.fn.into l.k l.skip l.filled l.into
