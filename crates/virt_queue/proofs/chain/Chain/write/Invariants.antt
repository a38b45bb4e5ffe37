use Rattle.virt_queue.proofs.PartLemmas.{Writing}
use Rattle.virt_queue.proofs.chain.Chain.write.Given as goal

abbrev pub invariant-loop-k : goal.invariant-loop-k
invariant-loop-k l = Writing l.fn.ram l.self.parts l.from l.bytes l.k l.ram l.skip l.rest
