use Rattle.virt_queue.proofs.PartLemmas.{Summing}
use Rattle.virt_queue.proofs.chain.Chain.total_len.Given as goal

abbrev pub invariant-loop-k : goal.invariant-loop-k
invariant-loop-k l = Summing l.writable l.self.parts l.k l.total
