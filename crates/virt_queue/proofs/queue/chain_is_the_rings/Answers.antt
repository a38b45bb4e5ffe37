use Rattle.virt_queue.proofs.RingLemmas.{reads_the_ring}
use Rattle.virt_queue.proofs.queue.chain_is_the_rings.Goals as goal

pub returns : goal.returns
returns c = reads_the_ring
