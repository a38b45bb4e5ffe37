use Rattle.seq_rewriter.proofs.GivenLemmas.{raises_ack}
use Rattle.seq_rewriter.proofs.law.raises_the_acknowledgement.Goals as goal

pub returns : goal.returns
returns c = raises_ack
