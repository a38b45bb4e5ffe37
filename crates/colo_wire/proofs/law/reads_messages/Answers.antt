-- What was spelled is read again.
use Rattle.colo_wire.proofs.ReaderLemmas.{reads_messages}
use Rattle.colo_wire.proofs.law.reads_messages.Goals as goal

pub returns : goal.returns
returns c = reads_messages
