-- What was spelled is read again.
use Rattle.colo_wire.proofs.ReaderLemmas.{reads_messages, whole_again}
use Rattle.node_parts.proofs.putting.read_back.Goals as goal

pub returns-clause-whole : goal.returns-clause-whole
returns-clause-whole c =
    whole_again c.args.message.now c.args.bytes.now.items
    (record { message = c.requires.message; spelled = c.requires.spelled })

pub returns-clause-same : goal.returns-clause-same
returns-clause-same c =
    reads_messages c.args.message.now c.args.bytes.now.items
    (record { message = c.requires.message; spelled = c.requires.spelled })
