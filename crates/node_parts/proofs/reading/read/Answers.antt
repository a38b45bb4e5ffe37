-- Of any reading of the bytes, what is answered is that reading.
use Rattle.node_parts.proofs.ReadingLemmas.{read_fault, read_followed, read_whole}
use Rattle.node_parts.proofs.reading.read.Goals as goal

pub returns-in-Err-clause-each : goal.returns-in-Err-clause-each
returns-in-Err-clause-each c reading h ne =
    read_fault c.args.bytes.now c.in-Err.fault c.in-Err.ensures.only c.in-Err.ensures.each reading h ne

pub returns-then-size-bytes-clause-each : goal.returns-then-size-bytes-clause-each
returns-then-size-bytes-clause-each c reading h ne =
    read_whole c.args.bytes.now c.in-Ok.message c.in-Ok.size c.if-size-bytes.true c.in-Ok.ensures.only
    c.in-Ok.ensures.each reading h

pub returns-else-size-bytes-clause-each : goal.returns-else-size-bytes-clause-each
returns-else-size-bytes-clause-each c reading h ne =
    read_followed c.args.bytes.now c.in-Ok.message c.in-Ok.size c.if-size-bytes.false c.in-Ok.ensures.only
    c.in-Ok.ensures.each reading h
