use Rattle.std.proofs.Common.{drop, arith, length-drop}
use Rattle.std.proofs.lemmas.List.{take_rest}
use Rattle.shared_definitions.specs.Bytes.{AreBytes}
use Rattle.sock_link.proofs.RecordLemmas.{whole_at, read_more}
use Rattle.sock_link.proofs.records.whole_records.Goals as goal

pub loop-record-preserved : goal.loop-record-preserved
loop-record-preserved c =
    let bytes = c.args.bytes.now in
    let before = c.loop-record.invariant in
    let small : AreBytes c.args.bytes.now = λ i. omega (arith, c.type_inv.bytes i) in
    let w = whole_at _ (drop c.loop-record.size bytes) c.in-Some.record
    (take_rest c.args.bytes.now c.loop-record.size) c.in-Some.ensures.some in
    let more = read_more bytes c.loop-record.count c.loop-record.size small before.0 w.0 in
    let enough = w.0.whole in
    let long = length-drop c.loop-record.size bytes in
    (rw w.1 more, omega (arith, enough, w.1, before.1, long), omega (arith, w.1, before.2))
