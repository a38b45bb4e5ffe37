use Rattle.std.proofs.Common.{List, ℕ, Err, length, take, sym, ap, subst, ◌∙◌, arith}
use Rattle.shared_definitions.specs.Bytes.{AreBytes}
use Rattle.colo_wire.specs.Forms.{lengths_of}
use Rattle.colo_wire.specs.Lengths.{AllowsLength}
use Rattle.colo_wire.proofs.FaultLemmas.{whole_body_of, decode_answers, made_each, refused_answers, refused_each}
use Rattle.colo_wire.proofs.reading.decode.Goals as goal

pub made-requires-clause-allowed : goal.made-requires-clause-allowed
made-requires-clause-allowed c =
    let fits : AreBytes c.args.bytes.now = λ i. omega (arith, c.type_inv.bytes i) in
    let whole = whole_body_of c.in-Ok.kind c.in-Ok.len c.args.bytes.now fits (sym c.in-Ok.ensures) in
    let body = c.cut-in-Ok.ensures.front ∙ ap (take c.in-Ok.len) c.cut.ensures.rest in
    subst (λ (b : List ℕ). AllowsLength (lengths_of c.in-Ok.kind) (length b)) (sym body) whole.allowed

pub made-requires-clause-small : goal.made-requires-clause-small
made-requires-clause-small c =
    let fits : AreBytes c.args.bytes.now = λ i. omega (arith, c.type_inv.bytes i) in
    let whole = whole_body_of c.in-Ok.kind c.in-Ok.len c.args.bytes.now fits (sym c.in-Ok.ensures) in
    let body = c.cut-in-Ok.ensures.front ∙ ap (take c.in-Ok.len) c.cut.ensures.rest in
    omega (arith, ap length body, whole.small)

pub returns-in-Ok-clause-found : goal.returns-in-Ok-clause-found
returns-in-Ok-clause-found c =
    (decode_answers c.args.bytes.now c.cut.result.1.now c.cut-in-Ok.result.0.now c.in-Ok.kind c.in-Ok.len
    c.made.result
    (λ i. omega (arith, c.type_inv.bytes i)) c.in-Ok.ensures c.cut.ensures.rest c.cut-in-Ok.ensures.front
    c.made.ensures.ok c.made.ensures.err).found

pub returns-in-Ok-clause-only : goal.returns-in-Ok-clause-only
returns-in-Ok-clause-only c =
    (decode_answers c.args.bytes.now c.cut.result.1.now c.cut-in-Ok.result.0.now c.in-Ok.kind c.in-Ok.len
    c.made.result
    (λ i. omega (arith, c.type_inv.bytes i)) c.in-Ok.ensures c.cut.ensures.rest c.cut-in-Ok.ensures.front
    c.made.ensures.ok c.made.ensures.err).only

pub returns-in-Ok-clause-each : goal.returns-in-Ok-clause-each
returns-in-Ok-clause-each c f h =
    let fits : AreBytes c.args.bytes.now = λ i. omega (arith, c.type_inv.bytes i) in
    made_each c.args.bytes.now c.in-Ok.kind c.in-Ok.len f fits (sym c.in-Ok.ensures) h

pub returns-in-Err-clause-only : goal.returns-in-Err-clause-only
returns-in-Err-clause-only c =
    let fits : AreBytes c.args.bytes.now = λ i. omega (arith, c.type_inv.bytes i) in
    (refused_answers c.args.bytes.now c.in-Err.fault fits (sym c.in-Err.ensures)).only

pub returns-in-Err-clause-fault : goal.returns-in-Err-clause-fault
returns-in-Err-clause-fault c =
    let fits : AreBytes c.args.bytes.now = λ i. omega (arith, c.type_inv.bytes i) in
    (refused_answers c.args.bytes.now c.in-Err.fault fits (sym c.in-Err.ensures)).fault

pub returns-in-Err-clause-each : goal.returns-in-Err-clause-each
returns-in-Err-clause-each c f h =
    let fits : AreBytes c.args.bytes.now = λ i. omega (arith, c.type_inv.bytes i) in
    ap Err (refused_each c.args.bytes.now c.in-Err.fault f fits (sym c.in-Err.ensures) h)
