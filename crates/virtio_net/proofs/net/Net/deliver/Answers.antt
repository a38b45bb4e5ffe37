use Rattle.std.proofs.Common.{◌≡◌, ◌∙◌, None, refl, ap, sym}
use Rattle.std.proofs.lemmas.Result.{err_from_is_err_and}
use Rattle.virtio_net.specs.Port.{port_of, next_of, take_chain, receive_queue}
use Rattle.virtio_net.specs.Receive.{Delivery, deliver}
use Rattle.virtio_net.proofs.PortLemmas.{some_given, given_err, ring_of_chain, deliver_fault, deliver_chain}
use Rattle.virtio_net.proofs.net.Net.deliver.Goals as goal
use Rattle.virtio_net.proofs.net.Net.deliver.Goals.{After-give_back}

pub returns-in_err-take-clause-answer : goal.returns-in_err-take-clause-answer
returns-in_err-take-clause-answer c =
    let port = port_of c.args.self.now c.args.ram.now in
    let fault = given_err (next_of port receive_queue) c.in_err-take.field-0.0 (sym c.in_err-take.ensures.answer) in
    let is = deliver_fault port c.args.frame.now c.in_err-take.field-0.0 fault in
    let p = err_from_is_err_and c.from_residual.result c.from_residual.ensures.1 in rw (p.1, p.2) (rw is refl)

pub returns-in_err-take-clause-port : goal.returns-in_err-take-clause-port
returns-in_err-take-clause-port c =
    let port = port_of c.args.self.now c.args.ram.now in
    let fault = given_err (next_of port receive_queue) c.in_err-take.field-0.0 (sym c.in_err-take.ensures.answer) in
    let is = deliver_fault port c.args.frame.now c.in_err-take.field-0.0 fault in
    let card = c.take.ensures.card ∙ ap (λ r. (take_chain port receive_queue r).card) fault in
    ap (λ x. port_of x c.args.ram.now) card ∙ sym (ap (λ (x : Delivery). x.port) is)

pub give_back-requires-clause-ring : goal.give_back-requires-clause-ring
give_back-requires-clause-ring c =
    let port = port_of c.args.self.now c.args.ram.now in
    let some = some_given (next_of port receive_queue) _ (sym c.in_ok-take.ensures.answer) c.if-branch.true in
    let ring = ring_of_chain c.args.ram.now.bytes c.args.self.now.device.first _ some in
    let card = c.take.ensures.card ∙ ap (λ r. (take_chain port receive_queue r).card) some in
    rw (c.fill-len.ensures.size, card) ring

-- a chain came, and was filled and returned
delivered : (c : After-give_back) → deliver (port_of c.args.self.now c.args.ram.now) c.args.frame.now
    ≡ (let done : Delivery = record { port = port_of c.give_back.new.self c.give_back.new.ram; fault = None } in done)
delivered c = deliver_chain (port_of c.args.self.now c.args.ram.now) c.args.frame.now _ c.take.new.self
    c.take.new.chain c.fill-len.new.ram c.head.result c.fill-len.result _ (sym c.in_ok-take.ensures.answer)
    c.if-branch.true c.take.ensures.card c.take.ensures.chain c.fill-len.ensures.memory c.head.ensures
    c.fill-len.ensures.len c.give_back.ensures.port

pub returns-then-branch-clause-answer : goal.returns-then-branch-clause-answer
returns-then-branch-clause-answer c =
    rw (delivered (goal.at.returns-then-branch-clause-answer c).After-give_back) refl

pub returns-then-branch-clause-port : goal.returns-then-branch-clause-port
returns-then-branch-clause-port c =
    sym (ap (λ (x : Delivery). x.port) (delivered (goal.at.returns-then-branch-clause-port c).After-give_back))
