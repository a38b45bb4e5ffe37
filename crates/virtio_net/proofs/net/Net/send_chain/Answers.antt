use Rattle.std.proofs.Common.{◌≡◌, ◌∙◌, ◌++◌, ap, sym}
use Rattle.std.proofs.lemmas.Result.{err_from_is_err_and}
use Rattle.std.specs.Option.{option_copied}
use Rattle.virtio_mmio.specs.declared.kind.Served.TheVariants.{Idle, Broken}
use Rattle.virtio_net.specs.Port.{port_of, next_of, take_chain, send_queue}
use Rattle.virtio_net.specs.Send.{Sending, send_chain}
use Rattle.virtio_net.proofs.PortLemmas.{some_given, ring_of_chain}
use Rattle.virtio_net.proofs.SendLemmas.{IsSent, frames_of_chain, send_none, send_fault, send_frame, sending_of, served_ok, served_err}
use Rattle.virtio_net.proofs.net.Net.send_chain.Goals as goal
use Rattle.virtio_net.proofs.net.Net.send_chain.Goals.{In-Ok-false, In-Err, After-give_back}

-- no chain is available
none : (c : In-Ok-false) → IsSent (send_chain (port_of c.args.self.now c.args.ram.now)) Idle
    (port_of c.take.new.self c.args.ram.now) c.args.out.now c.args.out.now
none c = send_none (port_of c.args.self.now c.args.ram.now) _ c.take.new.self c.args.out.now
    (sym c.in-Ok-false.ensures.answer) c.in-Ok-false.field-0-test c.take.ensures.card

pub returns-in-Ok-false-clause-answer : goal.returns-in-Ok-false-clause-answer
returns-in-Ok-false-clause-answer c =
    (none (goal.at.returns-in-Ok-false-clause-answer c).In-Ok-false).answer_is

pub returns-in-Ok-false-clause-port : goal.returns-in-Ok-false-clause-port
returns-in-Ok-false-clause-port c = (none (goal.at.returns-in-Ok-false-clause-port c).In-Ok-false).port_is

pub returns-in-Ok-false-clause-frames : goal.returns-in-Ok-false-clause-frames
returns-in-Ok-false-clause-frames c =
    (none (goal.at.returns-in-Ok-false-clause-frames c).In-Ok-false).frames_are

-- the ring has a fault
failed : (c : In-Err) → IsSent (send_chain (port_of c.args.self.now c.args.ram.now)) (Broken c.in-Err.fault)
    (port_of c.take.new.self c.args.ram.now) c.args.out.now c.args.out.now
failed c = send_fault (port_of c.args.self.now c.args.ram.now) c.in-Err.fault c.take.new.self c.args.out.now
    (sym c.in-Err.ensures.answer) c.take.ensures.card

pub returns-in-Err-clause-answer : goal.returns-in-Err-clause-answer
returns-in-Err-clause-answer c = (failed (goal.at.returns-in-Err-clause-answer c).In-Err).answer_is

pub returns-in-Err-clause-port : goal.returns-in-Err-clause-port
returns-in-Err-clause-port c = (failed (goal.at.returns-in-Err-clause-port c).In-Err).port_is

pub returns-in-Err-clause-frames : goal.returns-in-Err-clause-frames
returns-in-Err-clause-frames c = (failed (goal.at.returns-in-Err-clause-frames c).In-Err).frames_are

pub give_back-requires-clause-ring : goal.give_back-requires-clause-ring
give_back-requires-clause-ring c =
    let port = port_of c.args.self.now c.args.ram.now in
    let some = some_given (next_of port send_queue) _ (sym c.in-Ok-true.ensures.answer) c.in-Ok-true.field-0-test in
    let card = c.take.ensures.card ∙ ap (λ r. (take_chain port send_queue r).card) some in
    rw card (ring_of_chain c.args.ram.now.bytes c.args.self.now.device.second _ some)

-- the frame of a chain
sends : (c : After-give_back) → send_chain (port_of c.args.self.now c.args.ram.now)
    ≡ sending_of (port_of c.give_back.new.self c.give_back.new.ram) (option_copied c.frame_in-frame.result)
sends c = send_frame (port_of c.args.self.now c.args.ram.now) _ c.take.new.self c.take.new.chain c.head.result
    (option_copied c.frame_in-frame.result) _ (sym c.in-Ok-true.ensures.answer) c.in-Ok-true.field-0-test
    c.take.ensures.card c.take.ensures.chain c.head.ensures c.frame_in-frame.ensures c.give_back.ensures.port

pub returns-in-Ok-clause-answer : goal.returns-in-Ok-clause-answer
returns-in-Ok-clause-answer c =
    sym (ap (λ (x : Sending). x.answer) (sends (goal.at.returns-in-Ok-clause-answer c).After-give_back)
    ∙ served_ok _ (sym c.in-Ok.ensures.answer))

pub returns-in-Ok-clause-port : goal.returns-in-Ok-clause-port
returns-in-Ok-clause-port c =
    c.answer_request.ensures.port
    ∙ sym (ap (λ (x : Sending). x.port) (sends (goal.at.returns-in-Ok-clause-port c).After-give_back))

pub returns-in-Ok-clause-frames : goal.returns-in-Ok-clause-frames
returns-in-Ok-clause-frames c =
    c.in_ok-push_output.ensures.ok
    ∙ sym (ap (λ (x : Sending). c.args.out.now ++ x.frames)
    (sends (goal.at.returns-in-Ok-clause-frames c).After-give_back))

pub returns-in-Err-answer_request-clause-answer : goal.returns-in-Err-answer_request-clause-answer
returns-in-Err-answer_request-clause-answer c =
    sym (ap (λ (x : Sending). x.answer) (sends (goal.at.returns-in-Err-answer_request-clause-answer c).After-give_back)
    ∙ served_err _ c.in-Err-answer_request.fault (sym c.in-Err-answer_request.ensures.answer))

pub returns-in-Err-answer_request-clause-port : goal.returns-in-Err-answer_request-clause-port
returns-in-Err-answer_request-clause-port c =
    c.answer_request.ensures.port
    ∙ sym (ap (λ (x : Sending). x.port) (sends (goal.at.returns-in-Err-answer_request-clause-port c).After-give_back))

pub returns-in-Err-answer_request-clause-frames : goal.returns-in-Err-answer_request-clause-frames
returns-in-Err-answer_request-clause-frames c =
    c.in_ok-push_output.ensures.ok
    ∙ sym (ap (λ (x : Sending). c.args.out.now ++ x.frames)
    (sends (goal.at.returns-in-Err-answer_request-clause-frames c).After-give_back))

pub returns-in_err-push_output-clause-cause : goal.returns-in_err-push_output-clause-cause
returns-in_err-push_output-clause-cause c =
    let port = port_of c.args.self.now c.args.ram.now in
    let sent = frames_of_chain port _ c.take.new.self c.take.new.chain (option_copied c.frame_in-frame.result)
    (sym c.in-Ok-true.ensures.answer) c.in-Ok-true.field-0-test c.take.ensures.card c.take.ensures.chain
    c.frame_in-frame.ensures in
    let p = err_from_is_err_and c.from_residual.result c.from_residual.ensures.1 in
    rw p.1 (λ none. c.in_err-push_output.ensures.cause (sym sent ∙ none))
