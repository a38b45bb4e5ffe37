use Rattle.std.proofs.Common.{◌∙◌, ◌++◌, slice_index_or, refl, ap, sym, append-nil}
use Rattle.std.proofs.lemmas.Result.{err_from_is_err_and}
use Rattle.virtio_mmio.specs.declared.kind.Served.TheVariants.{Idle, Broken}
use Rattle.virtio_mmio.specs.declared.fields.DeviceFields.{DeviceFields}
use Rattle.virt_queue.specs.Queue.{no_queue}
use Rattle.virtio_net.specs.Port.{Card, port_of}
use Rattle.virtio_net.specs.Send.{Sending, send_chain, send}
use Rattle.virtio_net.proofs.SendLemmas.{IsSent, chain_of_notify, sends_begin, sends_go_on, sends_end, sends_all, serves_is, of_notify, send_idle}
use Rattle.virtio_net.proofs.net.Net.sent.Goals as goal
use Rattle.virtio_net.proofs.net.Net.sent.Goals.{In-Idle, In-Broken, After-loop}

pub returns-then-not-serves-clause-answer : goal.returns-then-not-serves-clause-answer
returns-then-not-serves-clause-answer c =
    let start = port_of c.args.self.now c.args.ram.now in
    let idle = send_idle start (serves_is _ c.args.self.now _ _ c.self.view_is c.serves.ensures c.if-not-serves.true) in
    rw idle refl

pub returns-then-not-serves-clause-port : goal.returns-then-not-serves-clause-port
returns-then-not-serves-clause-port c =
    let start = port_of c.args.self.now c.args.ram.now in
    let idle = send_idle start (serves_is _ c.args.self.now _ _ c.self.view_is c.serves.ensures c.if-not-serves.true) in
    rw idle refl

pub returns-then-not-serves-clause-frames : goal.returns-then-not-serves-clause-frames
returns-then-not-serves-clause-frames c =
    let start = port_of c.args.self.now c.args.ram.now in
    let idle = send_idle start (serves_is _ c.args.self.now _ _ c.self.view_is c.serves.ensures c.if-not-serves.true) in
    sym (ap (λ (s : Sending). c.args.out.now ++ s.frames) idle ∙ append-nil c.args.out.now)

pub loop-init : goal.loop-init
loop-init c =
    let start = port_of c.args.self.now c.args.ram.now in
    let works = serves_is _ c.args.self.now _ _ c.self.view_is c.serves.ensures c.if-not-serves.false in (
      ap (λ (f : DeviceFields). (slice_index_or f.queues 1 no_queue).num) c.fields.ensures.value
          ∙ ap (λ (x : Card). x.device.second.num) c.self.view_is,
      sends_begin start _ c.args.out.now works,
      refl,
      refl,
    )

pub send_chain-requires : goal.send_chain-requires
send_chain-requires c = c.loop.invariant.1.works

pub returns-in_err-send_chain-clause-begins : goal.returns-in_err-send_chain-clause-begins
returns-in_err-send_chain-clause-begins c =
    let u = c.loop.invariant.1 in
    let p = err_from_is_err_and c.from_residual.result c.from_residual.ensures.1 in
    rw p.1 (u.frames, c.in_err-send_chain.ensures.err ∙ u.out_is)

-- where no chain is left
idle : (c : In-Idle) → IsSent (send (port_of c.args.self.now c.args.ram.now)) c.loop.so_far
    (port_of c.send_chain.new.self c.send_chain.new.ram) c.args.out.now c.send_chain.new.out
idle c =
    let start = port_of c.args.self.now c.args.ram.now in
    of_notify start _ _ _ _ _ c.loop.invariant.0 (serves_is _ c.args.self.now _ _ c.self.view_is c.serves.ensures c.if-not-serves.false)
    (sends_end start (port_of c.loop.self c.loop.ram) _ c.loop.counter c.loop.so_far c.args.out.now c.loop.out Idle
    c.loop.so_far (port_of c.send_chain.new.self c.send_chain.new.ram) c.send_chain.new.out c.loop.invariant.1
    c.loop-test.true (sym c.in_ok-send_chain.ensures.answer ∙ c.in-Idle.is) (λ rest. refl)
    c.in_ok-send_chain.ensures.port c.in_ok-send_chain.ensures.frames)

pub returns-in-Idle-clause-answer : goal.returns-in-Idle-clause-answer
returns-in-Idle-clause-answer c = (idle (goal.at.returns-in-Idle-clause-answer c).In-Idle).answer_is

pub returns-in-Idle-clause-port : goal.returns-in-Idle-clause-port
returns-in-Idle-clause-port c = (idle (goal.at.returns-in-Idle-clause-port c).In-Idle).port_is

pub returns-in-Idle-clause-frames : goal.returns-in-Idle-clause-frames
returns-in-Idle-clause-frames c = (idle (goal.at.returns-in-Idle-clause-frames c).In-Idle).frames_are

-- where a chain has a fault
broken : (c : In-Broken) → IsSent (send (port_of c.args.self.now c.args.ram.now)) (Broken c.in-Broken.fault)
    (port_of c.send_chain.new.self c.send_chain.new.ram) c.args.out.now c.send_chain.new.out
broken c =
    let start = port_of c.args.self.now c.args.ram.now in
    let now = port_of c.loop.self c.loop.ram in
    let last = sym c.in_ok-send_chain.ensures.answer ∙ c.in-Broken.is in
    of_notify start _ _ _ _ _ c.loop.invariant.0 (serves_is _ c.args.self.now _ _ c.self.view_is c.serves.ensures c.if-not-serves.false)
    (sends_end start now _ c.loop.counter c.loop.so_far c.args.out.now c.loop.out (Broken c.in-Broken.fault)
    (Broken c.in-Broken.fault) (port_of c.send_chain.new.self c.send_chain.new.ram) c.send_chain.new.out
    c.loop.invariant.1 c.loop-test.true last (λ rest i. record (send_chain now) { answer = last i })
    c.in_ok-send_chain.ensures.port c.in_ok-send_chain.ensures.frames)

pub returns-in-Broken-clause-answer : goal.returns-in-Broken-clause-answer
returns-in-Broken-clause-answer c = (broken (goal.at.returns-in-Broken-clause-answer c).In-Broken).answer_is

pub returns-in-Broken-clause-port : goal.returns-in-Broken-clause-port
returns-in-Broken-clause-port c = (broken (goal.at.returns-in-Broken-clause-port c).In-Broken).port_is

pub returns-in-Broken-clause-frames : goal.returns-in-Broken-clause-frames
returns-in-Broken-clause-frames c = (broken (goal.at.returns-in-Broken-clause-frames c).In-Broken).frames_are

pub loop-preserved : goal.loop-preserved
loop-preserved c =
    let start = port_of c.args.self.now c.args.ram.now in
    let now = port_of c.loop.self c.loop.ram in
    let lt = c.loop-test.true in (
      c.loop.invariant.0,
      sends_go_on start now _ c.loop.counter c.loop.so_far c.args.out.now c.loop.out
          (port_of c.send_chain.new.self c.send_chain.new.ram) c.send_chain.new.out c.loop.invariant.1 lt
          (sym c.in_ok-send_chain.ensures.answer
          ∙ c.in-Done.is) c.in_ok-send_chain.ensures.port c.in_ok-send_chain.ensures.frames,
      c.send_chain.ensures.kind ∙ c.loop.invariant.2,
      c.send_chain.ensures.size ∙ c.loop.invariant.3,
    )

-- where as many were sent as the queue's number
all : (c : After-loop) → IsSent (send (port_of c.args.self.now c.args.ram.now)) c.loop.so_far
    (port_of c.loop.self c.loop.ram) c.args.out.now c.loop.out
all c =
    let start = port_of c.args.self.now c.args.ram.now in
    of_notify start _ _ _ _ _ c.loop.invariant.0 (serves_is _ c.args.self.now _ _ c.self.view_is c.serves.ensures c.if-not-serves.false)
    (sends_all start (port_of c.loop.self c.loop.ram) _ c.loop.counter c.loop.so_far c.args.out.now c.loop.out
    c.loop.invariant.1 c.loop-test.false)

pub returns-clause-answer : goal.returns-clause-answer
returns-clause-answer c = (all (goal.at.returns-clause-answer c).After-loop).answer_is

pub returns-clause-port : goal.returns-clause-port
returns-clause-port c = (all (goal.at.returns-clause-port c).After-loop).port_is

pub returns-clause-frames : goal.returns-clause-frames
returns-clause-frames c = (all (goal.at.returns-clause-frames c).After-loop).frames_are

pub returns-in_err-send_chain-clause-cause : goal.returns-in_err-send_chain-clause-cause
returns-in_err-send_chain-clause-cause c =
    let start = port_of c.args.self.now c.args.ram.now in
    let p = err_from_is_err_and c.from_residual.result c.from_residual.ensures.1 in
    rw p.1 (chain_of_notify start (port_of c.loop.self c.loop.ram) _ c.loop.counter c.loop.so_far c.args.out.now
    c.loop.out c.loop.invariant.1 c.loop-test.true c.loop.invariant.0 (serves_is _ c.args.self.now _ _ c.self.view_is c.serves.ensures c.if-not-serves.false)
    c.in_err-send_chain.ensures.cause)
