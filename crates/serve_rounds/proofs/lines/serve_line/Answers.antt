-- The event is written, and then what it released is sent.
use Rattle.std.proofs.Common.{ap, subst, ◌∙◌}
use Rattle.std.proofs.lemmas.Result.{err_from_is_err_and}
use Rattle.sock_link.specs.Stream.{stream_of}
use Rattle.file_steps.specs.Steps.{Done, Fails, nothing, outside}
use Rattle.file_steps.specs.declared.fault.Fault.TheVariants.{NoMemory}
use Rattle.file_steps.proofs.PartLemmas.{done_then, fails_front, fails_then, no_memory}
use Rattle.pair_core.specs.Pair.{pair_of}
use Rattle.command_plans.specs.Replay.{event_at, writes_of}
use Rattle.serve_rounds.specs.Rounds.{send_step}
use Rattle.serve_rounds.proofs.lines.serve_line.Goals as goal

pub returns-in_err-step-clause-fails : goal.returns-in_err-step-clause-fails
returns-in_err-step-clause-fails g c = λ k.
    let p = err_from_is_err_and c.from_residual.result c.from_residual.ensures.1 in
    let l = g.L.Link.state c.args.link.now in
    let e = event_at (pair_of g.G.Guest.meaning c.args.pair.now) c.args.line.now in
    rw (p.1, p.2) (fails_front c.args.output.out.now (writes_of e) (send_step (stream_of e.outcome.released)) nothing
    (outside (g.S.Shelf.state c.args.shelf.now) l k) (outside (g.S.Shelf.state c.run_line.new.shelf) l k)
    c.in_err-step.field-0.0 (c.in_err-step.ensures.fails l k))

pub returns-in_err-released-clause-fails : goal.returns-in_err-released-clause-fails
returns-in_err-released-clause-fails g c = λ k.
    let p = err_from_is_err_and c.from_residual-in_err-released.result c.from_residual-in_err-released.ensures.1 in
    let l = g.L.Link.state c.args.link.now in
    let e = event_at (pair_of g.G.Guest.meaning c.args.pair.now) c.args.line.now in
    let sends = send_step (stream_of e.outcome.released) in
    let b = outside (g.S.Shelf.state c.run_line.new.shelf) l k in
    rw (p.1, p.2) (fails_then c.args.output.out.now (writes_of e) sends nothing nothing
    (outside (g.S.Shelf.state c.args.shelf.now) l k) b b NoMemory (c.in_ok-step.ensures.done l k)
    (no_memory c.args.output.out.now sends b))

pub returns-in_err-send_some-clause-fails : goal.returns-in_err-send_some-clause-fails
returns-in_err-send_some-clause-fails g c = λ k.
    let r = c.from_residual-in_err-send_some in
    let p = err_from_is_err_and r.result r.ensures.1 in
    let l = g.L.Link.state c.args.link.now in
    let m = g.L.Link.state c.send_some.new.link in
    let s = g.S.Shelf.state c.run_line.new.shelf in
    let e = event_at (pair_of g.G.Guest.meaning c.args.pair.now) c.args.line.now in
    let sent = c.deref.ensures.value ∙ (c.in_ok-released.ensures ∙ ap stream_of c.in_ok-step.ensures.step.released) in
    let fault = c.in_err-send_some.field-0.0 in
    rw (p.1, p.2) (fails_then c.args.output.out.now (writes_of e) (send_step (stream_of e.outcome.released)) nothing
    nothing (outside (g.S.Shelf.state c.args.shelf.now) l k) (outside s l k) (outside s m k) fault
    (c.in_ok-step.ensures.done l k)
    (subst (λ bytes. Fails c.args.output.out.now (send_step bytes) nothing (outside s l k) (outside s m k) fault) sent
    (c.in_err-send_some.ensures.fails c.args.output.out.now s k)))

pub returns-clause-done : goal.returns-clause-done
returns-clause-done g c = λ k.
    let l = g.L.Link.state c.args.link.now in
    let m = g.L.Link.state c.send_some.new.link in
    let s = g.S.Shelf.state c.run_line.new.shelf in
    let e = event_at (pair_of g.G.Guest.meaning c.args.pair.now) c.args.line.now in
    let sent = c.deref.ensures.value ∙ (c.in_ok-released.ensures ∙ ap stream_of c.in_ok-step.ensures.step.released) in
    done_then c.args.output.out.now (writes_of e) (send_step (stream_of e.outcome.released)) nothing
    nothing (outside (g.S.Shelf.state c.args.shelf.now) l k) (outside s l k) (outside s m k)
    (c.in_ok-step.ensures.done l k)
    (subst (λ bytes. Done c.args.output.out.now (send_step bytes) nothing (outside s l k) (outside s m k)) sent
    (c.in_ok-send_some.ensures.done c.args.output.out.now s k))
