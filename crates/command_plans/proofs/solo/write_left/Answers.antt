-- The frames are written, and then memory and disk.
use Rattle.std.proofs.Common.{codes}
use Rattle.std.proofs.lemmas.Result.{err_from_is_err_and}
use Rattle.command_plans.specs.Replay.{state_steps}
use Rattle.file_steps.specs.Steps.{append_step}
use Rattle.file_steps.proofs.WriteLemmas.{err_then, ok_then, write_fails_front}
use Rattle.command_plans.proofs.solo.write_left.Goals as goal

pub returns-in_err-append-clause-fails : goal.returns-in_err-append-clause-fails
returns-in_err-append-clause-fails g c =
    let p = err_from_is_err_and c.from_residual.result c.from_residual.ensures.1 in
    let s = (g.G.Guest.meaning c.args.guest.now).state in
    rw (p.1, p.2) (write_fails_front c.args.out.now (append_step (codes ".sent") c.args.sent.now) (state_steps s)
    (g.S.Shelf.state c.args.shelf.now) (g.S.Shelf.state c.append.new.shelf) c.in_err-append.field-0.0
    c.in_err-append.ensures.fails)

pub returns-clause-done : goal.returns-clause-done
returns-clause-done g c =
    let s = (g.G.Guest.meaning c.args.guest.now).state in
    ok_then c.write_state.result c.args.out.now (append_step (codes ".sent") c.args.sent.now) (state_steps s)
    (g.S.Shelf.state c.args.shelf.now) (g.S.Shelf.state c.append.new.shelf)
    (g.S.Shelf.state c.write_state.new.shelf) c.in_ok-append.ensures.done c.write_state.ensures.done

pub returns-clause-fails : goal.returns-clause-fails
returns-clause-fails g c =
    let s = (g.G.Guest.meaning c.args.guest.now).state in
    err_then c.write_state.result c.args.out.now (append_step (codes ".sent") c.args.sent.now) (state_steps s)
    (g.S.Shelf.state c.args.shelf.now) (g.S.Shelf.state c.append.new.shelf)
    (g.S.Shelf.state c.write_state.new.shelf) c.in_ok-append.ensures.done c.write_state.ensures.fails
