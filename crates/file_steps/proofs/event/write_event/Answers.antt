-- Three appends, one after the other.
use Rattle.std.proofs.Common.{◌++◌, codes}
use Rattle.std.proofs.lemmas.Result.{err_from_is_err_and}
use Rattle.file_steps.specs.Steps.{append_step}
use Rattle.file_steps.proofs.WriteLemmas.{err_then, ok_then, write_fails_front, write_fails_then}
use Rattle.file_steps.proofs.event.write_event.Goals as goal

pub returns-in_err-append-clause-fails : goal.returns-in_err-append-clause-fails
returns-in_err-append-clause-fails g c =
    let p = err_from_is_err_and c.from_residual.result c.from_residual.ensures.1 in
    rw (p.1, p.2) (write_fails_front c.args.out.now (append_step (codes ".log") c.args.log.now)
    (append_step (codes ".released") c.args.released.now ++ append_step (codes ".wire") c.args.wire.now)
    (g.S.Shelf.state c.args.shelf.now) (g.S.Shelf.state c.append.new.shelf) c.in_err-append.field-0.0
    c.in_err-append.ensures.fails)

pub returns-in_err-append-2-clause-fails : goal.returns-in_err-append-2-clause-fails
returns-in_err-append-2-clause-fails g c =
    let p = err_from_is_err_and c.from_residual-in_err-append-2.result c.from_residual-in_err-append-2.ensures.1 in
    rw (p.1, p.2) (write_fails_then c.args.out.now (append_step (codes ".log") c.args.log.now)
    (append_step (codes ".released") c.args.released.now ++ append_step (codes ".wire") c.args.wire.now)
    (g.S.Shelf.state c.args.shelf.now) (g.S.Shelf.state c.append.new.shelf) (g.S.Shelf.state c.append-2.new.shelf)
    c.in_err-append-2.field-0.0 c.in_ok-append.ensures.done (write_fails_front c.args.out.now
    (append_step (codes ".released") c.args.released.now) (append_step (codes ".wire") c.args.wire.now)
    (g.S.Shelf.state c.append.new.shelf) (g.S.Shelf.state c.append-2.new.shelf) c.in_err-append-2.field-0.0
    c.in_err-append-2.ensures.fails))

pub returns-clause-done : goal.returns-clause-done
returns-clause-done g c =
    ok_then c.append-3.result c.args.out.now (append_step (codes ".log") c.args.log.now)
    (append_step (codes ".released") c.args.released.now ++ append_step (codes ".wire") c.args.wire.now)
    (g.S.Shelf.state c.args.shelf.now) (g.S.Shelf.state c.append.new.shelf) (g.S.Shelf.state c.append-3.new.shelf)
    c.in_ok-append.ensures.done (ok_then c.append-3.result c.args.out.now
    (append_step (codes ".released") c.args.released.now) (append_step (codes ".wire") c.args.wire.now)
    (g.S.Shelf.state c.append.new.shelf) (g.S.Shelf.state c.append-2.new.shelf) (g.S.Shelf.state c.append-3.new.shelf)
    c.in_ok-append-2.ensures.done c.append-3.ensures.done)

pub returns-clause-fails : goal.returns-clause-fails
returns-clause-fails g c =
    err_then c.append-3.result c.args.out.now (append_step (codes ".log") c.args.log.now)
    (append_step (codes ".released") c.args.released.now ++ append_step (codes ".wire") c.args.wire.now)
    (g.S.Shelf.state c.args.shelf.now) (g.S.Shelf.state c.append.new.shelf) (g.S.Shelf.state c.append-3.new.shelf)
    c.in_ok-append.ensures.done (err_then c.append-3.result c.args.out.now
    (append_step (codes ".released") c.args.released.now) (append_step (codes ".wire") c.args.wire.now)
    (g.S.Shelf.state c.append.new.shelf) (g.S.Shelf.state c.append-2.new.shelf) (g.S.Shelf.state c.append-3.new.shelf)
    c.in_ok-append-2.ensures.done c.append-3.ensures.fails)
