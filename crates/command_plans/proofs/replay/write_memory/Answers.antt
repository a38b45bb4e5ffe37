-- The pages are written one after the other.
use Rattle.std.proofs.Common.{[], ◌<◌, get_or, length, arith}
use Rattle.std.specs.Prelude.{codes}
use Rattle.std.proofs.lemmas.Result.{err_from_is_err_and}
use Rattle.file_steps.specs.Steps.{append_step}
use Rattle.file_steps.proofs.WriteLemmas.{at_place, each_all, each_fails, each_next}
use Rattle.command_plans.proofs.replay.write_memory.Goals as goal

pub returns-in_err-write_page-clause-fails : goal.returns-in_err-write_page-clause-fails
returns-in_err-write_page-clause-fails g c =
    let p = err_from_is_err_and c.from_residual.result c.from_residual.ensures.1 in
    let parts = (g.G.Guest.meaning c.args.guest.now).state.pages in
    let part = get_or parts c.loop-k.k [] in
    let inside : c.loop-k.k < length parts = omega (arith, c.loop-k-test.true, c.pages-k-end.ensures.state) in
    rw (p.1, p.2) (each_fails c.args.out.now (append_step (codes ".ram")) parts c.loop-k.k part
    (at_place parts c.loop-k.k [] part inside) (g.S.Shelf.state c.args.shelf.now) (g.S.Shelf.state c.loop-k.shelf)
    (g.S.Shelf.state c.write_page.new.shelf) inside c.loop-k.invariant c.in_err-write_page.field-0.0
    c.in_err-write_page.ensures.fails)

pub loop-k-preserved : goal.loop-k-preserved
loop-k-preserved g c =
    let parts = (g.G.Guest.meaning c.args.guest.now).state.pages in
    let part = get_or parts c.loop-k.k [] in
    let inside : c.loop-k.k < length parts = omega (arith, c.loop-k-test.true, c.pages-k-end.ensures.state) in
    each_next c.args.out.now (append_step (codes ".ram")) parts c.loop-k.k part
    (at_place parts c.loop-k.k [] part inside) (g.S.Shelf.state c.args.shelf.now) (g.S.Shelf.state c.loop-k.shelf)
    (g.S.Shelf.state c.write_page.new.shelf) inside c.loop-k.invariant c.in_ok-write_page.ensures.done

pub returns-clause-done : goal.returns-clause-done
returns-clause-done g c =
    let parts = (g.G.Guest.meaning c.args.guest.now).state.pages in
    each_all c.args.out.now (append_step (codes ".ram")) parts c.loop-k.k (g.S.Shelf.state c.args.shelf.now)
    (g.S.Shelf.state c.loop-k.shelf) (omega (arith, c.loop-k-test.false, c.pages-k-end.ensures.state))
    c.loop-k.invariant
