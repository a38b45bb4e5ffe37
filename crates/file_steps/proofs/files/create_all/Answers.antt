-- The files are created one after the other.
use Rattle.std.proofs.Common.{arith, get_or, ◌∷◌, []}
use Rattle.std.proofs.lemmas.Result.{err_from_is_err_and}
use Rattle.file_steps.specs.Steps as step
use Rattle.file_steps.proofs.WriteLemmas.{at_place, each_all, each_fails, each_next}
use Rattle.file_steps.proofs.files.create_all.Goals as goal

pub returns-in_err-create-clause-fails : goal.returns-in_err-create-clause-fails
returns-in_err-create-clause-fails g c =
    let p = err_from_is_err_and c.from_residual.result c.from_residual.ensures.1 in
    let end = get_or c.args.ends.now c.loop-end.end-index (record { ref_ptr = (0, 0); now = [] }) in
    rw (p.1, p.2) (each_fails c.args.out.now (λ end. step.create end.now ∷ []) c.args.ends.now
    c.loop-end.end-index end (at_place c.args.ends.now c.loop-end.end-index _ end (omega arith))
    (g.S.Shelf.state c.args.shelf.now) (g.S.Shelf.state c.loop-end.shelf) (g.S.Shelf.state c.create.new.shelf)
    (omega arith) c.loop-end.invariant c.in_err-create.field-0.0 c.in_err-create.ensures.fails)

pub loop-end-preserved : goal.loop-end-preserved
loop-end-preserved g c =
    let end = get_or c.args.ends.now c.loop-end.end-index (record { ref_ptr = (0, 0); now = [] }) in
    each_next c.args.out.now (λ end. step.create end.now ∷ []) c.args.ends.now c.loop-end.end-index end
    (at_place c.args.ends.now c.loop-end.end-index _ end (omega arith))
    (g.S.Shelf.state c.args.shelf.now) (g.S.Shelf.state c.loop-end.shelf) (g.S.Shelf.state c.create.new.shelf)
    (omega arith) c.loop-end.invariant c.in_ok-create.ensures.done

pub returns-clause-done : goal.returns-clause-done
returns-clause-done g c =
    each_all c.args.out.now (λ end. step.create end.now ∷ []) c.args.ends.now c.loop-end.end-index
    (g.S.Shelf.state c.args.shelf.now) (g.S.Shelf.state c.loop-end.shelf) (omega arith) c.loop-end.invariant
