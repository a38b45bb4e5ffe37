-- The file is created, and the bytes are written.
use Rattle.std.proofs.Common.{[], ◌∷◌}
use Rattle.std.proofs.lemmas.Result.{err_from_is_err_and}
use Rattle.file_steps.specs.Steps.{append_step, create}
use Rattle.file_steps.proofs.WriteLemmas.{err_then, ok_then, write_fails_front}
use Rattle.command_plans.proofs.one_file.write_file.Goals as goal

pub returns-in_err-create-clause-fails : goal.returns-in_err-create-clause-fails
returns-in_err-create-clause-fails g c =
    let p = err_from_is_err_and c.from_residual.result c.from_residual.ensures.1 in
    rw (p.1, p.2) (write_fails_front c.args.out.now (create [] ∷ []) (append_step [] c.args.bytes.now)
    (g.S.Shelf.state c.args.shelf.now) (g.S.Shelf.state c.create.new.shelf) c.in_err-create.field-0.0
    c.in_err-create.ensures.fails)

pub returns-clause-done : goal.returns-clause-done
returns-clause-done g c =
    ok_then c.append.result c.args.out.now (create [] ∷ []) (append_step [] c.args.bytes.now)
    (g.S.Shelf.state c.args.shelf.now) (g.S.Shelf.state c.create.new.shelf) (g.S.Shelf.state c.append.new.shelf)
    c.in_ok-create.ensures.done c.append.ensures.done

pub returns-clause-fails : goal.returns-clause-fails
returns-clause-fails g c =
    err_then c.append.result c.args.out.now (create [] ∷ []) (append_step [] c.args.bytes.now)
    (g.S.Shelf.state c.args.shelf.now) (g.S.Shelf.state c.create.new.shelf) (g.S.Shelf.state c.append.new.shelf)
    c.in_ok-create.ensures.done c.append.ensures.fails
