-- The call was about the one file.
use Rattle.std.proofs.Common.{◌∙◌, Err, ap, ◌∷◌, []}
use Rattle.std.proofs.lemmas.Result.{err_from_is_err_and}
use Rattle.file_steps.specs.Steps as step
use Rattle.file_steps.proofs.FileLemmas.{append_done, append_fails}
use Rattle.file_steps.proofs.WriteLemmas.{write_no_memory}
use Rattle.file_steps.proofs.files.append_some.Goals as goal

pub returns-in_err-name-clause-fails : goal.returns-in_err-name-clause-fails
returns-in_err-name-clause-fails g c =
    let p = err_from_is_err_and c.from_residual.result c.from_residual.ensures.1 in
    rw (p.1, p.2) (write_no_memory c.args.out.now (step.append c.args.end.now c.args.bytes.now ∷ [])
    (g.S.Shelf.state c.args.shelf.now))

pub returns-in-Ok-clause-done : goal.returns-in-Ok-clause-done
returns-in-Ok-clause-done g c = λ l k.
    append_done (g.S.Shelf.state c.args.shelf.now) (g.S.Shelf.state c.append.new.self) l k c.args.out.now c.args.end.now
    c.as_str.result.now (c.as_str.ensures.value ∙ c.in_ok-name.ensures)
    c.in-Ok.ensures.only c.in-Ok.ensures.fetches c.args.bytes.now c.in-Ok.ensures.ok c.in-Ok.ensures.counts

pub returns-clause-fails : goal.returns-clause-fails
returns-clause-fails g c = λ l k.
    rw c.write_fault.ensures (append_fails (g.S.Shelf.state c.args.shelf.now) (g.S.Shelf.state c.append.new.self) l k
    c.args.out.now c.args.end.now c.as_str.result.now (c.as_str.ensures.value ∙ c.in_ok-name.ensures)
    c.in-Err.ensures.only c.in-Err.ensures.fetches c.args.bytes.now c.in-Err.fault c.in-Err.ensures.err
    (λ failed. c.in-Err.ensures.cause (ap Err failed)))
