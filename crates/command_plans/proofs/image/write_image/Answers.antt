-- The bytes are written, or not.
use Rattle.std.proofs.Common.{◌∙◌, ap, sym}
use Rattle.std.proofs.lemmas.Result.{err_from_is_err_and}
use Rattle.command_plans.specs.Image.{bytes_line, image_task}
use Rattle.command_plans.proofs.ImageLemmas.{image_done, image_fails}
use Rattle.command_plans.proofs.PlanLemmas.{task_no_memory}
use Rattle.command_plans.proofs.image.write_image.Goals as goal

pub returns-in_err-bytes-clause-fails : goal.returns-in_err-bytes-clause-fails
returns-in_err-bytes-clause-fails g c =
    let p = err_from_is_err_and c.from_residual.result c.from_residual.ensures.1 in
    rw (p.1, p.2)
    (task_no_memory (image_task c.args.name.now c.args.out.now) (g.S.Shelf.state c.args.shelf.now))

pub returns-in_err-line-clause-fails : goal.returns-in_err-line-clause-fails
returns-in_err-line-clause-fails g c =
    let p = err_from_is_err_and c.from_residual-in_err-line.result c.from_residual-in_err-line.ensures.1 in
    rw (p.1, p.2)
    (task_no_memory (image_task c.args.name.now c.args.out.now) (g.S.Shelf.state c.args.shelf.now))

pub returns-in_err-write_file-clause-fails : goal.returns-in_err-write_file-clause-fails
returns-in_err-write_file-clause-fails g c =
    let p = err_from_is_err_and c.from_residual-in_err-write_file.result c.from_residual-in_err-write_file.ensures.1 in
    rw (p.1, p.2) (image_fails c.args.name.now c.args.out.now c.deref-2.result.now
    (c.deref-2.ensures.value ∙ c.in_ok-bytes.ensures) (g.S.Shelf.state c.args.shelf.now)
    (g.S.Shelf.state c.write_file.new.shelf) c.in_err-write_file.field-0.0 c.in_err-write_file.ensures.fails)

pub returns-clause-done : goal.returns-clause-done
returns-clause-done g c =
    image_done c.args.name.now c.args.out.now c.deref-2.result.now
    (c.deref-2.ensures.value ∙ c.in_ok-bytes.ensures) (g.S.Shelf.state c.args.shelf.now)
    (g.S.Shelf.state c.write_file.new.shelf) _
    (c.in_ok-line.ensures ∙ ap bytes_line (c.deref.ensures.value ∙ sym c.deref-2.ensures.value))
    c.in_ok-write_file.ensures.done
