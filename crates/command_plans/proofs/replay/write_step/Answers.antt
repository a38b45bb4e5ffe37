-- The texts were made, and are written.
use Rattle.std.proofs.Common.{sym, ◌∙◌}
use Rattle.std.proofs.lemmas.Result.{err_from_is_err_and}
use Rattle.file_steps.proofs.WriteLemmas.{write_no_memory}
use Rattle.command_plans.specs.Steps.{writes_by}
use Rattle.command_plans.proofs.replay.write_step.Goals as goal

pub returns-in_err-log-clause-fails : goal.returns-in_err-log-clause-fails
returns-in_err-log-clause-fails g c =
    let p = err_from_is_err_and c.from_residual.result c.from_residual.ensures.1 in
    rw (p.1, p.2) (write_no_memory c.args.out.now (writes_by c.args.step.now) (g.S.Shelf.state c.args.shelf.now))

pub returns-in_err-released-clause-fails : goal.returns-in_err-released-clause-fails
returns-in_err-released-clause-fails g c =
    let p = err_from_is_err_and c.from_residual-in_err-released.result c.from_residual-in_err-released.ensures.1 in
    rw (p.1, p.2) (write_no_memory c.args.out.now (writes_by c.args.step.now) (g.S.Shelf.state c.args.shelf.now))

pub returns-clause-done : goal.returns-clause-done
returns-clause-done g c =
    let log = c.deref.ensures.value ∙ c.in_ok-log.ensures in
    let released = c.deref-2.ensures.value ∙ c.in_ok-released.ensures in
    let step = c.args.step.now in
    rw (sym log, sym released, sym c.deref-3.ensures.value) c.write_event.ensures.done
