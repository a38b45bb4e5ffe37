-- What is written is what the theorem's step leaves.
use Rattle.std.proofs.Common.{List, subst}
use Rattle.std.proofs.lemmas.Result.{err_from_is_err_and}
use Rattle.file_steps.specs.Steps.{FailsToWrite, Step}
use Rattle.file_steps.proofs.WriteLemmas.{write_no_memory}
use Rattle.replay_plan.specs.LogPlan.{writes_of}
use Rattle.replay_plan.specs.Running.{step_after}
use Rattle.replay_plan.proofs.LogLemmas.{writes_same}
use Rattle.replay_plan.proofs.log.run_line.Goals as goal

pub returns-in-Err-NoMemory-clause-fails : goal.returns-in-Err-NoMemory-clause-fails
returns-in-Err-NoMemory-clause-fails g c a lines start stands =
    write_no_memory c.args.out.now (writes_of (step_after a lines c.args.line.now)) (g.S.Shelf.state c.args.shelf.now)

pub returns-in_err-write_step-clause-fails : goal.returns-in_err-write_step-clause-fails
returns-in_err-write_step-clause-fails g c =
    let p = err_from_is_err_and c.from_residual.result c.from_residual.ensures.1 in
    rw (p.1, p.2) (λ a lines start stands.
    subst (λ (steps : List Step). FailsToWrite c.args.out.now steps (g.S.Shelf.state c.args.shelf.now)
    (g.S.Shelf.state c.write_step.new.shelf) c.in_err-write_step.field-0.0)
    (writes_same (step_after a lines c.args.line.now) c.in-Ok.made
    (c.in-Ok.ensures.goes_on a lines start stands).tells)
    c.in_err-write_step.ensures.fails)
