-- What is written is what the event leaves.
use Rattle.std.proofs.Common.{List, subst}
use Rattle.std.proofs.lemmas.Result.{err_from_is_err_and}
use Rattle.file_steps.specs.Steps.{FailsToWrite, Step, Writes}
use Rattle.file_steps.proofs.WriteLemmas.{write_no_memory}
use Rattle.pair_core.specs.Pair.{pair_of}
use Rattle.command_plans.specs.Replay.{event_at, writes_of}
use Rattle.command_plans.proofs.ReplayLemmas.{writes_same}
use Rattle.command_plans.proofs.replay.run_line.Goals as goal

pub returns-in-Err-NoMemory-clause-fails : goal.returns-in-Err-NoMemory-clause-fails
returns-in-Err-NoMemory-clause-fails g c =
    write_no_memory c.args.out.now (writes_of (event_at (pair_of g.G.Guest.meaning c.args.pair.now) c.args.line.now))
    (g.S.Shelf.state c.args.shelf.now)

pub returns-in_err-write_step-clause-fails : goal.returns-in_err-write_step-clause-fails
returns-in_err-write_step-clause-fails g c =
    let p = err_from_is_err_and c.from_residual.result c.from_residual.ensures.1 in
    let w = pair_of g.G.Guest.meaning c.args.pair.now in
    rw (p.1, p.2) (subst (λ (steps : List Step). FailsToWrite c.args.out.now steps (g.S.Shelf.state c.args.shelf.now)
    (g.S.Shelf.state c.write_step.new.shelf) c.in_err-write_step.field-0.0)
    (writes_same w c.args.line.now c.in-Ok.step c.in-Ok.ensures.step) c.in_err-write_step.ensures.fails)

pub returns-clause-done : goal.returns-clause-done
returns-clause-done g c =
    let w = pair_of g.G.Guest.meaning c.args.pair.now in
    subst (λ (steps : List Step). Writes c.args.out.now steps (g.S.Shelf.state c.args.shelf.now)
    (g.S.Shelf.state c.write_step.new.shelf)) (writes_same w c.args.line.now c.in-Ok.step c.in-Ok.ensures.step)
    c.in_ok-write_step.ensures.done
