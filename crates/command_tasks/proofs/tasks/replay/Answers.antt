-- The files were read, and the plan carried out.
use Rattle.std.proofs.lemmas.Result.{err_from_is_err_and}
use Rattle.command_plans.proofs.CarryLemmas.{carried_done, carried_fails}
use Rattle.command_plans.proofs.TextLemmas.{read_fails}
use Rattle.command_tasks.specs.Held.{run_of}
use Rattle.command_tasks.specs.Tasks.{run_reads}
use Rattle.file_steps.specs.ReadBytes.{texts_of}
use Rattle.replay_plan.specs.ReplayPlan.{replay_texts}
use Rattle.command_tasks.proofs.tasks.replay.Goals as goal

pub returns-in_err-files-clause-fails : goal.returns-in_err-files-clause-fails
returns-in_err-files-clause-fails g c =
    let p = err_from_is_err_and c.from_residual.result c.from_residual.ensures.1 in
    let words = run_of c.args.words.now in
    rw (p.1, p.2)
    (read_fails (run_reads words) words.out (replay_texts words.mib) (g.S.Shelf.state c.args.shelf.now)
    (g.S.Shelf.state c.read_run.new.shelf) c.in_err-files.field-0.0 c.in_err-files.ensures.fails)

pub returns-clause-done : goal.returns-clause-done
returns-clause-done g c =
    let words = run_of c.args.words.now in
    carried_done (run_reads words) words.out (replay_texts words.mib) (texts_of c.deref.result.now)
    (g.S.Shelf.state c.args.shelf.now) (g.S.Shelf.state c.read_run.new.shelf)
    (g.S.Shelf.state c.run_replay.new.shelf) (rw c.deref.ensures.value c.in_ok-files.ensures.read)
    c.in_ok-files.ensures.untouched
    c.run_replay.result c.run_replay.ensures.done

pub returns-clause-fails : goal.returns-clause-fails
returns-clause-fails g c =
    let words = run_of c.args.words.now in
    carried_fails (run_reads words) words.out (replay_texts words.mib) (texts_of c.deref.result.now)
    (g.S.Shelf.state c.args.shelf.now) (g.S.Shelf.state c.read_run.new.shelf)
    (g.S.Shelf.state c.run_replay.new.shelf) (rw c.deref.ensures.value c.in_ok-files.ensures.read)
    c.in_ok-files.ensures.untouched
    c.run_replay.result c.run_replay.ensures.fails
