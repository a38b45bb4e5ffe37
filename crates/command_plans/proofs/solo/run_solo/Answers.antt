-- The plan was made, and then carried out.
use Rattle.std.proofs.Common.{◌∙◌}
use Rattle.std.proofs.lemmas.Result.{err_from_is_err_and}
use Rattle.command_plans.specs.Solo.{solo_plan, solo_texts}
use Rattle.command_plans.specs.SoloEnds.{ended_plan}
use Rattle.command_plans.proofs.CarryLemmas.{of_four_is, refusal_ends, same_done, same_fails}
use Rattle.file_steps.specs.ReadBytes.{texts_of}
use Rattle.guest_machine.specs.Guest.{machine_meaning}
use Rattle.command_plans.proofs.solo.run_solo.Goals as goal

pub returns-in_err-run-clause-fails : goal.returns-in_err-run-clause-fails
returns-in_err-run-clause-fails g c =
    let p = err_from_is_err_and c.from_residual.result c.from_residual.ensures.1 in
    let is = of_four_is (solo_plan c.args.mib) c.args.files.now c.image-item.result c.disk-item.result
    c.client-item.result c.lines-item.result c.requires.all c.image-item.is c.disk-item.is c.client-item.is
    c.lines-item.is c.deref.result.now c.deref-2.result.now c.deref-3.result.now c.deref-4.result.now
    c.deref.ensures.value c.deref-2.ensures.value c.deref-3.ensures.value c.deref-4.ensures.value in
    rw (p.1, p.2)
    (refusal_ends c.args.out.now (solo_texts c.args.mib (texts_of c.args.files.now))
    (g.S.Shelf.state c.args.shelf.now) c.in_err-run.field-0.0 (rw is c.in_err-run.ensures.refused))

pub returns-clause-done : goal.returns-clause-done
returns-clause-done g c =
    let run = c.in_ok-run.run' in
    let is = of_four_is (solo_plan c.args.mib) c.args.files.now c.image-item.result c.disk-item.result
    c.client-item.result c.lines-item.result c.requires.all c.image-item.is c.disk-item.is c.client-item.is
    c.lines-item.is c.deref.result.now c.deref-2.result.now c.deref-3.result.now c.deref-4.result.now
    c.deref.ensures.value c.deref-2.ensures.value c.deref-3.ensures.value c.deref-4.ensures.value in
    same_done c.args.out.now (solo_texts c.args.mib (texts_of c.args.files.now))
    (ended_plan (machine_meaning run.machine).state run.end) (is ∙ c.in_ok-run.ensures.plan)
    (g.S.Shelf.state c.args.shelf.now) (g.S.Shelf.state c.end_run.new.shelf) c.end_run.result c.end_run.ensures.done

pub returns-clause-fails : goal.returns-clause-fails
returns-clause-fails g c =
    let run = c.in_ok-run.run' in
    let is = of_four_is (solo_plan c.args.mib) c.args.files.now c.image-item.result c.disk-item.result
    c.client-item.result c.lines-item.result c.requires.all c.image-item.is c.disk-item.is c.client-item.is
    c.lines-item.is c.deref.result.now c.deref-2.result.now c.deref-3.result.now c.deref-4.result.now
    c.deref.ensures.value c.deref-2.ensures.value c.deref-3.ensures.value c.deref-4.ensures.value in
    same_fails c.args.out.now (solo_texts c.args.mib (texts_of c.args.files.now))
    (ended_plan (machine_meaning run.machine).state run.end) (is ∙ c.in_ok-run.ensures.plan)
    (g.S.Shelf.state c.args.shelf.now) (g.S.Shelf.state c.end_run.new.shelf) c.end_run.result c.end_run.ensures.fails
