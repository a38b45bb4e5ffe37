-- The texts are tested in their order, and then the pair runs.
use Rattle.std.proofs.Common.{All, List, ap, refl, subst, sym, ◌∙◌}
use Rattle.std.proofs.lemmas.Result.{err_from_is_err_and}
use Rattle.command_inputs.specs.Machine.{read_machine}
use Rattle.command_inputs.specs.Start.{Start, read_start}
use Rattle.command_inputs.specs.Texts.{read_schedule}
use Rattle.file_steps.specs.ReadBytes.{texts_of}
use Rattle.guest_machine.specs.Guest.{machine_meaning}
use Rattle.pair_core.specs.Steps.{HasLimits}
use Rattle.replay_log.specs.declared.lines.Line.{Line}
use Rattle.command_plans.specs.Replay.{AreEvents}
use Rattle.command_plans.proofs.CarryLemmas.{refusal_ends, same_done, same_fails}
use Rattle.command_plans.proofs.SpliceLemmas.{plan_refused}
use Rattle.replay_plan.specs.LogPlan.{log_plan}
use Rattle.replay_plan.specs.ReplayPlan.{pair_with, replay_plan, replay_texts, start_with}
use Rattle.replay_plan.proofs.PairLemmas.{events_there, limits_there, same_again}
use Rattle.replay_plan.proofs.PlanLemmas.{plan_is, replay_first, replay_machine, replay_second, replay_whole}
use Rattle.replay_plan.proofs.plan.run_replay.Goals as goal

pub returns-in_err-started-clause-fails : goal.returns-in_err-started-clause-fails
returns-in_err-started-clause-fails g c =
    let p = err_from_is_err_and c.from_residual.result c.from_residual.ensures.1 in
    let mib = c.args.mib in
    let lines = c.schedule-item.result.items in
    let is = plan_is c.args.mib c.args.files.now c.image-item.result c.disk-item.result c.client-item.result
    c.schedule-item.result c.requires.all c.image-item.is c.disk-item.is c.client-item.is c.schedule-item.is
    c.deref.result.now c.deref-2.result.now c.deref-3.result.now c.deref-4.result.now c.deref.ensures.value
    c.deref-2.ensures.value c.deref-3.ensures.value c.deref-4.ensures.value c.are_bytes.ensures c.are_bytes-2.ensures
    c.are_bytes-3.ensures c.are_bytes-4.ensures c.deref-5.result.now c.deref-6.result.now c.deref-7.result.now lines
    c.deref-5.ensures.value c.deref-6.ensures.value c.deref-7.ensures.value refl in
    rw (p.1, p.2)
    (refusal_ends c.args.out.now (replay_texts mib (texts_of c.args.files.now)) (g.S.Shelf.state c.args.shelf.now)
    c.in_err-started.field-0.0
    (rw is (plan_refused (read_start mib c.deref-5.result.now c.deref-6.result.now c.deref-7.result.now)
    (replay_plan mib c.deref-5.result.now c.deref-6.result.now c.deref-7.result.now lines)
    (λ r e. replay_first mib c.deref-5.result.now c.deref-6.result.now c.deref-7.result.now lines r e)
    c.in_err-started.field-0.0 c.in_err-started.ensures.refused)))

pub returns-in_err-lines-clause-fails : goal.returns-in_err-lines-clause-fails
returns-in_err-lines-clause-fails g c =
    let p = err_from_is_err_and c.from_residual-in_err-lines.result c.from_residual-in_err-lines.ensures.1 in
    let mib = c.args.mib in
    let lines = c.deref-8.result.now in
    let is = plan_is c.args.mib c.args.files.now c.image-item.result c.disk-item.result c.client-item.result
    c.schedule-item.result c.requires.all c.image-item.is c.disk-item.is c.client-item.is c.schedule-item.is
    c.deref.result.now c.deref-2.result.now c.deref-3.result.now c.deref-4.result.now c.deref.ensures.value
    c.deref-2.ensures.value c.deref-3.ensures.value c.deref-4.ensures.value c.are_bytes.ensures c.are_bytes-2.ensures
    c.are_bytes-3.ensures c.are_bytes-4.ensures c.deref-5.result.now c.deref-6.result.now c.deref-7.result.now
    c.deref-8.result.now
    c.deref-5.ensures.value c.deref-6.ensures.value c.deref-7.ensures.value c.deref-8.ensures.value in
    rw (p.1, p.2)
    (refusal_ends c.args.out.now (replay_texts mib (texts_of c.args.files.now)) (g.S.Shelf.state c.args.shelf.now)
    c.in_err-lines.field-0.0
    (rw is (plan_refused (read_schedule lines)
    (replay_plan mib c.deref-5.result.now c.deref-6.result.now c.deref-7.result.now lines)
    (λ r e. replay_second mib c.deref-5.result.now c.deref-6.result.now c.deref-7.result.now lines _ r
    c.in_ok-started.ensures.read e) c.in_err-lines.field-0.0 c.in_err-lines.ensures.refused)))

pub returns-in_err-second-clause-fails : goal.returns-in_err-second-clause-fails
returns-in_err-second-clause-fails g c =
    let p = err_from_is_err_and c.from_residual-in_err-second.result c.from_residual-in_err-second.ensures.1 in
    let mib = c.args.mib in
    let lines = c.deref-8.result.now in
    let is = plan_is c.args.mib c.args.files.now c.image-item.result c.disk-item.result c.client-item.result
    c.schedule-item.result c.requires.all c.image-item.is c.disk-item.is c.client-item.is c.schedule-item.is
    c.deref.result.now c.deref-2.result.now c.deref-3.result.now c.deref-4.result.now c.deref.ensures.value
    c.deref-2.ensures.value c.deref-3.ensures.value c.deref-4.ensures.value c.are_bytes.ensures c.are_bytes-2.ensures
    c.are_bytes-3.ensures c.are_bytes-4.ensures c.deref-9.result.now c.deref-10.result.now c.deref-7.result.now
    c.deref-8.result.now
    c.deref-9.ensures.value c.deref-10.ensures.value c.deref-7.ensures.value c.deref-8.ensures.value in
    rw (p.1, p.2)
    (refusal_ends c.args.out.now (replay_texts mib (texts_of c.args.files.now)) (g.S.Shelf.state c.args.shelf.now)
    c.in_err-second.field-0.0
    (rw is (plan_refused (read_machine mib c.deref-9.result.now c.deref-10.result.now)
    (replay_plan mib c.deref-9.result.now c.deref-10.result.now c.deref-7.result.now lines)
    (λ r e. replay_machine mib c.deref-9.result.now c.deref-10.result.now c.deref-7.result.now lines r e)
    c.in_err-second.field-0.0 c.in_err-second.ensures.refused)))

pub run_both-requires-clause-same : goal.run_both-requires-clause-same
run_both-requires-clause-same g c =
    same_again c.args.mib c.deref-5.result.now c.deref-6.result.now c.deref-7.result.now
    (machine_meaning c.in_ok-started.started.machine) (machine_meaning c.in_ok-second.second)
    c.in_ok-started.started.frames c.deref-9.result.now c.deref-10.result.now c.image-item.result.items
    c.disk-item.result.items c.deref-5.ensures.value c.deref-9.ensures.value c.deref-6.ensures.value
    c.deref-10.ensures.value c.in_ok-started.ensures.read c.in_ok-second.ensures.read

pub run_both-requires-clause-limits : goal.run_both-requires-clause-limits
run_both-requires-clause-limits g c =
    subst (λ (lines : List Line). All HasLimits lines) (sym c.deref-11.ensures.value)
    (limits_there c.deref-8.result.now c.in_ok-lines.lines.items c.in_ok-lines.ensures.read)

pub run_both-requires-clause-good : goal.run_both-requires-clause-good
run_both-requires-clause-good g c =
    let machine = machine_meaning c.in_ok-started.started.machine in
    let frames = c.in_ok-started.started.frames in
    subst (λ (lines : List Line). AreEvents (pair_with machine frames) lines) (sym c.deref-11.ensures.value)
    (events_there c.deref-8.result.now c.in_ok-lines.lines.items machine frames c.in_ok-lines.ensures.read)

pub returns-clause-done : goal.returns-clause-done
returns-clause-done g c =
    let start : Start = record {
      machine = machine_meaning c.in_ok-started.started.machine;
      frames = c.in_ok-started.started.frames;
    } in
    let is = plan_is c.args.mib c.args.files.now c.image-item.result c.disk-item.result c.client-item.result
    c.schedule-item.result c.requires.all c.image-item.is c.disk-item.is c.client-item.is c.schedule-item.is
    c.deref.result.now c.deref-2.result.now c.deref-3.result.now c.deref-4.result.now c.deref.ensures.value
    c.deref-2.ensures.value c.deref-3.ensures.value c.deref-4.ensures.value c.are_bytes.ensures c.are_bytes-2.ensures
    c.are_bytes-3.ensures c.are_bytes-4.ensures c.deref-5.result.now c.deref-6.result.now c.deref-7.result.now
    c.deref-8.result.now
    c.deref-5.ensures.value c.deref-6.ensures.value c.deref-7.ensures.value c.deref-8.ensures.value in
    let whole = replay_whole c.args.mib c.deref-5.result.now c.deref-6.result.now c.deref-7.result.now
    c.deref-8.result.now start c.in_ok-lines.lines.items c.in_ok-started.ensures.read c.in_ok-lines.ensures.read in
    let same = ap (λ (lines : List Line). log_plan (start_with start) lines) (sym c.deref-11.ensures.value) in
    same_done c.args.out.now (replay_texts c.args.mib (texts_of c.args.files.now))
    (log_plan (start_with start) c.deref-11.result.now) (is ∙ (whole ∙ same))
    (g.S.Shelf.state c.args.shelf.now) (g.S.Shelf.state c.run_both.new.shelf) c.run_both.result
    c.run_both.ensures.done

pub returns-clause-fails : goal.returns-clause-fails
returns-clause-fails g c =
    let start : Start = record {
      machine = machine_meaning c.in_ok-started.started.machine;
      frames = c.in_ok-started.started.frames;
    } in
    let is = plan_is c.args.mib c.args.files.now c.image-item.result c.disk-item.result c.client-item.result
    c.schedule-item.result c.requires.all c.image-item.is c.disk-item.is c.client-item.is c.schedule-item.is
    c.deref.result.now c.deref-2.result.now c.deref-3.result.now c.deref-4.result.now c.deref.ensures.value
    c.deref-2.ensures.value c.deref-3.ensures.value c.deref-4.ensures.value c.are_bytes.ensures c.are_bytes-2.ensures
    c.are_bytes-3.ensures c.are_bytes-4.ensures c.deref-5.result.now c.deref-6.result.now c.deref-7.result.now
    c.deref-8.result.now
    c.deref-5.ensures.value c.deref-6.ensures.value c.deref-7.ensures.value c.deref-8.ensures.value in
    let whole = replay_whole c.args.mib c.deref-5.result.now c.deref-6.result.now c.deref-7.result.now
    c.deref-8.result.now start c.in_ok-lines.lines.items c.in_ok-started.ensures.read c.in_ok-lines.ensures.read in
    let same = ap (λ (lines : List Line). log_plan (start_with start) lines) (sym c.deref-11.ensures.value) in
    same_fails c.args.out.now (replay_texts c.args.mib (texts_of c.args.files.now))
    (log_plan (start_with start) c.deref-11.result.now) (is ∙ (whole ∙ same))
    (g.S.Shelf.state c.args.shelf.now) (g.S.Shelf.state c.run_both.new.shelf) c.run_both.result
    c.run_both.ensures.fails
