-- The texts were read, and the run was made.
use Rattle.std.proofs.Common.{◌∙◌, List, subst, ◌≡◌}
use Rattle.std.proofs.lemmas.Result.{err_from_is_err_and}
use Rattle.command_inputs.specs.Start.{read_start}
use Rattle.command_inputs.specs.Texts.{read_single}
use Rattle.guest_machine.specs.Guest.{guest_state, machine_meaning}
use Rattle.replay_log.specs.declared.turns.Turn.{Turn}
use Rattle.command_plans.specs.Solo.{run_plan, solo_plan}
use Rattle.command_plans.specs.SoloEnds.{ended_plan}
use Rattle.command_plans.proofs.SoloLemmas.{solo_first, solo_second, solo_whole}
use Rattle.command_plans.proofs.SpliceLemmas.{plan_refused}
use Rattle.command_plans.proofs.solo.plan_solo.Goals as goal

pub returns-in_err-started-clause-refused : goal.returns-in_err-started-clause-refused
returns-in_err-started-clause-refused c =
    let p = err_from_is_err_and c.from_residual.result c.from_residual.ensures.1 in
    let mib = c.args.mib in
    let image = c.args.image.now in
    let disk = c.args.disk.now in
    let client = c.args.client.now in
    let lines = c.args.lines.now in
    rw (p.1, p.2)
    (plan_refused (read_start mib image disk client) (solo_plan mib image disk client lines)
    (λ r e. solo_first mib image disk client lines r e) c.in_err-started.field-0.0 c.in_err-started.ensures.refused)

pub returns-in_err-turns-clause-refused : goal.returns-in_err-turns-clause-refused
returns-in_err-turns-clause-refused c =
    let p = err_from_is_err_and c.from_residual-in_err-turns.result c.from_residual-in_err-turns.ensures.1 in
    let mib = c.args.mib in
    let image = c.args.image.now in
    let disk = c.args.disk.now in
    let client = c.args.client.now in
    let lines = c.args.lines.now in
    rw (p.1, p.2)
    (plan_refused (read_single lines) (solo_plan mib image disk client lines)
    (λ r e. solo_second mib image disk client lines _ r c.in_ok-started.ensures.read e)
    c.in_err-turns.field-0.0 c.in_err-turns.ensures.refused)

pub returns-clause-plan : goal.returns-clause-plan
returns-clause-plan c =
    let machine = machine_meaning c.in_ok-started.started.machine in
    let frames = c.in_ok-started.started.frames in
    let P : List Turn → Type 0 = λ turns. run_plan machine frames turns
    ≡ ended_plan (guest_state c.make_run.new.machine.state) c.in_ok-end.end in
    solo_whole c.args.mib c.args.image.now c.args.disk.now c.args.client.now c.args.lines.now
    (record { machine = machine; frames = frames }) c.in_ok-turns.turns.items c.in_ok-started.ensures.read
    c.in_ok-turns.ensures.read
    ∙ subst P c.deref.ensures.value c.in_ok-end.ensures.plan
