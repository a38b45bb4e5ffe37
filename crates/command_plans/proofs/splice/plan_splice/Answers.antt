-- The log was read, and its single run spelled.
use Rattle.std.proofs.Common.{◌∙◌, ap}
use Rattle.std.proofs.lemmas.Result.{err_from_is_err_and}
use Rattle.command_inputs.specs.Texts.{read_log}
use Rattle.splice_run.specs.Single.{single_run}
use Rattle.command_plans.specs.Splice.{single_text, splice_plan, turns_line}
use Rattle.command_plans.proofs.SpliceLemmas.{log_planned, log_refused, plan_refused}
use Rattle.command_plans.proofs.splice.plan_splice.Goals as goal

pub returns-in_err-log-clause-refused : goal.returns-in_err-log-clause-refused
returns-in_err-log-clause-refused c =
    let p = err_from_is_err_and c.from_residual.result c.from_residual.ensures.1 in
    let text = c.args.text.now in
    rw (p.1, p.2)
    (plan_refused (read_log text) (splice_plan text) (log_refused text) c.in_err-log.field-0.0
    c.in_err-log.ensures.refused)

pub returns-clause-plan : goal.returns-clause-plan
returns-clause-plan c =
    log_planned c.args.text.now c.in_ok-log.log.items c.in_ok-turns.turns.items c.in_ok-bytes.bytes.items _
    c.in_ok-log.ensures.read (c.in_ok-turns.ensures ∙ ap single_run c.deref.ensures.value)
    (c.in_ok-bytes.ensures ∙ ap single_text c.deref-2.ensures.value)
    (c.in_ok-line.ensures ∙ ap turns_line c.deref-3.ensures.value)
