-- The text's lines are events and marks, and an event comes first.
use Rattle.std.proofs.Common.{◌≡◌, List, subst, ◌∙◌, rules}
use Rattle.replay_log.specs.Forms.{log_forms}
use Rattle.replay_log.specs.Texts.{IsText, log_items}
use Rattle.replay_log.specs.declared.causes.LineFault.TheVariants as fault
use Rattle.replay_log.specs.declared.forms.Form.{Form}
use Rattle.replay_log.proofs.GatheringLemmas.{kinds_of_log, same_text}
use Rattle.replay_log.proofs.LawLemmas.{no_fault_given, one_log}
use Rattle.replay_log.proofs.parsing.parse_log.Goals as goal

pub records_in-requires-clause-kinds : goal.records_in-requires-clause-kinds
records_in-requires-clause-kinds c =
    let items = c.in_ok-items.items.items in
    let read : IsText log_forms items c.args.text.now = subst (λ
    (forms : List Form). IsText forms items c.args.text.now) c.log_forms.ensures c.in_ok-items.ensures.ok in
    rw c.deref.ensures.value (kinds_of_log items read.good)

pub returns-clause-each : goal.returns-clause-each
returns-clause-each c = λ all good.
    one_log c.args.text.now c.in_ok-records.records.items all
    (same_text log_forms _ c.in_ok-items.items.items (log_items c.in_ok-records.records.items) c.args.text.now
    c.log_forms.ensures (λ _. c.in_ok-records.ensures ∙ c.deref.ensures.value) c.in_ok-items.ensures.ok) good

pub returns-in_err-items-clause-each : goal.returns-in_err-items-clause-each
returns-in_err-items-clause-each c = λ all good.
    let same : c.in_err-items.field-0.0 ≡ fault.NoMemory = no_fault_given log_forms _ (log_items all) c.args.text.now
    c.in_err-items.field-0.0 c.log_forms.ensures good c.in_err-items.ensures.bad in
    let h = c.from_residual.ensures in search rules
