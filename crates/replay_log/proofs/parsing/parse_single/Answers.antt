-- Each item of the text is of its one kind.
use Rattle.std.proofs.Common.{◌≡◌, map, ap, ◌∙◌, rules}
use Rattle.std.specs.List.{filter_map}
use Rattle.replay_log.specs.Forms.{single_forms}
use Rattle.replay_log.specs.Gathering.{turn_in}
use Rattle.replay_log.specs.declared.causes.LineFault.TheVariants as fault
use Rattle.replay_log.specs.declared.items.Item.TheVariants as item
use Rattle.replay_log.proofs.GatheringLemmas.{turns_again, same_text}
use Rattle.replay_log.proofs.LawLemmas.{no_fault_given, one_single}
use Rattle.replay_log.proofs.parsing.parse_single.Goals as goal

pub returns-clause-ok : goal.returns-clause-ok
returns-clause-ok c =
    let picked = c.in_ok-turns.ensures ∙ ap (filter_map turn_in) c.deref.ensures.value in
    same_text single_forms _ c.in_ok-items.items.items _ c.args.text.now c.single_forms.ensures
    (λ good. ap (map item.Turn) picked ∙ turns_again c.in_ok-items.items.items good) c.in_ok-items.ensures.ok

pub returns-clause-each : goal.returns-clause-each
returns-clause-each c = λ all good. one_single c.args.text.now c.in_ok-turns.turns.items all (returns-clause-ok c) good

pub returns-in_err-items-clause-each : goal.returns-in_err-items-clause-each
returns-in_err-items-clause-each c = λ all good.
    let same : c.in_err-items.field-0.0 ≡ fault.NoMemory = no_fault_given single_forms _ (map item.Turn all)
    c.args.text.now c.in_err-items.field-0.0 c.single_forms.ensures good c.in_err-items.ensures.bad in
    let h = c.from_residual.ensures in search rules
