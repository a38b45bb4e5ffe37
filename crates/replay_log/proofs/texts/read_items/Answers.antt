-- Each line is read as it is written, and the first that is bad ends the reading.
use Rattle.std.proofs.Common.{ℕ, List, map, ap, ◌∙◌}
use Rattle.replay_log.specs.Cases.{form_reads}
use Rattle.replay_log.proofs.FoundLemmas.{found}
use Rattle.replay_log.proofs.ReadingLemmas.{read_none, read_more}
use Rattle.replay_log.proofs.texts.read_items.Goals as goal

pub loop-rest-init : goal.loop-rest-init
loop-rest-init c = rw (c.new-items.ensures.items, c.none-before.ensures) (read_none c.args.forms.now c.args.text.now)

pub item_of-requires : goal.item_of-requires
item_of-requires c =
    let words : List (List ℕ) = map (λ w. w.now) c.as_slice-words.result.now in
    (found (form_reads words) c.args.forms.now c.in-Ok.form c.in-Ok.ensures.form).0

pub loop-rest-preserved : goal.loop-rest-preserved
loop-rest-preserved c =
    rw (c.with-before.ensures, c.in_ok-push.ensures.items, c.in_ok-item_of.ensures)
    (read_more _ _ _ _ _ _ _ _ _ _ c.loop-rest.invariant
    (record {
      row = c.first_row-is_ended.ensures.row;
      ended = c.first_row-is_ended.ensures.ended;
      split = ap (λ ws. map (λ w. w.now) ws) c.as_slice-words.ensures.value ∙ c.in_ok-words.ensures;
      no_case = c.in-Ok.ensures.good;
      found = c.in-Ok.ensures.form;
    }))
