-- The numbers that were read are in range.
use Rattle.std.proofs.Common.{ℕ, List, map, length}
use Rattle.replay_log.specs.Forms.{front_places}
use Rattle.replay_log.proofs.FormLemmas.{drop_words}
use Rattle.replay_log.proofs.ItemLemmas.{parted}
use Rattle.replay_log.proofs.items.item_of.Goals as goal

pub item_from-requires-clause-front : goal.item_from-requires-clause-front
item_from-requires-clause-front c =
    rw (c.deref.ensures.value, c.in_ok-front.ensures, c.front_places.ensures)
    (parted c.args.form _ c.requires).front.range

pub item_from-requires-clause-back : goal.item_from-requires-clause-back
item_from-requires-clause-back c =
    let words : List (List ℕ) = map (λ w. w.now) c.args.words.now in
    rw (
      c.deref-2.ensures.value,
      c.in_ok-back.ensures,
      c.back_places.ensures,
      c.back_words.ensures,
      ← drop_words
          (λ w. w.now) (length (front_places c.args.form)) c.args.words.now,
    )
    (parted c.args.form words c.requires).back.range
