-- What was there is there after an insertion.
use Rattle.std.proofs.Common.{sym, ap, subst, ◌≡◌, ◌||◌, true, List, ℕ}
use Rattle.settle_touched.specs.Places.{is_among}
use Rattle.settle_touched.proofs.TouchedLemmas.{touched_more}
use Rattle.settle_touched.proofs.touched.Touched.touch.Goals as goal

pub returns-in-Ok-clause-others : goal.returns-in-Ok-clause-others
returns-in-Ok-clause-others c = λ k h.
    subst (λ (ks : List ℕ). (c.args.self.now.all || is_among k ks) ≡ true) (sym c.in-Ok.ensures.keys)
    (touched_more c.args.self.now.all k c.args.place c.args.self.now.places.keys h)
