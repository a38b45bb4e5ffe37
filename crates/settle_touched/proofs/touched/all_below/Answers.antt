-- Each step adds the next place.
use Rattle.std.proofs.Common.{ap, ◌∙◌, List, ℕ, [], ◌∷◌, ◌++◌}
use Rattle.settle_touched.proofs.TouchedLemmas.{range_next}
use Rattle.settle_touched.proofs.touched.all_below.Goals as goal

pub loop-k-preserved : goal.loop-k-preserved
loop-k-preserved c =
    c.in_ok-push.ensures.items
    ∙ (ap (λ (ks : List ℕ). ks ++ c.loop-k.k ∷ []) c.loop-k.invariant ∙ range_next c.loop-k.k)
