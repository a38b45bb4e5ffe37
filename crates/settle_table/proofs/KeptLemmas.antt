-- The tuples of a table, one after the other.
use Rattle.std.proofs.Common.{◌≡◌, ℕ, suc, List, take, slice_get, Some, refl, sym, ap, ◌∙◌}
use Rattle.inet_frame.specs.declared.tuple.Tuple.{Tuple}
use Rattle.settle_rules.specs.Progress.{ProgressTable}
use Rattle.settle_rules.specs.Settle.{Settlement}
use Rattle.settle_table.specs.Kept.{KeptScene, add_tuple, no_release, settle_tuples}
use Rattle.settle_table.proofs.StepLemmas.{fold_step}

-- one tuple more
pub one_more : (scene : KeptScene) (progress : ProgressTable) (tuples : List Tuple) (k : ℕ) (t : Tuple) →
    slice_get tuples k ≡ Some t → settle_tuples scene progress (take (suc k) tuples)
    ≡ add_tuple scene (settle_tuples scene progress (take k tuples)) t
one_more scene progress tuples k t at = fold_step (add_tuple scene) (no_release progress) tuples k t at
