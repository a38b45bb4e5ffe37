-- Lists that begin with another.
use Rattle.std.proofs.Common.{◌≡◌, ℕ, zero, suc, ◌+◌, List, [], ◌∷◌, ◌++◌, length, take, slice_get, Some, None, ap, ◌∙◌, arith}
use Rattle.std.proofs.lemmas.Grind.{common_steps}
use Rattle.std.proofs.Math.Seq.{take-append_seam}
use Rattle.state_wire.specs.Guest.{BeginsWith}

pub begins_with : (new old more : List (List ℕ)) → new ≡ old ++ more → BeginsWith new old
begins_with new old more e = ap (λ list. take (length old) list) e ∙ take-append_seam old more

-- one element more of a list
pub take_one : (xs : List (List ℕ)) (k : ℕ) (x : List ℕ) → slice_get xs k ≡ Some x →
    take (k + 1) xs ≡ take k xs ++ x ∷ []
take_one [] k x e = absurd (none e)
  where
    none : None ≡ Some x → ⊥
    none p = cc
take_one (y ∷ ys) zero x e = grind (arith, common_steps)
take_one (y ∷ ys) (suc k) x e =
    let place : suc k + 1 ≡ suc (k + 1) = omega arith in
    ap (λ n. take n (y ∷ ys)) place ∙ ap (λ list. y ∷ list) (take_one ys k x e)
