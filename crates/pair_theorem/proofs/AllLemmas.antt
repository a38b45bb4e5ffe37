-- What holds of each element of a list: from a test of the list, and at one element.
use Rattle.std.proofs.Common.{◌≡◌, ℕ, zero, suc, ◌+◌, ◌<◌, Bool, true, List, [], ◌∷◌, length, slice_get, Option, None, Some, ap, subst, ◌∙◌, arith, get_or}
use Rattle.std.specs.Prelude.{All}
use Rattle.std.specs.List.{list_all, enumerate_from}
use Rattle.std.proofs.lemmas.List.Sums.{AllPass-from_list_all, list_all-from_AllPass}
use Rattle.std.proofs.lemmas.Option.{get_or_from_slice_get}

-- each element has what a test shows
pub All_from : {X : Type 0} (P : X → Type 0) (p : X → Bool) (xs : List X) → ((x : X) → p x ≡ true → P x)
    → list_all p xs ≡ true → All P xs
All_from P p xs f e k d l = f (get_or xs k d) (AllPass-from_list_all p xs e k d l)

is_within : {X : Type 0} (xs : List X) (k : ℕ) (x : X) → slice_get xs k ≡ Some x → k < length xs
is_within [] k x e = absurd (cc e)
is_within (y ∷ xs) zero x e = omega arith
is_within (y ∷ xs) (suc k) x e = let h = is_within xs k x e in omega (arith, h)

-- the fact at one element
pub All_at : {X : Type 0} (P : X → Type 0) (xs : List X) (k : ℕ) (x : X) → All P xs → slice_get xs k ≡ Some x → P x
All_at P xs k x h e = subst P (get_or_from_slice_get xs k x x e) (h k x (is_within xs k x e))

-- a test that shows what holds of each element
pub list_all_from : {X : Type 0} (P : X → Type 0) (p : X → Bool) (xs : List X) → ((x : X) → P x → p x ≡ true) → All P xs
    → list_all p xs ≡ true
list_all_from P p xs f h = list_all-from_AllPass p xs (λ k d l. f (get_or xs k d) (h k d l))

-- a numbered element
pub slice_get-enumerate_from : {X : Type 0} (n : ℕ) (xs : List X) (k : ℕ) (x : X) → slice_get xs k ≡ Some x
    → slice_get (enumerate_from n xs) k ≡ Some (n + k, x)
slice_get-enumerate_from n [] k x e = absurd (cc e)
slice_get-enumerate_from {X} n (y ∷ xs) zero x e =
    let same : n ≡ n + 0 = omega arith in
    ap (λ (z : Option X). number_of z) e ∙ ap (λ (m : ℕ). Some (m, x)) same
  where
    number_of : Option X → Option (ℕ × X)
    number_of None = None
    number_of (Some z) = Some (n, z)
slice_get-enumerate_from {X} n (y ∷ xs) (suc k) x e =
    let next : n + 1 + k ≡ n + suc k = omega arith in
    slice_get-enumerate_from (n + 1) xs k x e ∙ ap (λ (m : ℕ). Some (m, x)) next
