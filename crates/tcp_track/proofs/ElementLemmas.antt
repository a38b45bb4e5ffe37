-- Elements of joined and cut lists.
use Rattle.std.proofs.Common.{◌≡◌, ◌⊎◌, inl, inr, ℕ, zero, suc, ◌+◌, ◌-◌, ◌<◌, ◌≤◌, List, [], ◌∷◌, ◌++◌, length, drop, slice_get, Some, refl, sym, ap, ◌∙◌, arith}
use Rattle.std.proofs.lemmas.Bool.{cases_lt}

pub get_left : {X : Type 0} (xs ys : List X) (k : ℕ) → k < length xs → slice_get (xs ++ ys) k ≡ slice_get xs k
get_left [] ys k h = absurd (omega arith)
get_left (x ∷ xs) ys zero h = refl
get_left (x ∷ xs) ys (suc k) h = get_left xs ys k (omega arith)

pub get_right : {X : Type 0} (xs ys : List X) (k j : ℕ) → k ≡ length xs + j → slice_get (xs ++ ys) k ≡ slice_get ys j
get_right [] ys k j e = let f : k ≡ j = omega arith in ap (λ (n : ℕ). slice_get ys n) f
get_right (x ∷ xs) ys zero j e = absurd (omega arith)
get_right (x ∷ xs) ys (suc k) j e = get_right xs ys k j (omega arith)

pub get_drop : {X : Type 0} (n : ℕ) (ys : List X) (j k : ℕ) → k ≡ n + j → slice_get (drop n ys) j ≡ slice_get ys k
get_drop zero ys j k e = let f : j ≡ k = omega arith in ap (λ (n : ℕ). slice_get ys n) f
get_drop (suc n) [] j k e = refl
get_drop (suc n) (y ∷ ys) j zero e = absurd (omega arith)
get_drop (suc n) (y ∷ ys) j (suc k) e = get_drop n ys j k (omega arith)

-- a symbol of a list that was made longer by what starts at or before its end is one of the list, or of that
pub from_end : {X : Type 0} (xs ys : List X) (start k : ℕ) (x : X) → start ≤ length xs →
    slice_get (xs ++ drop (length xs - start) ys) k ≡ Some x →
    (slice_get xs k ≡ Some x) ⊎ ((length xs ≤ k) × (slice_get ys (k - start) ≡ Some x))
from_end xs ys start k x h e = by (cases_lt k (length xs))
  where
    by : (k < length xs) ⊎ (length xs ≤ k) → (slice_get xs k
        ≡ Some x) ⊎ ((length xs ≤ k) × (slice_get ys (k - start) ≡ Some x))
    by (inl low) = inl (sym (get_left xs (drop (length xs - start) ys) k low) ∙ e)
    by (inr high) = inr (
      high,
      sym (get_right xs (drop (length xs - start) ys) k (k - length xs) (omega arith)
          ∙ get_drop (length xs - start) ys (k - length xs) (k - start) (omega arith)) ∙ e,
    )
