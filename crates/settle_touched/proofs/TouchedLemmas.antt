-- Places in ascending order, from a range and from a set.
use Rattle.std.proofs.Common.{◌≡◌, ℕ, ◌+◌, ◌<◌, ◌≤◌, zero, suc, Bool, true, false, ◌||◌, ◌&&◌, ◌==◌, nat_eq, nat_lt, cond, filter, List, [], ◌∷◌, ◌++◌, append_assoc, append-nil, refl, sym, ap, subst, ◌∙◌, true≢false, arith}
use Rattle.std.proofs.lemmas.Bool.{eqb-true, ltb-true, ltb-false}
use Rattle.std.proofs.lemmas.Bool.Decides.{nat_tests}
use Rattle.std.proofs.lemmas.Map.Views.{any-filter_same}
use Rattle.std.specs.List.{AllByRecursion, list_any, range_with_len}
use Rattle.std.specs.List.Sorted.{IsStrictlySortedBy}
use Rattle.std.specs.Ordering.{nat_cmp}
use Rattle.std.specs.declared.cmp.Ordering.{Ordering}
use Rattle.std.specs.declared.cmp.Ordering.TheVariants.{Less, Equal, Greater}
use Rattle.std.specs.BTreeSet.{insert_key}
use Rattle.std.specs.Ordering.{match_ordering}
use Rattle.settle_touched.specs.Places.{AreAscending, is_among}
use Rattle.settle_touched.proofs.MixLemmas.{or_right}

-- A RANGE

pub range-push : (a n : ℕ) → range_with_len a n ++ (a + n) ∷ [] ≡ range_with_len a (suc n)
range-push a zero = let same : a + 0 ≡ a = omega arith in ap (λ (k : ℕ). k ∷ []) same
range-push a (suc n) =
    let same : a + suc n ≡ (a + 1) + n = omega arith in
    ap (λ (k : ℕ). a ∷ (range_with_len (a + 1) n ++ k ∷ [])) same
    ∙ ap (λ (ks : List ℕ). a ∷ ks) (range-push (a + 1) n)

pub range_next : (k : ℕ) → range_with_len 0 k ++ k ∷ [] ≡ range_with_len 0 (k + 1)
range_next k =
    let same : k ≡ 0 + k = omega arith in
    let next : suc k ≡ k + 1 = omega arith in
    ap (λ (n : ℕ). range_with_len 0 k ++ n ∷ []) same
    ∙ (range-push 0 k ∙ ap (λ (n : ℕ). range_with_len 0 n) next)

pub ascending_range : (a n bound : ℕ) → a + n ≤ bound → AreAscending a bound (range_with_len a n)
ascending_range a zero bound h = tt
ascending_range a (suc n) bound h = (
  omega arith,
  omega (arith, h),
  ascending_range (a + 1) n bound (omega (arith, h)),
)

above : (k a : ℕ) → nat_eq k a ≡ false → a ≤ k → a + 1 ≤ k
above k a e low = grind (arith, nat_tests)

among_range : (k a n : ℕ) → a ≤ k → k < a + n → is_among k (range_with_len a n) ≡ true
among_range k a zero low high = absurd (omega (arith, low, high))
among_range k a (suc n) low high = by (nat_eq k a) refl (among_range k (a + 1) n)
  where
    by : (c : Bool) → nat_eq k a ≡ c → (a + 1 ≤ k → k < (a + 1) + n → is_among k (range_with_len (a + 1) n) ≡ true) →
        (c || is_among k (range_with_len (a + 1) n)) ≡ true
    by true e more = refl
    by false e more = more (above k a e low) (omega (arith, high))

pub all_among : (k bound : ℕ) → nat_lt k bound ≡ true → is_among k (range_with_len 0 bound) ≡ true
all_among k bound h =
    let low : k < bound = ltb-true k bound h in among_range k 0 bound (omega arith) (omega (arith, low))

pub all_below-ascending : (bound : ℕ) → AreAscending 0 bound (range_with_len 0 bound)
all_below-ascending bound = ascending_range 0 bound bound (omega arith)

-- A SET

one_or_more : (a b d : Bool) → (a || b) ≡ true → (b ≡ true → d ≡ true) → (a || d) ≡ true
one_or_more true b d h f = refl
one_or_more false b d h f = f h

-- a key that was there is there after an insertion
insert_keeps : (k p : ℕ) (ks : List ℕ) → is_among k ks ≡ true → is_among k (insert_key nat_cmp ks p) ≡ true
insert_keeps k p [] h = absurd (true≢false (sym h))
insert_keeps k p (j ∷ js) h = by (nat_cmp p j) h (insert_keeps k p js)
  where
    by : (o : Ordering) → is_among k (j ∷ js) ≡ true →
        (is_among k js ≡ true → is_among k (insert_key nat_cmp js p) ≡ true) →
        is_among k (match_ordering o (p ∷ j ∷ js) (j ∷ js) (j ∷ insert_key nat_cmp js p)) ≡ true
    by Less h more = or_right (nat_eq k p) (is_among k (j ∷ js)) h
    by Equal h more = h
    by Greater h more = one_or_more (nat_eq k j) (is_among k js) (is_among k (insert_key nat_cmp js p)) h more

pub touched_more : (all : Bool) (k p : ℕ) (ks : List ℕ) → (all || is_among k ks) ≡ true →
    (all || is_among k (insert_key nat_cmp ks p)) ≡ true
touched_more true k p ks h = refl
touched_more false k p ks h = insert_keeps k p ks h

less : (a b : ℕ) → nat_cmp a b ≡ Less → a < b
less a b e = by (nat_lt a b) refl (a == b) e
  where
    by : (c : Bool) → nat_lt a b ≡ c → (d : Bool) → cond c Less (cond d Equal Greater) ≡ Less → a < b
    by true f d g = ltb-true a b f
    by false f true g = cc
    by false f false g = cc

all_above : (k : ℕ) (ks : List ℕ) → AllByRecursion (λ y. nat_cmp k y ≡ Less) ks →
    AllByRecursion (λ y. k + 1 ≤ y) ks
all_above k [] h = tt
all_above k (j ∷ js) h = let low = less k j h.0 in (omega (arith, low), all_above k js h.1)

lower_all : (a b : ℕ) (ks : List ℕ) → a ≤ b → AllByRecursion (λ y. b ≤ y) ks → AllByRecursion (λ y. a ≤ y) ks
lower_all a b [] low h = tt
lower_all a b (j ∷ js) low h = (omega (arith, low, h.0), lower_all a b js low h.1)

ascending_from : (a bound : ℕ) (ks : List ℕ) → IsStrictlySortedBy nat_cmp ks → AllByRecursion (λ y. a ≤ y) ks →
    AreAscending a bound (filter (λ k. nat_lt k bound) ks)
unfolding IsStrictlySortedBy
ascending_from a bound [] sorted low = tt
ascending_from a bound (k ∷ ks) sorted low =
    by (nat_lt k bound) refl (ascending_from (k + 1) bound ks sorted.1 (all_above k ks sorted.0))
    (ascending_from a bound ks sorted.1 low.1)
  where
    by : (c : Bool) → nat_lt k bound ≡ c → AreAscending (k + 1) bound (filter (λ j. nat_lt j bound) ks) →
        AreAscending a bound (filter (λ j. nat_lt j bound) ks) →
        AreAscending a bound (cond c (k ∷ filter (λ j. nat_lt j bound) ks) (filter (λ j. nat_lt j bound) ks))
    by true e more same = (low.0, ltb-true k bound e, more)
    by false e more same = same

all_natural : (ks : List ℕ) → AllByRecursion (λ y. 0 ≤ y) ks
all_natural [] = tt
all_natural (k ∷ ks) = (omega arith, all_natural ks)

pub ascending_below : (bound : ℕ) (ks : List ℕ) → IsStrictlySortedBy nat_cmp ks →
    AreAscending 0 bound (filter (λ k. nat_lt k bound) ks)
ascending_below bound ks sorted = ascending_from 0 bound ks sorted (all_natural ks)

pub among_below : (k bound : ℕ) (ks : List ℕ) → nat_lt k bound ≡ true →
    is_among k (filter (λ j. nat_lt j bound) ks) ≡ is_among k ks
among_below k bound ks low =
    any-filter_same (nat_eq k) (λ j. nat_lt j bound) true
    (λ j e. sym (ap (λ (n : ℕ). nat_lt n bound) (eqb-true k j e)) ∙ low) ks
