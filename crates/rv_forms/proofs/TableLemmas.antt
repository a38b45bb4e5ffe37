-- The table of names, and what is found in it.
use Rattle.std.proofs.Common.{◌≡◌, ℕ, zero, suc, ◌+◌, ◌<◌, ◌≤◌, Bool, true, false, List, [], ◌∷◌, length, get_or, map, Some, None, IsTrue, Result, Ok, Err, MatchResult, bit_and, ◌==◌, Bor, refl, sym, ap, ◌∙◌, inl, inr, arith}
use Rattle.std.specs.Cmp.Lexicographic.{slice_cmp}
use Rattle.std.specs.List.{find, list_all}
use Rattle.std.specs.Ordering.{is_lt, is_eq, nat_cmp, ordering_reverse}
use Rattle.std.specs.declared.cmp.Ordering.{Ordering}
use Rattle.std.specs.declared.cmp.Ordering.TheVariants.{Less, Equal, Greater}
use Rattle.std.specs.List.Sorted.{IsSortedBy, IsBinarySearchResult, IsPartitionPoint, IsSearchInRange}
use Rattle.std.specs.Str.{bytes_eq}
use Rattle.std.proofs.lemmas.Bool.{and_parts, cases_lt, eqb-true}
use Rattle.std.proofs.lemmas.Cmp.{nat_list_cmp_total}
use Rattle.std.proofs.lemmas.List.Sorted.{searchable_from_sorted}
use Rattle.std.proofs.Math.ListN.{get_or-map}
use Rattle.std.proofs.lemmas.List.{length-map}
use Rattle.std.proofs.lemmas.Map.Text.{is_eq-slice_cmp}
use Rattle.std.proofs.lemmas.Nat.{and_le_r}
use Rattle.std.proofs.lemmas.Slice.Eq.{bytes_eq-Decides}
use Rattle.rv_forms.specs.declared.kinds.Syntax.{Syntax}
use Rattle.rv_forms.specs.Forms.{mask_of}
use Rattle.rv_forms.specs.Mnemonics.{Mnemonic, row, are_rising, is_table}

-- a row as the code keeps it
abbrev pub Row : Type 0
Row = Bor (List ℕ) × Syntax × ℕ

abbrev pub view : Row → Mnemonic
view r = row r.0.now r.1 r.2

pub all_at : {X : Type 0} (p : X → Bool) (xs : List X) (k : ℕ) (d : X) → list_all p xs ≡ true → k < length xs →
    p (get_or xs k d) ≡ true
all_at p [] k d all inside = absurd (omega arith)
all_at p (x ∷ xs) zero d all inside = (and_parts (p x) (list_all p xs) all).0
all_at p (x ∷ xs) (suc k) d all inside = all_at p xs k d (and_parts (p x) (list_all p xs) all).1 (omega arith)

less : (o : Ordering) → is_lt o ≡ true → o ≡ Less
less Less e = refl
less Equal e = absurd cc
less Greater e = absurd cc

-- a name is less than each later one
pub later_is_less : (ms : List Mnemonic) (j k : ℕ) (d : Mnemonic) → are_rising ms ≡ true → j < k → k < length ms →
    slice_cmp nat_cmp (get_or ms j d).name (get_or ms k d).name ≡ Less
later_is_less [] j k d rising below inside = absurd (omega arith)
later_is_less (m ∷ ms) zero zero d rising below inside = absurd (omega arith)
later_is_less (m ∷ ms) zero (suc k) d rising below inside =
    let p : Mnemonic → Bool = λ later. is_lt (slice_cmp nat_cmp m.name later.name) in
    less _ (all_at p ms k d (and_parts (list_all p ms) (are_rising ms) rising).0 (omega arith))
later_is_less (m ∷ ms) (suc j) zero d rising below inside = absurd (omega arith)
later_is_less (m ∷ ms) (suc j) (suc k) d rising below inside =
    let p : Mnemonic → Bool = λ later. is_lt (slice_cmp nat_cmp m.name later.name) in
    later_is_less ms j k d (and_parts (list_all p ms) (are_rising ms) rising).1 (omega arith) (omega arith)

sorted : (rs : List Row) → are_rising (map view rs) ≡ true →
    IsSortedBy (λ (a b : Row). is_lt (slice_cmp nat_cmp a.0.now b.0.now)) rs
sorted rs rising = λ k d low inside.
    let names : Mnemonic → Mnemonic → Type 0 = λ x y. slice_cmp nat_cmp x.name y.name ≡ Less in
    let e : names (view (get_or rs k d)) (view (get_or rs (k + 1) d)) = rw (
      ← get_or-map view rs k d,
      ← get_or-map view rs (k + 1) d,
    ) (later_is_less (map view rs) k (k + 1) (view d) rising
    (omega arith) (omega (arith, length-map rs view))) in
    ap is_lt (nat_list_cmp_total.antisymm (get_or rs (k + 1) d).0.now (get_or rs k d).0.now ∙ ap ordering_reverse e)

other_name : (a b : List ℕ) (o : Ordering) → slice_cmp nat_cmp a b ≡ o → is_eq o ≡ false → bytes_eq a b ≡ false
other_name a b o e differs = sym (is_eq-slice_cmp a b) ∙ (ap is_eq e ∙ differs)

-- the first that passes, and that none does
pub find_first : (p : Mnemonic → Bool) (rs : List Row) (i : ℕ) (d : Row) → ((k : ℕ) (e : Row) → k < i →
    p (view (get_or rs k e)) ≡ false) → i < length rs → p (view (get_or rs i d)) ≡ true →
    find p (map view rs) ≡ Some (view (get_or rs i d))
find_first p [] i d none inside here = absurd (omega arith)
find_first p (r ∷ rs) zero d none inside here = rw here refl
find_first p (r ∷ rs) (suc i) d none inside here = rw (none 0 d (omega arith)) (find_first p rs i d (λ k e below. none
    (suc k) e (omega arith)) (omega arith) here)

pub find_none : (p : Mnemonic → Bool) (rs : List Row) → ((k : ℕ) (e : Row) → k < length rs →
    p (view (get_or rs k e)) ≡ false) → find p (map view rs) ≡ None
find_none p [] none = refl
find_none p (r ∷ rs) none = rw (none 0 r (omega arith)) (find_none p rs (λ k e below. none (suc k) e (omega arith)))

pub found_at : (ms : List Mnemonic) (name : List ℕ) (i : ℕ) (d : Mnemonic) → are_rising ms ≡ true → i < length ms →
    bytes_eq (get_or ms i d).name name ≡ true → find (λ m. bytes_eq m.name name) ms ≡ Some (get_or ms i d)
found_at [] name i d rising inside here = absurd (omega arith)
found_at (m ∷ ms) name zero d rising inside here = rw here refl
found_at (m ∷ ms) name (suc i) d rising inside here =
    let same : (get_or ms i d).name ≡ name = (bytes_eq-Decides (get_or ms i d).name name).0 here in
    let before : slice_cmp nat_cmp m.name (get_or ms i d).name
    ≡ Less = later_is_less (m ∷ ms) 0 (suc i) d rising (omega arith) inside in
    let other : bytes_eq m.name name ≡ false = other_name m.name name Less (ap (λ
    (n : List ℕ). slice_cmp nat_cmp m.name n) (sym same) ∙ before) refl in
    let p : Mnemonic → Bool = λ later. is_lt (slice_cmp nat_cmp m.name later.name) in
    rw other (found_at ms name i d (and_parts (list_all p ms) (are_rising ms) rising).1 (omega arith) here)

-- what a search by halving finds
pub searched : (rs : List Row) (name : List ℕ) (r : Result ℕ ℕ) → are_rising (map view rs) ≡ true →
    IsSearchInRange r (length rs) → IsBinarySearchResult (λ (y : Row). slice_cmp nat_cmp y.0.now name) rs r
    → MatchResult r (λ i. (d : Row) → find (λ m. bytes_eq m.name name) (map view rs)
    ≡ Some (view (get_or rs i d))) (λ _. find (λ m. bytes_eq m.name name) (map view rs) ≡ None)
searched rs name (Ok i) rising inside here = λ d.
    let at : get_or (map view rs) i (view d) ≡ view (get_or rs i d) = get_or-map view rs i d in
    let same : bytes_eq (get_or (map view rs) i (view d)).name name
    ≡ true = ap (λ (m : Mnemonic). bytes_eq m.name name) at
    ∙ (sym (is_eq-slice_cmp (get_or rs i d).0.now name) ∙ ap is_eq (here d)) in
    found_at (map view rs) name i (view d) rising (omega (arith, length-map rs view)) same
    ∙ ap (λ (m : Mnemonic). Some m) at
searched rs name (Err i) rising inside split =
    let parts : IsPartitionPoint (λ (y : Row). slice_cmp nat_cmp y.0.now name
    ≡ Less) (λ (y : Row). slice_cmp nat_cmp y.0.now name
    ≡ Greater) rs i = split (searchable_from_sorted nat_list_cmp_total (λ (y : Row). y.0.now) rs name
    (sorted rs rising)) in
    find_none (λ m. bytes_eq m.name name) rs (λ k d below. elim (cases_lt k i) [
      | inl front ↦ other_name (get_or rs k d).0.now name Less (parts.0 k d (omega arith) front) refl
      | inr back ↦ other_name (get_or rs k d).0.now name Greater (parts.1 k d back below) refl
    ])

-- each row's bits are under its mask
pub row_fixed : (rs : List Row) (k : ℕ) (d : Row) → IsTrue (is_table (map view rs)) → k < length rs →
    (get_or rs k d).2 ≤ mask_of (get_or rs k d).1
row_fixed rs k d table inside =
    let p : Mnemonic → Bool = λ m. bit_and m.value (mask_of m.syntax) == m.value in
    let all = (and_parts (are_rising (map view rs)) (list_all p (map view rs)) table).1 in
    let here : p (view (get_or rs k d)) ≡ true = ap p (sym (get_or-map view rs k d))
    ∙ all_at p (map view rs) k (view d) all (omega (arith, length-map rs view)) in
    omega (
      arith,
      eqb-true (bit_and (get_or rs k d).2 (mask_of (get_or rs k d).1)) (get_or rs k d).2 here,
      and_le_r (get_or rs k d).2 (mask_of (get_or rs k d).1),
    )

pub table_rises : (rs : List Row) → IsTrue (is_table (map view rs)) → are_rising (map view rs) ≡ true
table_rises rs table = (and_parts (are_rising (map view rs)) (list_all (λ m. bit_and m.value
    (mask_of m.syntax) == m.value) (map view rs)) table).0
