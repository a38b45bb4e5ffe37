-- The symbols of a line from one offset up to another, as SYN, bytes and FIN.
use Rattle.std.proofs.Common.{◌≡◌, ℕ, ◌+◌, ◌-◌, ◌<◌, ◌≤◌, zero, suc, Bool, true, false, not, ◌&&◌, ◌||◌, ◌==◌, nat_lt, nat_le, max, min, is_some, if◌then◌else◌, List, [], ◌∷◌, ◌++◌, append_assoc, length, map, take, drop, filter_map, Option, None, Some, refl, sym, ap, ap₂, subst, ◌∙◌, arith, length-append, length-drop, true≢false}
use Rattle.std.specs.List.{list_any, range_with_len}
use Rattle.std.proofs.lemmas.Bool.{and_parts, and_from, leb-true, leb-false, le-leb, lt-leb, ltb-true, ltb-false, lt-ltb, le-ltb, not-true, eqb-true, eqb-false, eq-eqb}
use Rattle.std.proofs.lemmas.List.{length-map}
use Rattle.std.proofs.lemmas.List.Elements.{filter_map-append}
use Rattle.std.proofs.lemmas.List.Folds.{list_any-append}
use Rattle.std.proofs.lemmas.List.FromFn.{length-map-range_with_len}
use Rattle.std.proofs.Math.Seq.{drop-append-add}
use Rattle.tcp_track.specs.Segments.{Symbol, syn, byte, fin, fin_if, same_symbol}
use Rattle.tcp_track.specs.LineFields.{LineFields, IsWithin, syn_kept, symbols_kept, bytes_end}
use Rattle.settle_rules.specs.Release.{byte_in, bytes_in, has_symbol}
use Rattle.tcp_track.proofs.TyingLemmas.{drop-payload, drop-syn}
use Rattle.line_release.specs.Whole.{forgotten, whole_of, symbols_between}

-- LISTS

pub take_cap : {X : Type 0} (m n : ℕ) (xs : List X) → min m (length xs) ≡ min n (length xs) → take m xs ≡ take n xs
take_cap zero zero [] h = refl
take_cap zero (suc n) [] h = refl
take_cap (suc m) zero [] h = refl
take_cap (suc m) (suc n) [] h = refl
take_cap zero zero (x ∷ xs) h = refl
take_cap zero (suc n) (x ∷ xs) h = absurd (omega (arith, h))
take_cap (suc m) zero (x ∷ xs) h = absurd (omega (arith, h))
take_cap (suc m) (suc n) (x ∷ xs) h = ap (λ ys. x ∷ ys) (take_cap m n xs (omega (arith, h)))

bool-iff : (a b : Bool) → (a ≡ true → b ≡ true) → (b ≡ true → a ≡ true) → a ≡ b
bool-iff true b f g = sym (f refl)
bool-iff false true f g = g refl
bool-iff false false f g = refl

bytes_in-nothing : (k : ℕ) → bytes_in (take k []) ≡ []
bytes_in-nothing zero = refl
bytes_in-nothing (suc k) = refl

bytes_in-take : (n : ℕ) (xs : List ℕ) (ends : Bool) → bytes_in (take n (map byte xs ++ fin_if ends)) ≡ take n xs
bytes_in-take zero xs ends = refl
bytes_in-take (suc n) [] true = bytes_in-nothing n
bytes_in-take (suc n) [] false = refl
bytes_in-take (suc n) (x ∷ xs) ends = ap (λ ys. x ∷ ys) (bytes_in-take n xs ends)

fin-take : (n : ℕ) (xs : List ℕ) (ends : Bool) → has_symbol fin (take n (map byte xs ++ fin_if ends))
    ≡ (ends && nat_lt (length xs) n)
fin-take zero xs ends = by ends
  where
    by : (b : Bool) → false ≡ (b && nat_lt (length xs) zero)
    by true = sym (le-ltb (length xs) zero (omega arith))
    by false = refl
fin-take (suc n) [] true = sym (lt-ltb 0 (suc n) (omega arith))
fin-take (suc n) [] false = refl
fin-take (suc n) (x ∷ xs) ends = fin-take n xs ends ∙ ap (λ b. ends && b) (bool-iff (nat_lt (length xs) n) (nat_lt
    (suc (length xs)) (suc n)) (λ p. lt-ltb (suc (length xs)) (suc n) (omega (
      arith,
      ltb-true (length xs) n p,
    ))) (λ p. lt-ltb (length xs) n (omega (arith, ltb-true (suc (length xs)) (suc n) p))))

syn-nothing : (k : ℕ) → has_symbol syn (take k []) ≡ false
syn-nothing zero = refl
syn-nothing (suc k) = refl

syn-take : (n : ℕ) (xs : List ℕ) (ends : Bool) → has_symbol syn (take n (map byte xs ++ fin_if ends)) ≡ false
syn-take zero xs ends = refl
syn-take (suc n) [] true = syn-nothing n
syn-take (suc n) [] false = refl
syn-take (suc n) (x ∷ xs) ends = syn-take n xs ends

-- A PART OF A LINE WITH AN OPENING

-- bytes and FIN from the first offset on that is no SYN
abbrev data_kept : LineFields → List Symbol
data_kept l = map byte l.bytes ++ fin_if l.fin

kept-split : (l : LineFields) → symbols_kept l ≡ syn_kept l ++ data_kept l
kept-split l = append_assoc (syn_kept l) (map byte l.bytes) (fin_if l.fin)

length-forgotten : (l : LineFields) → is_some l.opening ≡ true → length (forgotten l) ≡ l.base
length-forgotten l o = (λ i. length (if o i then map (λ (k : ℕ). byte 0) (range_with_len 0 l.base) else []))
    ∙ length-map-range_with_len (λ (k : ℕ). byte 0) 0 l.base

-- from an offset on that isn't trimmed
pub from-kept : (l : LineFields) (from : ℕ) → is_some l.opening ≡ true → l.base ≤ from →
    drop from (whole_of l).symbols ≡ drop (from - l.base) (syn_kept l ++ data_kept l)
from-kept l from o low =
    let at : from ≡ length (forgotten l) + (from - l.base) = omega (arith, low, length-forgotten l o) in
    ap (λ (n : ℕ). drop n (forgotten l ++ symbols_kept l)) at
    ∙ (drop-append-add (forgotten l) (symbols_kept l) (from - l.base)
    ∙ ap (λ xs. drop (from - l.base) xs) (kept-split l))

-- SYN, where it is in the part
abbrev syn_part : ℕ → ℕ → List Symbol
syn_part from to = if from == 0 && not (to == 0) then syn ∷ [] else []

abbrev data_part : LineFields → ℕ → ℕ → List Symbol
data_part l from to = take (to - max from 1) (drop (from - max l.base 1) (data_kept l))

not_zero : (n : ℕ) → 0 < n → (n == 0) ≡ false
not_zero n h = by_test (n == 0) refl
  where
    by_test : (b : Bool) → (n == 0) ≡ b → b ≡ false
    by_test true p = absurd (omega (arith, h, eqb-true n 0 p))
    by_test false p = refl

first_part : (l : LineFields) (n : ℕ) → take (n - 0) (syn ∷ data_kept l) ≡ syn_part 0 n ++ take (n - 1) (data_kept l)
first_part l zero = refl
first_part l (suc n) =
    let all : suc n - 0 ≡ suc n = omega arith in
    let rest : suc n - 1 ≡ n = omega arith in
    let some : (suc n == 0) ≡ false = not_zero (suc n) (omega arith) in
    ap (λ (k : ℕ). take k (syn ∷ data_kept l)) all ∙ sym (λ i. (if not (some i) then syn ∷ [] else [])
    ++ take (rest i) (data_kept l))

part_at_start : (l : LineFields) (to : ℕ) → is_some l.opening ≡ true → l.base ≡ 0 →
    symbols_between l 0 to ≡ syn_part 0 to ++ data_part l 0 to
part_at_start l to o zero_base =
    let front : syn_kept l ≡ syn ∷ [] = (λ i. if o i && (zero_base i == 0) then syn ∷ [] else []) in
    let none : 0 - max l.base 1 ≡ 0 = omega arith in
    let gone : 0 - l.base ≡ 0 = omega arith in
    ap (λ xs. take (to - 0) xs) (from-kept l 0 o (omega (arith, zero_base))
    ∙ (ap (λ (n : ℕ). drop n (syn_kept l ++ data_kept l)) gone ∙ ap (λ xs. xs ++ data_kept l) front))
    ∙ (first_part l to ∙ ap (λ (n : ℕ). syn_part 0 to ++ take (to - 1) (drop n (data_kept l))) (sym none))

part_later : (l : LineFields) (from to : ℕ) → is_some l.opening ≡ true → l.base ≤ from → 0 < from →
    symbols_between l from to ≡ syn_part from to ++ data_part l from to
part_later l from to o low later = ap (λ xs. take (to - from) xs) (from-kept l from o low
    ∙ by (nat_lt l.base from) refl) ∙ (ap (λ (n : ℕ). take (to - n) (drop (from - max l.base 1) (data_kept l)))
    (let e : from ≡ max from 1 = omega (arith, later) in e) ∙ sym (ap (λ (b : Bool). (if b && not
    (to == 0) then syn ∷ [] else []) ++ data_part l from to) (not_zero from later)))
  where
    by : (b : Bool) → nat_lt l.base from ≡ b → drop (from - l.base) (syn_kept l ++ data_kept l)
        ≡ drop (from - max l.base 1) (data_kept l)
    by true p = drop-syn l.base from (is_some l.opening) (data_kept l) (ltb-true l.base from p) o
    by false p =
        let same : l.base ≡ from = omega (arith, low, ltb-false l.base from p) in
        let none : from - l.base ≡ 0 = omega (arith, same) in
        let gone : from - max l.base 1 ≡ 0 = omega (arith, same, later) in
        let some : (l.base == 0) ≡ false = not_zero l.base (omega (arith, same, later)) in
        (λ i. drop (none i) ((if o i && some i then syn ∷ [] else []) ++ data_kept l))
        ∙ sym (ap (λ (n : ℕ). drop n (data_kept l)) gone)

part_is : (l : LineFields) (from to : ℕ) → is_some l.opening ≡ true → l.base ≤ from →
    symbols_between l from to ≡ syn_part from to ++ data_part l from to
part_is l zero to o low = part_at_start l to o (omega (arith, low))
part_is l (suc from) to o low = part_later l (suc from) to o low (omega arith)

nothing_of : {X : Type 0} (m n : ℕ) → take {A = X} m (drop n []) ≡ []
nothing_of zero zero = refl
nothing_of zero (suc n) = refl
nothing_of (suc m) zero = refl
nothing_of (suc m) (suc n) = refl

-- and of a line without one
no_part : (l : LineFields) (from to : ℕ) → IsWithin l → is_some l.opening ≡ false → symbols_between l from to ≡ []
no_part l from to within o =
    let empty : (whole_of l).symbols ≡ [] = (λ i. (if o i then map (λ (k : ℕ). byte 0)
    (range_with_len 0 l.base) else []) ++ ((if o i && l.base == 0 then syn ∷ [] else [])
    ++ map byte (within.no_bytes o i) ++ fin_if (within.no_fin o i))) in
    ap (λ xs. take (to - from) (drop from xs)) empty ∙ nothing_of (to - from) from

-- WHAT IS IN A PART

data_part-is : (l : LineFields) (from to : ℕ) → data_part l from to
    ≡ take (to - max from 1) (map byte (drop (from - max l.base 1) l.bytes)
    ++ fin_if (l.fin && nat_le (from - max l.base 1) (length l.bytes)))
data_part-is l from to = ap (λ xs. take (to - max from 1) xs) (drop-payload (from - max l.base 1) l.bytes l.fin)

syn_part-bytes : (from to : ℕ) → bytes_in (syn_part from to) ≡ []
syn_part-bytes from to = by (from == 0 && not (to == 0))
  where
    by : (b : Bool) → bytes_in (if b then syn ∷ [] else []) ≡ []
    by true = refl
    by false = refl

syn_part-fin : (from to : ℕ) → has_symbol fin (syn_part from to) ≡ false
syn_part-fin from to = by (from == 0 && not (to == 0))
  where
    by : (b : Bool) → has_symbol fin (if b then syn ∷ [] else []) ≡ false
    by true = refl
    by false = refl

syn_part-syn : (from to : ℕ) → has_symbol syn (syn_part from to) ≡ (from == 0 && not (to == 0))
syn_part-syn from to = by (from == 0 && not (to == 0))
  where
    by : (b : Bool) → has_symbol syn (if b then syn ∷ [] else []) ≡ b
    by true = refl
    by false = refl

or-false : (b : Bool) → (b || false) ≡ b
or-false true = refl
or-false false = refl

slice-is : (l : LineFields) (from to start end : ℕ) → l.base ≤ from → end ≡ min (to - max l.base 1) (length l.bytes) →
    start ≡ min (from - max l.base 1) end → take (end - start) (drop start l.bytes)
    ≡ take (to - max from 1) (drop (from - max l.base 1) l.bytes)
slice-is l from to start end low e s = by (nat_le (from - max l.base 1) end) refl
  where
    by : (b : Bool) → nat_le (from - max l.base 1) end ≡ b →
        take (end - start) (drop start l.bytes) ≡ take (to - max from 1) (drop (from - max l.base 1) l.bytes)
    by true p =
        let inside = leb-true (from - max l.base 1) end p in
        let at : start ≡ from - max l.base 1 = omega (arith, s, inside) in
        ap (λ (n : ℕ). take (end - n) (drop n l.bytes)) at
        ∙ take_cap (end - (from - max l.base 1)) (to - max from 1) (drop (from - max l.base 1) l.bytes) (omega (
          arith,
          e,
          low,
          inside,
          length-drop (from - max l.base 1) l.bytes,
        ))
    by false p =
        let past = leb-false (from - max l.base 1) end p in
        let none : end - start ≡ 0 = omega (arith, s, past) in
        ap (λ (n : ℕ). take n (drop start l.bytes)) none
        ∙ take_cap 0 (to - max from 1) (drop (from - max l.base 1) l.bytes) (omega (
          arith,
          e,
          low,
          past,
          length-drop (from - max l.base 1) l.bytes,
        ))

-- the bytes, as the slice from the first of them on
pub bytes_between-is : (l : LineFields) (from to start end : ℕ) → IsWithin l → l.base ≤ from →
    end ≡ min (to - max l.base 1) (length l.bytes) → start ≡ min (from - max l.base 1) end →
    take (end - start) (drop start l.bytes) ≡ bytes_in (symbols_between l from to)
bytes_between-is l from to start end within low e s = by (is_some l.opening) refl
  where
    by : (b : Bool) → is_some l.opening ≡ b → take (end - start) (drop start l.bytes)
        ≡ bytes_in (symbols_between l from to)
    by true o =
        slice-is l from to start end low e s
        ∙ (sym (bytes_in-take (to - max from 1) (drop (from - max l.base 1) l.bytes) (l.fin && nat_le
        (from - max l.base 1) (length l.bytes)))
        ∙ (ap bytes_in (sym (data_part-is l from to))
        ∙ (ap (λ xs. xs ++ bytes_in (data_part l from to)) (sym (syn_part-bytes from to))
        ∙ (sym (filter_map-append byte_in (syn_part from to) (data_part l from to))
        ∙ ap bytes_in (sym (part_is l from to o low))))))
    by false o = ap (λ xs. take (end - start) (drop start xs)) (within.no_bytes o)
        ∙ (nothing_of (end - start) start ∙ ap bytes_in (sym (no_part l from to within o)))

pub syn_between-is : (l : LineFields) (from to : ℕ) → IsWithin l → l.base ≤ from →
    (is_some l.opening && (from == 0 && not (to == 0))) ≡ has_symbol syn (symbols_between l from to)
syn_between-is l from to within low = by (is_some l.opening) refl
  where
    by : (b : Bool) → is_some l.opening ≡ b → (b && (from == 0 && not (to == 0)))
        ≡ has_symbol syn (symbols_between l from to)
    by true o = sym (
        ap (λ xs. has_symbol syn xs) (part_is l from to o low)
        ∙ (list_any-append (same_symbol syn) (syn_part from to) (data_part l from to)
        ∙ (ap₂ (λ a b. a || b) (syn_part-syn from to) (ap (λ xs. has_symbol syn xs) (data_part-is l from to)
        ∙ syn-take (to - max from 1) (drop (from - max l.base 1) l.bytes) (l.fin && nat_le (from - max l.base 1)
        (length l.bytes)))
        ∙ or-false (from == 0 && not (to == 0)))))
    by false o = ap (λ xs. has_symbol syn xs) (sym (no_part l from to within o))

fin-tests : (first from to count : ℕ) → 1 ≤ first → first ≤ max from 1 →
    (nat_le (from - first) count && nat_lt (count - (from - first)) (to - max from 1))
    ≡ (nat_le from (first + count) && nat_lt (first + count) to)
fin-tests first from to count one low = bool-iff _ _
    (λ p. let parts = and_parts (nat_le (from - first) count) (nat_lt (count - (from - first)) (to - max from 1)) p in
    let a = leb-true (from - first) count parts.0 in
    let b = ltb-true (count - (from - first)) (to - max from 1) parts.1 in
    and_from (nat_le from (first + count)) (nat_lt (first + count) to) (le-leb from (first + count) (omega (
      arith,
      a,
      low,
      one,
    ))) (lt-ltb (first + count) to (omega (arith, a, b, low, one))))
    (λ p. let parts = and_parts (nat_le from (first + count)) (nat_lt (first + count) to) p in
    let a = leb-true from (first + count) parts.0 in
    let b = ltb-true (first + count) to parts.1 in
    and_from (nat_le (from - first) count) (nat_lt (count - (from - first)) (to - max from 1)) (le-leb
    (from - first) count (omega (arith, a, low, one))) (lt-ltb (count - (from - first)) (to - max from 1) (omega
    (arith, a, b, low, one))))

and_assoc : (a b c : Bool) → ((a && b) && c) ≡ (a && (b && c))
and_assoc true b c = refl
and_assoc false b c = refl

pub fin_between-is : (l : LineFields) (from to : ℕ) → IsWithin l → l.base ≤ from →
    (l.fin && (nat_le from (bytes_end l) && nat_lt (bytes_end l) to)) ≡ has_symbol fin (symbols_between l from to)
fin_between-is l from to within low = by (is_some l.opening) refl
  where
    by : (b : Bool) → is_some l.opening ≡ b → (l.fin && (nat_le from (bytes_end l) && nat_lt (bytes_end l) to))
        ≡ has_symbol fin (symbols_between l from to)
    by true o = sym (
        ap (λ xs. has_symbol fin xs) (part_is l from to o low)
        ∙ (list_any-append (same_symbol fin) (syn_part from to) (data_part l from to)
        ∙ (ap (λ b. b || has_symbol fin (data_part l from to)) (syn_part-fin from to)
        ∙ (ap (λ xs. has_symbol fin xs) (data_part-is l from to)
        ∙ (fin-take (to - max from 1) (drop (from - max l.base 1) l.bytes) (l.fin && nat_le (from - max l.base 1)
        (length l.bytes))
        ∙ (ap (λ (n : ℕ). (l.fin && nat_le (from - max l.base 1) (length l.bytes)) && nat_lt n (to - max from 1))
        (length-drop (from - max l.base 1) l.bytes)
        ∙ (and_assoc l.fin (nat_le (from - max l.base 1) (length l.bytes)) (nat_lt (length l.bytes -
        (from - max l.base 1)) (to - max from 1))
        ∙ ap (λ b. l.fin && b) (fin-tests (max l.base 1) from to (length l.bytes) (omega arith) (omega (
          arith,
          low,
        ))))))))))
    by false o = ap (λ b. b && (nat_le from (bytes_end l) && nat_lt (bytes_end l) to)) (within.no_fin o)
        ∙ ap (λ xs. has_symbol fin xs) (sym (no_part l from to within o))
