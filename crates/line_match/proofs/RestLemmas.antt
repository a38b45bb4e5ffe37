-- The symbols of a kept line from an offset on, as SYN, bytes and FIN.
use Rattle.std.proofs.Common.{◌≡◌, ℕ, ◌+◌, ◌-◌, ◌<◌, ◌≤◌, zero, suc, Bool, true, false, ◌&&◌, ◌==◌, nat_lt, nat_le, max, is_some, if◌then◌else◌, List, [], ◌∷◌, ◌++◌, length, map, drop, refl, sym, ap, ◌∙◌, arith}
use Rattle.std.proofs.lemmas.Bool.{ltb-true, ltb-false, eqb-true}
use Rattle.tcp_track.specs.Segments.{Symbol, syn, byte, fin_if, syn_if}
use Rattle.tcp_track.specs.LineFields.{LineFields, syn_kept}
use Rattle.line_release.specs.Whole.{whole_of}
use Rattle.tcp_track.proofs.TyingLemmas.{drop-payload, drop-syn}
use Rattle.line_release.proofs.PartLemmas.{from-kept}
use Rattle.line_match.specs.Rest.{bytes_from, ends_from}

pub not_zero : (n : ℕ) → 0 < n → (n == 0) ≡ false
not_zero n h = by_test (n == 0) refl
  where
    by_test : (b : Bool) → (n == 0) ≡ b → b ≡ false
    by_test true p = absurd (omega (arith, h, eqb-true n 0 p))
    by_test false p = refl

-- bytes and FIN
abbrev pub data_of : LineFields → List Symbol
data_of l = map byte l.bytes ++ fin_if l.fin

place_at_start : (l : LineFields) → is_some l.opening ≡ true → l.base ≡ 0 →
    drop (0 - l.base) (syn_kept l ++ data_of l) ≡ syn ∷ drop (0 - max l.base 1) (data_of l)
place_at_start l o z =
    let front : syn_kept l ≡ syn ∷ [] = (λ i. if o i && (z i == 0) then syn ∷ [] else []) in
    let none : 0 - max l.base 1 ≡ 0 = omega arith in
    let gone : 0 - l.base ≡ 0 = omega arith in
    ap (λ (n : ℕ). drop n (syn_kept l ++ data_of l)) gone
    ∙ (ap (λ (xs : List Symbol). xs ++ data_of l) front ∙ sym (ap (λ (n : ℕ). syn ∷ drop n (data_of l)) none))

pub place_later : (l : LineFields) (from : ℕ) → is_some l.opening ≡ true → l.base ≤ from → 0 < from →
    drop (from - l.base) (syn_kept l ++ data_of l) ≡ drop (from - max l.base 1) (data_of l)
place_later l from o low later = by (nat_lt l.base from) refl
  where
    by : (b : Bool) → nat_lt l.base from ≡ b → drop (from - l.base) (syn_kept l ++ data_of l)
        ≡ drop (from - max l.base 1) (data_of l)
    by true p = drop-syn l.base from (is_some l.opening) (data_of l) (ltb-true l.base from p) o
    by false p =
        let same : l.base ≡ from = omega (arith, low, ltb-false l.base from p) in
        let none : from - l.base ≡ 0 = omega (arith, same) in
        let gone : from - max l.base 1 ≡ 0 = omega (arith, same, later) in
        let some : (l.base == 0) ≡ false = not_zero l.base (omega (arith, same, later)) in
        (λ i. drop (none i) ((if o i && some i then syn ∷ [] else []) ++ data_of l))
        ∙ sym (ap (λ (n : ℕ). drop n (data_of l)) gone)

place_is : (l : LineFields) (from : ℕ) → is_some l.opening ≡ true → l.base ≤ from →
    drop (from - l.base) (syn_kept l ++ data_of l)
    ≡ syn_if (from == 0) ++ drop (from - max l.base 1) (data_of l)
place_is l zero o low = place_at_start l o (omega (arith, low))
place_is l (suc k) o low = place_later l (suc k) o low (omega arith)
    ∙ sym (ap (λ (b : Bool). syn_if b ++ drop (suc k - max l.base 1) (data_of l)) (not_zero (suc k) (omega arith)))

-- from an offset on, from which nothing is forgotten
pub rest_is : (l : LineFields) (from : ℕ) → is_some l.opening ≡ true → l.base ≤ from →
    drop from (whole_of l).symbols
    ≡ syn_if (from == 0) ++ (map byte (bytes_from l from) ++ fin_if (ends_from l from))
rest_is l from o low = from-kept l from o low ∙ (place_is l from o low
    ∙ ap (λ (xs : List Symbol). syn_if (from == 0) ++ xs) (drop-payload (from - max l.base 1) l.bytes l.fin))
