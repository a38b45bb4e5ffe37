-- Digits, from the last one on.
use Rattle.std.proofs.Common.{◌≡◌, ℕ, zero, suc, ◌/◌, ◌%◌, ◌<◌, ◌≤◌, ◌-◌, List, [], ◌∷◌, ◌++◌, map, refl, ap, ◌∙◌, append_assoc, inl, inr, arith}
use Rattle.std.specs.Int.Digits.{digits_of}
use Rattle.std.proofs.Math.Nat.{div-eq_of_lt, mod-eq_of_lt}
use Rattle.std.proofs.lemmas.Bool.{ne_eqb, cases_lt}
use Rattle.std.proofs.lemmas.Int.Digits.{digits_of_step}
use Rattle.std.proofs.lemmas.List.{map-append}
use Rattle.ascii_text.specs.Hexadecimal.{glyph, hexadecimal, hexadecimal_digits}

pub hexadecimal_more : (n : ℕ) → 16 ≤ n → hexadecimal n ≡ hexadecimal (n / 16) ++ glyph (n % 16) ∷ []
unfolding hexadecimal
hexadecimal_more n le = rw (
  ne_eqb n 0 (omega arith),
  ne_eqb (n / 16) 0 (omega arith),
  digits_of_step 16 n (omega arith) (omega arith),
) (map-append glyph (digits_of 16 (n / 16)) (n % 16 ∷ []))

pub hexadecimal_one : (n : ℕ) → n < 16 → hexadecimal n ≡ glyph n ∷ []
unfolding hexadecimal
hexadecimal_one n lt =
    elim (cases_lt 0 n) [
      | inl some ↦
          let digits : digits_of 16 n ≡ n ∷ [] = digits_of_step 16 n (omega arith) some
          ∙ rw (div-eq_of_lt lt, mod-eq_of_lt lt) refl in
          rw (ne_eqb n 0 (omega arith)) (ap (map glyph) digits)
      | inr none ↦
          let nothing : n ≡ 0 = omega arith in
          rw nothing refl
    ]

pub hexadecimal_digits_more : (count n : ℕ) → 0 < count → hexadecimal_digits count n
    ≡ hexadecimal_digits (count - 1) (n / 16) ++ glyph (n % 16) ∷ []
unfolding hexadecimal_digits
hexadecimal_digits_more zero n some = absurd (omega arith)
hexadecimal_digits_more (suc count) n some =
    let e : suc count - 1 ≡ count = omega arith in
    rw e refl

pub hexadecimal_digits_none : (n : ℕ) → hexadecimal_digits 0 n ≡ []
unfolding hexadecimal_digits
hexadecimal_digits_none n = refl

-- digits, and then one more
pub pushed : (old middle new front : List ℕ) (encoded : List ℕ) (digit : ℕ) → middle ≡ old ++ front →
    new ≡ middle ++ encoded → encoded ≡ digit ∷ [] → new ≡ old ++ (front ++ digit ∷ [])
pushed old middle new front encoded digit first then_one alone = then_one
    ∙ rw (first, alone) (append_assoc old front (digit ∷ []))
