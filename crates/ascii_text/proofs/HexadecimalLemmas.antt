-- Numbers that are written in hexadecimal digits are read again.
use Rattle.std.proofs.Common.{◌≡◌, ℕ, zero, suc, ◌+◌, ◌*◌, ◌/◌, ◌%◌, ◌^◌, ◌<◌, ◌≤◌, true, List, [], ◌∷◌, length, get_or, map, Ok, refl, ap, ◌∙◌, inl, inr, lit<, arith}
use Rattle.std.specs.Char.{digit_value, is_digit}
use Rattle.std.specs.List.{list_all}
use Rattle.std.specs.Int.Digits.{digits_of, number_from_digits, AllBelowBase}
use Rattle.std.specs.Str.Parse.{digits_value}
use Rattle.std.proofs.Math.Nat.{pow-suc}
use Rattle.std.proofs.lemmas.Bool.{ne_eqb, lt-ltb, le-ltb, cases_lt}
use Rattle.std.proofs.lemmas.Int.Digits.{digits_value_is, digits_value_push, number_digits_of, all_below_base_digits_of, first_digits_of}
use Rattle.std.proofs.lemmas.List.Folds.{list_all-append}
use Rattle.std.proofs.lemmas.List.{length-append}
use Rattle.ascii_text.specs.Numbers.{hexadecimal_within}
use Rattle.ascii_text.specs.Hexadecimal.{glyph, hexadecimal, hexadecimal_digits}
use Rattle.ascii_text.proofs.ValueLemmas.{within_ok}

-- a digit that is written has its value
pub glyph_value : (d : ℕ) → d < 16 → digit_value (glyph d) ≡ d
glyph_value d small =
    elim (cases_lt d 10) [
      | inl low ↦ rw (
        lt-ltb d 10 low,
        le-ltb (48 + d) 48 (omega arith),
        lt-ltb (48 + d) 58 (omega arith),
      ) (omega arith)
      | inr high ↦ rw (
        le-ltb d 10 high,
        le-ltb (55 + d) 48 (omega arith),
        le-ltb (55 + d) 58 (omega arith),
        le-ltb (55 + d) 65 (omega arith),
        lt-ltb (55 + d) 91 (omega arith),
      ) (omega arith)
    ]

glyph_is_digit : (d : ℕ) → d < 16 → is_digit (glyph d) 16 ≡ true
glyph_is_digit d small = lt-ltb _ _ (omega (arith, glyph_value d small))

are_digits : (ds : List ℕ) → AllBelowBase 16 ds → list_all (λ c. is_digit c 16) (map glyph ds) ≡ true
are_digits [] below = refl
are_digits (d ∷ ds) below = rw (glyph_is_digit d below.0, are_digits ds below.1) refl

values_again : (ds : List ℕ) → AllBelowBase 16 ds → map digit_value (map glyph ds) ≡ ds
values_again [] below = refl
values_again (d ∷ ds) below =
    ap (λ (x : ℕ). x ∷ map digit_value (map glyph ds)) (glyph_value d below.0)
    ∙ ap (λ (xs : List ℕ). d ∷ xs) (values_again ds below.1)

some_digits : (ds : List ℕ) → 0 < get_or ds 0 0 → 0 < length (map glyph ds)
some_digits [] some = absurd (omega arith)
some_digits (d ∷ ds) some = omega arith

-- what the digits of a number are
pub record IsWritten (n : ℕ) : Type 0 where
  pub some : 0 < length (hexadecimal n)
  pub digits : list_all (λ c. is_digit c 16) (hexadecimal n) ≡ true
  pub value : digits_value 16 (hexadecimal n) ≡ n

hexadecimal_zero : IsWritten 0
unfolding hexadecimal
hexadecimal_zero = record { some = lit< tt; digits = refl; value = refl }

hexadecimal_some : (n : ℕ) → 0 < n → hexadecimal n ≡ map glyph (digits_of 16 n)
unfolding hexadecimal
hexadecimal_some n some = rw (ne_eqb n 0 (omega arith)) refl

pub hexadecimal_written : (n : ℕ) → IsWritten n
hexadecimal_written n =
    elim (cases_lt 0 n) [
      | inl some ↦
          let e = hexadecimal_some n some in
          let below = all_below_base_digits_of 16 n (omega arith) in
          record {
            some = rw e (some_digits (digits_of 16 n) (first_digits_of 16 n (omega arith) some));
            digits = rw e (are_digits (digits_of 16 n) below);
            value = rw e (digits_value_is 16 (map glyph (digits_of 16 n))
                ∙ (ap (λ (ds : List ℕ). number_from_digits 16 ds) (values_again (digits_of 16 n) below)
                ∙ number_digits_of 16 n (omega arith)));
          }
      | inr none ↦ let e : n ≡ 0 = omega arith in rw e hexadecimal_zero
    ]

pub hexadecimal_again : (most n : ℕ) → n ≤ most → hexadecimal_within most (hexadecimal n) ≡ Ok n
hexadecimal_again most n small =
    let w = hexadecimal_written n in
    rw (lt-ltb 0 (length (hexadecimal n)) w.some, w.digits, w.value) (within_ok most n small)

-- eight digits of a word
pub hexadecimal_digits_are : (count n : ℕ) → list_all (λ c. is_digit c 16) (hexadecimal_digits count n) ≡ true
unfolding hexadecimal_digits
hexadecimal_digits_are zero n = refl
hexadecimal_digits_are (suc count) n =
    list_all-append (λ c. is_digit c 16) (hexadecimal_digits count (n / 16)) (glyph (n % 16) ∷ [])
    ∙ rw (hexadecimal_digits_are count (n / 16), glyph_is_digit (n % 16) (omega arith)) refl

length-hexadecimal_digits : (count n : ℕ) → length (hexadecimal_digits count n) ≡ count
unfolding hexadecimal_digits
length-hexadecimal_digits zero n = refl
length-hexadecimal_digits (suc count) n = omega (
  arith,
  length-append (hexadecimal_digits count (n / 16)) (glyph
      (n % 16) ∷ []),
  length-hexadecimal_digits count (n / 16),
)

pow_step : (count : ℕ) → 16 ^ suc count ≡ 16 ^ count * 16
pow_step count = pow-suc 16 count

hexadecimal_digits_value : (count n : ℕ) → n < 16 ^ count → digits_value 16 (hexadecimal_digits count n) ≡ n
unfolding hexadecimal_digits
hexadecimal_digits_value zero n below = omega arith
hexadecimal_digits_value (suc count) n below =
    let rest : n / 16 < 16 ^ count = omega (arith, pow_step count) in
    digits_value_push 16 (hexadecimal_digits count (n / 16)) (glyph (n % 16))
    ∙ rw (hexadecimal_digits_value count (n / 16) rest, glyph_value (n % 16) (omega arith)) (omega arith)

pub eight_digits_again : (most n : ℕ) → n ≤ most → n < 2 ^ 32 →
    hexadecimal_within most (hexadecimal_digits 8 n) ≡ Ok n
eight_digits_again most n small below =
    rw (
      lt-ltb 0 (length (hexadecimal_digits 8 n)) (omega (arith, length-hexadecimal_digits 8 n)),
      hexadecimal_digits_are 8 n,
      hexadecimal_digits_value 8 n (omega arith),
    ) (within_ok most n small)
