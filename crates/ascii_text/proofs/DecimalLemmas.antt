-- Decimal texts are those that std writes.
use Rattle.std.proofs.Common.{◌≡◌, ℕ, ◌<◌, ◌≤◌, ◌^◌, Bool, true, false, not, if◌then◌else◌, List, [], ◌∷◌, length, get_or, decimal, Result, Ok, Err, IfOk, eqb, ltb, refl, sym, ap, ◌∙◌, inl, inr, arith}
use Rattle.std.specs.Char.{is_digit, digit_value}
use Rattle.std.specs.List.{list_all}
use Rattle.std.specs.Str.Parse.{digits_value, AllDigits}
use Rattle.std.proofs.lemmas.Bool.{cases_lt, lt-ltb, ltb-true, ne_eqb, eqb-true, eqb-false, and_parts, or_right, or_cases, not_from_false, not-true}
use Rattle.std.proofs.lemmas.Str.Parse.{IsNumeralModel, numerals_by_value, tells_digits}
use Rattle.std.proofs.lemmas.Fmt.{decimal_digit, decimal_is_IsNumeral, first_decimal, decimal-digits_value}
use Rattle.ascii_text.specs.Numbers.{is_numeral, needs_each_digit, is_decimal, within, decimal_within}
use Rattle.ascii_text.specs.declared.numbers.NumberFault.{NumberFault}
use Rattle.ascii_text.specs.declared.numbers.NumberFault.TheVariants.{NoNumber, TooLarge}
use Rattle.ascii_text.proofs.ValueLemmas.{within_ok, within_large}

own : IsNumeralModel (AllDigits 10) (digits_value 10)
own = numerals_by_value (AllDigits 10) tells_digits

-- digits, as a test and as a fact
pub pass_digits : (base : ℕ) (text : List ℕ) → AllDigits base text → list_all (λ c. is_digit c base) text ≡ true
pass_digits base [] all = refl
pass_digits base (c ∷ text) all = rw (lt-ltb (digit_value c) base all.0, pass_digits base text all.1) refl

pub digits_pass : (base : ℕ) (text : List ℕ) → list_all (λ c. is_digit c base) text ≡ true → AllDigits base text
digits_pass base [] pass = tt
digits_pass base (c ∷ text) pass =
    let both = and_parts (is_digit c base) (list_all (λ x. is_digit x base) text) pass in
    (ltb-true (digit_value c) base both.0, digits_pass base text both.1)

-- a zero stands only alone
tight : (n : ℕ) → n < 2 ^ 64 → needs_each_digit (decimal n) ≡ true
tight n small =
    elim (cases_lt 0 n) [
      | inl some ↦ or_right (eqb (length (decimal n)) 1) (not (eqb (get_or (decimal n) 0 0) 48)) (not_from_false _
          (ne_eqb (get_or (decimal n) 0 0) 48 (λ e. omega (arith, first_decimal n some small))))
      | inr none ↦ let e : n ≡ 0 = omega arith in rw (e, decimal_digit 0 (omega arith)) refl
    ]

pub decimal_reads : (most n : ℕ) → n < 2 ^ 64 → decimal_within most (decimal n) ≡ within most n
decimal_reads most n small =
    let numeral = decimal_is_IsNumeral n small in
    rw (
      lt-ltb 0 (length (decimal n)) numeral.0.0,
      pass_digits 10 (decimal n) numeral.0.1,
      tight n small,
    ) (ap (λ (m : ℕ). within most m) numeral.1)

-- what a text that gave a number is
gave : (b : Bool) (most v n : ℕ) → (if b then within most v else Err NoNumber) ≡ Ok n →
    (b ≡ true) × (v ≡ n) × (v ≤ most)
gave false most v n e = cc
gave true most v n e =
    elim (cases_lt most v) [
      | inl large ↦ let h = rw (within_large most v large) at e in cc
      | inr small ↦ let h = rw (within_ok most v small) at e in let same : v ≡ n = cc in (refl, same, small)
    ]

zero_alone : (text : List ℕ) → needs_each_digit text ≡ true → get_or text 0 0 ≡ 48 → length text ≡ 1
zero_alone text needs e =
    elim (or_cases (eqb (length text) 1) (not (eqb (get_or text 0 0) 48)) needs) [
      | inl one ↦ eqb-true (length text) 1 one
      | inr other ↦ absurd (eqb-false (get_or text 0 0) 48 (not-true _ other) e)
    ]

pub decimal_written : (most : ℕ) (text : List ℕ) (n : ℕ) → n < 2 ^ 64 → decimal_within most text ≡ Ok n →
    text ≡ decimal n
decimal_written most text n small e =
    let given = gave (is_decimal text) most (digits_value 10 text) n e in
    let both = and_parts (is_numeral 10 text) (needs_each_digit text) given.0 in
    let parts = and_parts (ltb 0 (length text)) (list_all (λ c. is_digit c 10) text) both.0 in
    sym (decimal-digits_value own text (digits_pass 10 text parts.1) (ltb-true 0 (length text) parts.0)
    (zero_alone text both.1) (omega (arith, given.1))) ∙ ap (λ (m : ℕ). decimal m) given.1

pub decimal_small : (most : ℕ) (text : List ℕ) (n : ℕ) → decimal_within most text ≡ Ok n → n ≤ most
decimal_small most text n e = let given = gave (is_decimal text) most (digits_value 10 text) n e in omega (
  arith,
  given.1,
  given.2,
)

pub decimal_each : (most : ℕ) (text : List ℕ) (n : ℕ) → n < 2 ^ 64 → n ≤ most → text ≡ decimal n →
    decimal_within most text ≡ Ok n
decimal_each most text n small low e = ap (λ (t : List ℕ). decimal_within most t) e ∙ (decimal_reads most n small
    ∙ within_ok most n low)

pub decimal_large : (most : ℕ) (text : List ℕ) (n : ℕ) → n < 2 ^ 64 → most < n → text ≡ decimal n →
    decimal_within most text ≡ Err TooLarge
decimal_large most text n small high e = ap (λ (t : List ℕ). decimal_within most t) e
    ∙ (decimal_reads most n small ∙ within_large most n high)

pub written_result : (most : ℕ) (text : List ℕ) (r : Result ℕ NumberFault) → most < 2 ^ 64 →
    r ≡ decimal_within most text → IfOk r (λ n. text ≡ decimal n)
written_result most text (Err fault) below e = tt
written_result most text (Ok n) below e = decimal_written most text n (omega (
  arith,
  decimal_small most text n (sym e),
)) (sym e)
