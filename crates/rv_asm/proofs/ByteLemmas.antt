-- The bytes of what a text writes: none of them ends an operand, a name or a line.
use Rattle.std.proofs.Common.{◌≡◌, ℕ, ◌+◌, ◌-◌, ◌<◌, ◌≤◌, Bool, true, false, cond, ◌&&◌, ◌||◌, List, [], ◌∷◌, ◌++◌, length, get_or, drop, Option, Some, None, Result, Ok, Err, eqb, ltb, leb, refl, ap, ◌∙◌, arith}
use Rattle.std.specs.Prelude.{option_map}
use Rattle.std.specs.Result.{result_ok}
use Rattle.std.specs.Char.{digit_value, is_digit, is_ascii_alphabetic, is_ascii_alphanumeric}
use Rattle.std.specs.Int.{is_in_range}
use Rattle.std.specs.List.{list_all}
use Rattle.std.specs.Str.Parse.{digits_value}
use Rattle.std.proofs.lemmas.Bool.{and_parts, leb-true, eqb-true, ltb-true, ltb-false, le-leb}
use Rattle.std.proofs.lemmas.List.Folds.{list_all-append}
use Rattle.shared_definitions.specs.Ascii.{minus, digit_zero, letter_a, letter_x, underscore, left_parenthesis, right_parenthesis}
use Rattle.ascii_text.specs.declared.numbers.NumberFault.{NumberFault}
use Rattle.ascii_text.specs.declared.numbers.NumberFault.TheVariants.{NoNumber, TooLarge}
use Rattle.ascii_text.specs.Numbers.{is_numeral, needs_each_digit, is_decimal, within, decimal_within, hexadecimal_within}
use Rattle.rv_asm.specs.declared.reading.Number.{Number}
use Rattle.rv_asm.specs.Reading.{with_sign, number_within, register_of, is_label, is_label_byte}

-- ---- a text that has such bytes alone

pub weaken : (P Q : ℕ → Bool) (xs : List ℕ) → ((c : ℕ) → P c ≡ true → Q c ≡ true) → list_all P xs ≡ true →
    list_all Q xs ≡ true
weaken P Q [] within all = refl
weaken P Q (x ∷ xs) within all = let b = and_parts (P x) (list_all P xs) all in rw (
  within x b.0,
  weaken P Q xs within b.1,
) refl

pub joined_all : (P : ℕ → Bool) (xs ys : List ℕ) → list_all P xs ≡ true → list_all P ys ≡ true →
    list_all P (xs ++ ys) ≡ true
joined_all P xs ys a b = list_all-append P xs ys ∙ rw (a, b) refl

-- ---- digits

abbrev large_result : Result ℕ NumberFault
large_result = Err TooLarge

middle : (a c : Bool) → ((a || true) || c) ≡ true
middle true c = refl
middle false c = refl

last_one : (a : Bool) → (a || true) ≡ true
last_one true = refl
last_one false = refl

upper_case_letter : (c : ℕ) → 65 ≤ c → c ≤ 90 → is_ascii_alphanumeric c ≡ true
upper_case_letter c a b = rw (le-leb 65 c a, le-leb c 90 b) (middle (leb 48 c && leb c 57) (leb 97 c && leb c 122))

lower_case_letter : (c : ℕ) → 97 ≤ c → c ≤ 122 → is_ascii_alphanumeric c ≡ true
lower_case_letter c a b = rw (le-leb 97 c a, le-leb c 122 b) (last_one ((leb 48 c && leb c 57) ||
    (leb 65 c && leb c 90)))

digit_alphanumeric : (c : ℕ) → digit_value c < 16 → is_ascii_alphanumeric c ≡ true
digit_alphanumeric c h = by (ltb c 48) (ltb c 58) (ltb c 65) (ltb c 91) (ltb c 97) (ltb c 123) refl refl refl refl refl
    refl h
  where
    by : (p q r s t u : Bool) → ltb c 48 ≡ p → ltb c 58 ≡ q → ltb c 65 ≡ r → ltb c 91 ≡ s → ltb c 97 ≡ t → ltb c 123
        ≡ u → cond p 36 (cond q (c - 48) (cond r 36 (cond s (c - 55) (cond t 36 (cond u (c - 87) 36))))) < 16 →
        is_ascii_alphanumeric c ≡ true
    by true q r s t u a b d f g i k = absurd (omega (arith, k))
    by false true r s t u a b d f g i k = rw (
      le-leb 48 c (ltb-false c 48 a),
      le-leb c 57 (omega (
        arith,
        ltb-true c
            58 b,
      )),
    ) refl
    by false false true s t u a b d f g i k = absurd (omega (arith, k))
    by false false false true t u a b d f g i k = upper_case_letter c (ltb-false c 65 d) (omega (
      arith,
      ltb-true c
          91 f,
    ))
    by false false false false true u a b d f g i k = absurd (omega (arith, k))
    by false false false false false true a b d f g i k = lower_case_letter c (ltb-false c 97 g) (omega (
      arith,
      ltb-true
          c 123 i,
    ))
    by false false false false false false a b d f g i k = absurd (omega (arith, k))

given : (b : Bool) (most v n : ℕ) → cond b (within most v) (Err NoNumber) ≡ Ok n → (b ≡ true) × (n ≤ most)
given false most v n e = absurd cc
given true most v n e = by (leb v most) refl e
  where
    by : (b : Bool) → leb v most ≡ b → cond b (Ok v) large_result ≡ Ok n → (true ≡ true) × (n ≤ most)
    by false is h = absurd cc
    by true is h = let same : v ≡ n = cc in (refl, omega (arith, leb-true v most is))

numeral_bytes : (base : ℕ) (ds : List ℕ) → base ≤ 16 → is_numeral base ds ≡ true →
    list_all is_ascii_alphanumeric ds ≡ true
numeral_bytes base ds small e =
    weaken (λ c. is_digit c base) is_ascii_alphanumeric ds (λ c h. digit_alphanumeric c (omega (
      arith,
      ltb-true _ _ h,
    ))) (and_parts (ltb 0 (length ds)) (list_all (λ c. is_digit c base) ds) e).1

decimal_facts : (most : ℕ) (ds : List ℕ) (n : ℕ) → decimal_within most ds ≡ Ok n →
    (n ≤ most) × (list_all is_ascii_alphanumeric ds ≡ true)
decimal_facts most ds n e =
    let g = given (is_decimal ds) most (digits_value 10 ds) n e in
    (g.1, numeral_bytes 10 ds (omega arith) (and_parts (is_numeral 10 ds) (needs_each_digit ds) g.0).0)

hexadecimal_facts : (most : ℕ) (ds : List ℕ) (n : ℕ) → hexadecimal_within most ds ≡ Ok n →
    (n ≤ most) × (list_all is_ascii_alphanumeric ds ≡ true)
hexadecimal_facts most ds n e = let g = given (is_numeral 16 ds) most (digits_value 16 ds) n e in (
  g.1,
  numeral_bytes 16 ds (omega arith) g.0,
)

-- ---- registers

some_ok : (r : Result ℕ NumberFault) (n : ℕ) → result_ok r ≡ Some n → r ≡ Ok n
some_ok (Ok m) n e = cc
some_ok (Err fault) n e = absurd cc

mapped_some : (o : Option ℕ) (n : ℕ) → option_map (λ k. 10 + k) o ≡ Some n → (m : ℕ) × (o ≡ Some m) × (10 + m ≡ n)
mapped_some None n e = absurd cc
mapped_some (Some m) n e = (m, refl, cc)

-- its number and its bytes
pub register_facts : (text : List ℕ) (r : ℕ) → register_of text ≡ Some r →
    (r < 32) × (list_all is_ascii_alphanumeric text ≡ true)
unfolding register_of
register_facts [] r e = absurd cc
register_facts (c ∷ cs) r e = by (eqb c letter_x) (eqb c letter_a) refl refl e
  where
    by : (b d : Bool) → eqb c letter_x ≡ b → eqb c letter_a ≡ d → cond b (result_ok (decimal_within 31 cs)) (cond d
        (option_map (λ n. 10 + n) (result_ok (decimal_within 7 cs))) None) ≡ Some r →
        (r < 32) × (list_all is_ascii_alphanumeric (c ∷ cs) ≡ true)
    by true d x y h =
        let f = decimal_facts 31 cs r (some_ok (decimal_within 31 cs) r h) in
        (omega (arith, f.0), rw (eqb-true c letter_x x, f.1) refl)
    by false true x y h =
        let k = mapped_some (result_ok (decimal_within 7 cs)) r h in
        let f = decimal_facts 7 cs k.0 (some_ok (decimal_within 7 cs) k.0 k.1) in
        (omega (arith, f.0, k.2), rw (eqb-true c letter_a y, f.1) refl)
    by false false x y h = absurd cc

-- ---- numbers

abbrev pub is_number_byte : ℕ → Bool
is_number_byte c = is_ascii_alphanumeric c || eqb c minus

as_number : (xs : List ℕ) → list_all is_ascii_alphanumeric xs ≡ true → list_all is_number_byte xs ≡ true
as_number xs all = weaken is_ascii_alphanumeric is_number_byte xs (λ c e. rw e refl) all

signed_as : (negative : Bool) (r : Result ℕ NumberFault) (n : Number) → with_sign negative r ≡ Ok n →
    (r ≡ Ok n.magnitude) × (negative ≡ n.negative)
signed_as negative (Ok m) n e = let same : record { negative = negative; magnitude = m } ≡ n = cc in
    (ap (λ (x : Number). Ok x.magnitude) same, ap (λ (x : Number). x.negative) same)
signed_as negative (Err fault) n e = absurd cc

-- its magnitude and its bytes
pub number_facts : (low high : ℕ) (text : List ℕ) (n : Number) → number_within low high text ≡ Ok n →
    (n.magnitude ≤ cond n.negative low high) × (list_all is_number_byte text ≡ true)
unfolding number_within
number_facts low high [] n e = absurd cc
number_facts low high (c ∷ cs) n e = by (eqb c minus) (eqb c digit_zero && eqb (get_or cs 0 0) letter_x) refl refl e
  where
    prefixed : (ds : List ℕ) → c ≡ digit_zero → get_or ds 0 0 ≡ letter_x →
        list_all is_ascii_alphanumeric (drop 1 ds) ≡ true → list_all is_number_byte (c ∷ ds) ≡ true
    prefixed [] zero x all = absurd (omega (arith, x))
    prefixed (d ∷ ds) zero x all = rw (zero, x, as_number ds all) refl

    by : (b d : Bool) → eqb c minus ≡ b → (eqb c digit_zero && eqb (get_or cs 0 0) letter_x) ≡ d → cond b
        (with_sign true (decimal_within low cs)) (cond d (with_sign false (hexadecimal_within high (drop 1 cs)))
        (with_sign false (decimal_within high (c ∷ cs)))) ≡ Ok n →
        (n.magnitude ≤ cond n.negative low high) × (list_all is_number_byte (c ∷ cs) ≡ true)
    by true d x y h =
        let s = signed_as true (decimal_within low cs) n h in
        let f = decimal_facts low cs n.magnitude s.0 in
        (rw (← s.1) f.0, rw (eqb-true c minus x, as_number cs f.1) refl)
    by false true x y h =
        let s = signed_as false (hexadecimal_within high (drop 1 cs)) n h in
        let f = hexadecimal_facts high (drop 1 cs) n.magnitude s.0 in
        let b = and_parts (eqb c digit_zero) (eqb (get_or cs 0 0) letter_x) y in
        (rw (← s.1) f.0, prefixed cs (eqb-true c digit_zero b.0) (eqb-true (get_or cs 0 0) letter_x b.1) f.1)
    by false false x y h =
        let s = signed_as false (decimal_within high (c ∷ cs)) n h in
        let f = decimal_facts high (c ∷ cs) n.magnitude s.0 in
        (rw (← s.1) f.0, as_number (c ∷ cs) f.1)

-- ---- operands

abbrev pub is_operand_byte : ℕ → Bool
is_operand_byte c = is_ascii_alphanumeric c || (eqb c minus || (eqb c underscore ||
    (eqb c left_parenthesis || eqb c right_parenthesis)))

pub as_operand : (xs : List ℕ) → list_all is_ascii_alphanumeric xs ≡ true → list_all is_operand_byte xs ≡ true
as_operand xs all = weaken is_ascii_alphanumeric is_operand_byte xs (λ c e. rw e refl) all

number_operand : (a b c : Bool) → (a || b) ≡ true → (a || (b || c)) ≡ true
number_operand true b c e = refl
number_operand false true c e = refl
number_operand false false c e = absurd cc

pub number_is_operand : (xs : List ℕ) → list_all is_number_byte xs ≡ true → list_all is_operand_byte xs ≡ true
number_is_operand xs all = weaken is_number_byte is_operand_byte xs (λ c e. number_operand
    (is_ascii_alphanumeric c) (eqb c minus) (eqb c underscore ||
    (eqb c left_parenthesis || eqb c right_parenthesis)) e) all

letter_alphanumeric : (a b c : Bool) → (b || c) ≡ true → ((a || b) || c) ≡ true
letter_alphanumeric true b c e = refl
letter_alphanumeric false b c e = e

label_operand : (a b c d : Bool) → (a || c) ≡ true → (a || (b || (c || d))) ≡ true
label_operand true b c d e = refl
label_operand false true c d e = refl
label_operand false false true d e = refl
label_operand false false false d e = absurd cc

pub label_bytes : (text : List ℕ) → is_label text ≡ true → list_all is_operand_byte text ≡ true
label_bytes [] e = absurd cc
label_bytes (c ∷ cs) e =
    let h = and_parts (is_ascii_alphabetic c) (list_all is_label_byte cs) e in
    let first : is_ascii_alphanumeric c ≡ true = letter_alphanumeric (is_in_range 48 57 c) (is_in_range 65 90 c)
    (is_in_range 97 122 c) h.0 in
    let rest : list_all is_operand_byte cs ≡ true = weaken is_label_byte is_operand_byte cs (λ x k. label_operand
    (is_ascii_alphanumeric x) (eqb x minus) (eqb x underscore)
    (eqb x left_parenthesis || eqb x right_parenthesis) k) h.1 in
    rw (first, rest) refl
