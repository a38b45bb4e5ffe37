-- The text of a word is a statement that stands for it.
use Rattle.std.proofs.Common.{◌≡◌, ℕ, suc, ◌+◌, ◌%◌, ◌^◌, ◌<◌, ◌≤◌, true, false, ℤ, pos, negsuc, List, [], ◌∷◌, ◌++◌, get_or, Option, Some, Ok, decimal, append_assoc, refl, ◌∙◌, inl, inr, arith}
use Rattle.std.specs.Prelude.{neg_ℤ, ◌≤ℤ◌, ◌<ℤ◌, unsigned_abs}
use Rattle.std.proofs.lemmas.Bool.{ne_eqb, cases_lt}
use Rattle.std.proofs.lemmas.Fmt.{decimal_digit, first_decimal}
use Rattle.std.proofs.lemmas.Int.{ints}
use Rattle.shared_definitions.specs.Ascii.{space, minus}
use Rattle.ascii_text.specs.Numbers.{decimal_within}
use Rattle.ascii_text.proofs.DecimalLemmas.{decimal_each}
use Rattle.ascii_text.proofs.HexadecimalLemmas.{hexadecimal_again, eight_digits_again}
use Rattle.rv_isa.specs.Ranges.{IsSigned}
use Rattle.rv_forms.specs.declared.kinds.Operands.{Operands}
use Rattle.rv_forms.specs.declared.kinds.Kind.{Kind}
use Rattle.rv_forms.specs.declared.kinds.Kind.TheVariants as kinds
use Rattle.rv_forms.specs.Ranges.{IsInRange, AreInRange}
use Rattle.rv_asm.specs.declared.reading.Number.{Number}
use Rattle.rv_asm.specs.Grammar.{IsSignedText, IsUnsignedText, IsTargetText, IsWordText, IsBracketText, IsOperandText, AreOperandTexts, IsStatementText}
use Rattle.rv_asm.specs.Reading.{with_sign, number_within, register_of}
use Rattle.rv_asm.specs.Texts.{register_text, signed_text, upper_text, bracket_text, word_text, operand_text, operand_texts, statement_text}

-- a statement after other text
pub after_text : (front name : List ℕ) (kinds : List Kind) (f : Operands) →
    statement_text (front ++ name) kinds f ≡ front ++ statement_text name kinds f
unfolding statement_text
after_text front name [] f = refl
after_text front name (kind ∷ more) f = append_assoc front name (space ∷ operand_texts kind more f)

-- ---- numbers and registers

register_written : (r : ℕ) → r < 32 → register_of (register_text r) ≡ Some r
unfolding register_of
register_written r small = rw (decimal_each 31 (decimal r) r (omega arith) (omega arith) refl) refl

-- a decimal number has no sign, and no `0x` in front
number_plain : (low high n : ℕ) → n < 2 ^ 64 → number_within low high (decimal n)
    ≡ with_sign false (decimal_within high (decimal n))
unfolding number_within
number_plain low high n small =
    elim (cases_lt 0 n) [
      | inl some ↦ rw (
        ne_eqb (get_or (decimal n) 0 0) minus (λ e. omega (arith, e, first_decimal n some small)),
        ne_eqb (get_or (decimal n) 0 0) 48 (λ e. omega (arith, e, first_decimal n some small)),
      ) refl
      | inr none ↦ let e : n ≡ 0 = omega arith in rw (e, decimal_digit 0 (omega arith)) refl
    ]

abbrev plain : ℕ → Number
plain n = record { negative = false; magnitude = n }

decimal_written : (low high n : ℕ) → n ≤ high → n < 2 ^ 64 → number_within low high (decimal n) ≡ Ok (plain n)
decimal_written low high n small fits = number_plain low high n fits
    ∙ rw (decimal_each high (decimal n) n fits small refl) refl

negative_written : (low high n : ℕ) → n ≤ low → n < 2 ^ 64 →
    number_within low high (minus ∷ decimal n) ≡ Ok (record { negative = true; magnitude = n })
unfolding number_within
negative_written low high n small fits = rw (decimal_each low (decimal n) n fits small refl) refl

upper_written : (low high n : ℕ) → n ≤ high → number_within low high (upper_text n) ≡ Ok (plain n)
unfolding number_within
upper_written low high n small = rw (hexadecimal_again high n small) refl

word_written : (low high n : ℕ) → n ≤ high → n < 2 ^ 32 → number_within low high (word_text n) ≡ Ok (plain n)
unfolding number_within
word_written low high n small fits = rw (eight_digits_again high n small fits) refl

signed_written : (z : ℤ) → IsSigned 12 z → IsSignedText (signed_text z) z
signed_written (pos n) h = let le : n ≤ 2047 = omega (arith, ints, h.1) in (
  plain n,
  decimal_written 2048 2047 n le (omega arith),
  refl,
)
signed_written (negsuc n) h = let le : suc n ≤ 2048 = omega (
  arith,
  ints,
  h.0,
) in (record { negative = true; magnitude = suc n }, negative_written 2048 2047 (suc n) le (omega arith), refl)

target_written : (places : List ℕ → Option ℕ) (here low high half : ℕ) (z : ℤ) → low ≡ half → high + 2 ≡ half →
    half % 2 ≡ 0 → half < 2 ^ 32 → neg_ℤ (pos half) ≤ℤ z → z <ℤ pos half → unsigned_abs z % 2 ≡ 0 →
    IsTargetText places here low high (signed_text z) z
target_written places here low high half (pos n) l h even small from to o =
    let below : n < half = omega (arith, ints, to) in
    let le : n ≤ high = omega (arith, below, o) in
    inl (plain n, decimal_written low high n le (omega arith), o, refl)
target_written places here low high half (negsuc n) l h even small from to o =
    let le : suc n ≤ low = omega (arith, ints, from) in
    inl (record { negative = true; magnitude = suc n }, negative_written low high (suc n) le (omega arith), o, refl)

unsigned_written : (high n : ℕ) → n ≤ high → n < 2 ^ 64 → IsUnsignedText high (decimal n) n
unsigned_written high n small fits = (plain n, decimal_written 0 high n small fits, refl)

upper_is_unsigned : (high n : ℕ) → n ≤ high → IsUnsignedText high (upper_text n) n
upper_is_unsigned high n small = (plain n, upper_written 0 high n small, refl)

word_is_word : (n : ℕ) → n < 2 ^ 32 → IsWordText (word_text n) n
word_is_word n fits = (plain n, word_written _ _ n (omega arith) fits, refl)

bracket_written : (r : ℕ) → r < 32 → IsBracketText (bracket_text r) r
bracket_written r small = (register_text r, refl, register_written r small)

-- ---- operands

operand_written : (places : List ℕ → Option ℕ) (here : ℕ) (kind : Kind) (f : Operands) → IsInRange kind f →
    IsOperandText places here kind (operand_text kind f) f
unfolding operand_text
operand_written places here kinds.Rd f h = register_written f.rd h
operand_written places here kinds.Rs1 f h = register_written f.rs1 h
operand_written places here kinds.Rs2 f h = register_written f.rs2 h
operand_written places here kinds.Immediate f h = signed_written f.imm h
operand_written places here kinds.Shift f h = unsigned_written 31 f.rs2 (omega arith) (omega arith)
operand_written places here kinds.Small f h = unsigned_written 31 f.rs1 (omega arith) (omega arith)
operand_written places here kinds.Csr f h = upper_is_unsigned 4095 f.wide (omega arith)
operand_written places here kinds.Upper f h = upper_is_unsigned 0xFFFFF f.wide (omega arith)
operand_written places here kinds.Branch f h = target_written places here 4096 4094 4096 f.imm refl refl refl
    (omega arith) h.0.0 h.0.1 h.1
operand_written places here kinds.Jump f h = target_written places here 1048576 1048574 1048576 f.imm refl refl refl
    (omega arith) h.0.0 h.0.1 h.1
operand_written places here kinds.Address f h = (
  signed_text f.imm,
  bracket_text f.rs1,
  refl,
  signed_written f.imm h.0,
  bracket_written f.rs1 h.1,
)
operand_written places here kinds.Base f h = bracket_written f.rs1 h
operand_written places here kinds.Word f h = word_is_word f.wide h
operand_written places here kinds.Value f h = inl (word_is_word f.wide h)

operands_written : (places : List ℕ → Option ℕ) (here : ℕ) (kind : Kind) (more : List Kind) (f : Operands) →
    AreInRange (kind ∷ more) f → AreOperandTexts places here kind more (operand_texts kind more f) f
unfolding operand_texts
operands_written places here kind [] f h = operand_written places here kind f h.0
operands_written places here kind (next ∷ more) f h = (
  operand_text kind f,
  operand_texts next more f,
  refl,
  operand_written places here kind f h.0,
  operands_written places here next more f h.1,
)

pub statement_written : (places : List ℕ → Option ℕ) (here : ℕ) (name : List ℕ) (kinds : List Kind) (f : Operands) →
    AreInRange kinds f → IsStatementText places here name kinds (statement_text name kinds f) f
unfolding statement_text
statement_written places here name [] f h = refl
statement_written places here name (kind ∷ more) f h = (
  operand_texts kind more f,
  refl,
  operands_written places here kind more f h,
)
