-- The two words of a load.
use Rattle.std.proofs.Common.{◌≡◌, ℕ, suc, ◌+◌, ◌*◌, ◌-◌, ◌%◌, ◌^◌, ◌<◌, pos, negsuc, ap, inl, inr, arith}
use Rattle.std.proofs.lemmas.Bool.{cases_lt}
use Rattle.std.proofs.lemmas.Int.{ints}
use Rattle.rv_isa.specs.Fields.{signed}
use Rattle.rv_isa.specs.Ranges.{IsSigned}
use Rattle.rv_isa.specs.Table.{IsEncodable}
use Rattle.rv_isa.specs.Words.{unsigned}
use Rattle.rv_isa.specs.declared.instr.Instr.TheVariants.{Lui, Addi}
use Rattle.rv_isa.proofs.EncodeLemmas.{encodable_in_range}
use Rattle.rv_isa.proofs.SignLemmas.{signed_low, signed_high}
use Rattle.rv_asm.specs.Statements.{upper_part, lower_part}

signed_12 : (n : ℕ) → n < 2 ^ 12 → IsSigned 12 (signed 12 n)
signed_12 n l =
    elim (cases_lt n (2 ^ 11)) [
      | inl h ↦ let e : signed 12 n ≡ pos n = signed_low 12 n h in (omega (arith, ints), omega (arith, ints))
      | inr h ↦ let e : signed 12 n ≡ negsuc (2 ^ 12 - suc n) = signed_high 12 n h l in (
        omega (arith, ints),
        omega (arith, ints),
      )
    ]

pub lower_signed : (value : ℕ) → IsSigned 12 (lower_part value)
lower_signed value = signed_12 (value % 2 ^ 12) (omega arith)

pub upper_encodable : (rd value : ℕ) → rd < 32 → IsEncodable (Lui rd (upper_part value))
upper_encodable rd value h = encodable_in_range (Lui rd (upper_part value)) (h, omega arith)

pub lower_encodable : (rd value : ℕ) → rd < 32 → IsEncodable (Addi rd rd (lower_part value))
lower_encodable rd value h = encodable_in_range (Addi rd rd (lower_part value)) (h, h, lower_signed value)

-- both parts give the number
pub parts_sum : (n : ℕ) → n < 2 ^ 32 → (upper_part n * 2 ^ 12 + unsigned 32 (lower_part n)) % 2 ^ 32 ≡ n
parts_sum n below =
    elim (cases_lt (n % 2 ^ 12) (2 ^ 11)) [
      | inl low ↦
          let e : unsigned 32 (lower_part n) ≡ n % 2 ^ 12 = ap (unsigned 32) (signed_low 12 (n % 2 ^ 12) low) in
          rw e (omega arith)
      | inr high ↦
          let e : unsigned 32 (lower_part n) ≡ 2 ^ 32 - suc (2 ^ 12 - suc (n % 2 ^ 12)) = ap (unsigned 32)
          (signed_high 12 (n % 2 ^ 12) high (omega arith)) in
          rw e (omega arith)
    ]
