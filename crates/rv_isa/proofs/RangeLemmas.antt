-- What a word decodes to is within its fields, and is encodable.
use Rattle.std.proofs.Common.{◌≡◌, ℕ, ◌+◌, ◌*◌, ◌/◌, ◌<◌, ◌^◌, ◌%◌, ◌-◌, suc, negsuc, inl, inr, true, false, cond, pos, Option, Some, None, List, [], ◌∷◌, arith, rules, refl}
use Rattle.std.specs.Prelude.{IfSome}
use Rattle.std.proofs.lemmas.Int.{ints}
use Rattle.std.proofs.lemmas.Bool.{cases_lt}
use Rattle.rv_isa.proofs.SignLemmas.{signed_low, signed_high}
use Rattle.rv_isa.specs.declared.instr.Instr.{Instr}
use Rattle.rv_isa.specs.Fields.{signed, imm_i, imm_s, imm_b, imm_j}
use Rattle.rv_isa.specs.Table.{Row, table, fits, read_by, decode, IsEncodable}
use Rattle.rv_isa.specs.Ranges.{IsSigned, IsOffset, IsWithin}

signed_12 : (n : ℕ) → n < 2 ^ 12 → IsSigned 12 (signed 12 n)
signed_12 n l =
    elim (cases_lt n (2 ^ 11)) [
      | inl h ↦ let e : signed 12 n ≡ pos n = signed_low 12 n h in (omega (arith, ints), omega (arith, ints))
      | inr h ↦ let e : signed 12 n ≡ negsuc (2 ^ 12 - suc n) =
          signed_high 12 n h l in (omega (arith, ints), omega (arith, ints))
    ]

pub imm_i_within : (w : ℕ) → IsSigned 12 (imm_i w)
imm_i_within w = signed_12 (w / 2 ^ 20 % 2 ^ 12) (omega arith)

pub imm_s_within : (w : ℕ) → IsSigned 12 (imm_s w)
imm_s_within w = signed_12 (w / 2 ^ 25 % 2 ^ 7 * 2 ^ 5 + w / 2 ^ 7 % 2 ^ 5) (omega arith)

-- an even number has an even distance to 2 ^ k
offset_13 : (n : ℕ) → n < 2 ^ 13 → n % 2 ≡ 0 → IsOffset 13 (signed 13 n)
offset_13 n l even =
    elim (cases_lt n (2 ^ 12)) [
      | inl h ↦ let e : signed 13 n ≡ pos n =
          signed_low 13 n h in rw e ((omega (arith, ints), omega (arith, ints)), even)
      | inr h ↦ let e : signed 13 n ≡ negsuc (2 ^ 13 - suc n) =
          signed_high 13 n h l in rw e ((omega (arith, ints), omega (arith, ints)), omega arith)
    ]

offset_21 : (n : ℕ) → n < 2 ^ 21 → n % 2 ≡ 0 → IsOffset 21 (signed 21 n)
offset_21 n l even =
    elim (cases_lt n (2 ^ 20)) [
      | inl h ↦ let e : signed 21 n ≡ pos n =
          signed_low 21 n h in rw e ((omega (arith, ints), omega (arith, ints)), even)
      | inr h ↦ let e : signed 21 n ≡ negsuc (2 ^ 21 - suc n) =
          signed_high 21 n h l in rw e ((omega (arith, ints), omega (arith, ints)), omega arith)
    ]

pub imm_b_within : (w : ℕ) → IsOffset 13 (imm_b w)
imm_b_within w =
    offset_13
    (w / 2 ^ 31 % 2 ^ 1 * 2 ^ 12 + w / 2 ^ 7 % 2 ^ 1 * 2 ^ 11 + w / 2 ^ 25 % 2 ^ 6 * 2 ^ 5 + w / 2 ^ 8 % 2 ^ 4 * 2)
    (omega arith) (omega arith)

pub imm_j_within : (w : ℕ) → IsOffset 21 (imm_j w)
imm_j_within w =
    offset_21
    (w / 2 ^ 31 % 2 ^ 1 * 2 ^ 20 + w / 2 ^ 12 % 2 ^ 8 * 2 ^ 12 + w / 2 ^ 20 % 2 ^ 1 * 2 ^ 11 + w / 2 ^ 21 % 2 ^ 10 * 2)
    (omega arith) (omega arith)

-- each row reads what is within
abbrev ReadsWithin : ℕ → List Row → Type 0
ReadsWithin w [] = Unit {0}
ReadsWithin w (row ∷ rows) = IsWithin (row.read w) × ReadsWithin w rows

by_rows : (w : ℕ) (rows : List Row) → ReadsWithin w rows → IfSome (read_by rows w) IsWithin
unfolding read_by
by_rows w [] h = tt
by_rows w (row ∷ rows) h =
    elim (fits row w) as (λ b. IfSome (cond b (Some (row.read w)) (read_by rows w)) IsWithin) [
      | true ↦ h.0
      | false ↦ by_rows w rows h.1
    ]

table_within : (w : ℕ) → w < 2 ^ 32 → ReadsWithin w table
unfolding table
table_within w l = search (rules, arith, imm_i_within, imm_s_within, imm_b_within, imm_j_within)

pub within : (w : ℕ) → w < 2 ^ 32 → IfSome (decode w) IsWithin
unfolding decode
within w l = by_rows w table (table_within w l)

encodable_by : (w : ℕ) (o : Option Instr) → w < 2 ^ 32 → decode w ≡ o → IfSome o IsEncodable
encodable_by w None l e = tt
encodable_by w (Some i) l e = record { word = w; in_range = l; decodes = e }

pub encodable : (w : ℕ) → w < 2 ^ 32 → IfSome (decode w) IsEncodable
encodable w l = encodable_by w (decode w) l refl
