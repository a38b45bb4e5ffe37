-- A word of each format: it has the bits that its row fixes, and each field as it was put in.
use Rattle.std.proofs.Common.{◌≡◌, ℕ, ◌+◌, ◌*◌, ◌/◌, ◌%◌, ◌<◌, ◌^◌, Bool, true, false, cond, ℤ, bit_and, sym, ap, subst, ◌∙◌, arith, lit<, refl}
use Rattle.std.specs.Prelude.{◌==◌}
use Rattle.rv_isa.specs.Fields.{bits_at, signed, rd, rs1, rs2, imm_i, imm_s, imm_b, imm_u, imm_j, csr, aq, rl, rest}
use Rattle.rv_isa.specs.Ranges.{IsSigned, IsOffset}
use Rattle.rv_isa.specs.Words.{unsigned, in_aq, in_rl, u_type_word, j_type_word, i_type_word, b_type_word, s_type_word, r_type_word, fence_word, csr_word, amo_word, lr_word}
use Rattle.rv_isa.proofs.MaskLemmas.{under_opcode, under_funct3, under_funct7, under_funct5, under_lr}
use Rattle.rv_isa.proofs.SignLemmas.{unsigned_fits, signed-unsigned, unsigned_even}

-- FIXED BITS: an opcode and funct3, and funct7 or funct5

pub record Funct3 (v : ℕ) : Type 0 where
  pub opcode : ℕ
  pub funct3 : ℕ
  pub low : opcode < 2 ^ 7
  pub small : funct3 < 2 ^ 3
  pub is : v ≡ opcode + funct3 * 2 ^ 12

pub record Funct7 (v : ℕ) : Type 0 where
  pub below : ℕ
  pub rest : Funct3 below
  pub funct7 : ℕ
  pub small : funct7 < 2 ^ 7
  pub is : v ≡ below + funct7 * 2 ^ 25

pub record Funct5 (v : ℕ) : Type 0 where
  pub below : ℕ
  pub rest : Funct3 below
  pub funct5 : ℕ
  pub small : funct5 < 2 ^ 5
  pub is : v ≡ below + funct5 * 2 ^ 27

funct3_in : (v : ℕ) → Funct3 (v % 2 ^ 7 + v / 2 ^ 12 % 2 ^ 3 * 2 ^ 12)
funct3_in v =
    record {
      opcode = v % 2 ^ 7;
      funct3 = v / 2 ^ 12 % 2 ^ 3;
      low = omega arith;
      small = omega arith;
      is = refl;
    }

pub with_opcode : (v : ℕ) → bit_and v 0x7F ≡ v → v < 2 ^ 7
with_opcode v e = omega (arith, under_opcode v, e)

pub with_funct3 : (v : ℕ) → bit_and v 0x707F ≡ v → Funct3 v
with_funct3 v e =
    let P : ℕ → Type 0 = λ n. Funct3 n in subst P (sym (under_funct3 v) ∙ e) (funct3_in v)

pub with_funct7 : (v : ℕ) → bit_and v 0xFE00707F ≡ v → Funct7 v
with_funct7 v e =
    record {
      below = v % 2 ^ 7 + v / 2 ^ 12 % 2 ^ 3 * 2 ^ 12;
      rest = funct3_in v;
      funct7 = v / 2 ^ 25 % 2 ^ 7;
      small = omega arith;
      is = sym e ∙ under_funct7 v;
    }

pub with_funct5 : (v : ℕ) → bit_and v 0xF800707F ≡ v → Funct5 v
with_funct5 v e =
    record {
      below = v % 2 ^ 7 + v / 2 ^ 12 % 2 ^ 3 * 2 ^ 12;
      rest = funct3_in v;
      funct5 = v / 2 ^ 27 % 2 ^ 5;
      small = omega arith;
      is = sym e ∙ under_funct5 v;
    }

-- of LR the place of rs2 is fixed too, and 0
pub with_lr : (v : ℕ) → bit_and v 0xF9F0707F ≡ v → v / 2 ^ 20 % 2 ^ 5 ≡ 0 → Funct5 v
with_lr v e none =
    record {
      below = v % 2 ^ 7 + v / 2 ^ 12 % 2 ^ 3 * 2 ^ 12;
      rest = funct3_in v;
      funct5 = v / 2 ^ 27 % 2 ^ 5;
      small = omega arith;
      is = omega (arith, sym e ∙ under_lr v, none);
    }

-- A BIT THAT IS READ AS A TEST

bit_value : (b : Bool) → ℕ
bit_value b = cond b 1 0

bit_below : (b : Bool) → bit_value b < 2
unfolding bit_value
bit_below true = lit< tt
bit_below false = lit< tt

bit_read : (b : Bool) → (bit_value b == 1) ≡ b
unfolding bit_value
bit_read true = refl
bit_read false = refl

aq_value : (b : Bool) → in_aq b ≡ bit_value b * 2 ^ 26
unfolding bit_value
aq_value true = refl
aq_value false = refl

rl_value : (b : Bool) → in_rl b ≡ bit_value b * 2 ^ 25
unfolding bit_value
rl_value true = refl
rl_value false = refl

-- EACH FORMAT

pub u_type_fields : (v a n : ℕ) → v < 2 ^ 7 → a < 32 → n < 2 ^ 20 →
    let w : ℕ = u_type_word v a n in (w < 2 ^ 32) × (bit_and w 0x7F ≡ v) × (rd w ≡ a) × (imm_u w ≡ n)
u_type_fields v a n low la ln =
    let w : ℕ = u_type_word v a n in
    (omega arith, omega (arith, under_opcode w), omega arith, omega arith)

pub j_type_fields : (v a : ℕ) (z : ℤ) → v < 2 ^ 7 → a < 32 → IsOffset 21 z →
    let w : ℕ = j_type_word v a z in (w < 2 ^ 32) × (bit_and w 0x7F ≡ v) × (rd w ≡ a) × (imm_j w ≡ z)
j_type_fields v a z low la lz =
    let n : ℕ = unsigned 21 z in
    let ln : n < 2 ^ 21 = unsigned_fits 21 z refl lz.0 in
    let even : n % 2 ≡ 0 = unsigned_even 21 z refl lz in
    let w : ℕ = j_type_word v a z in
    let bits : bits_at 31 1 w * 2 ^ 20 + bits_at 12 8 w * 2 ^ 12 + bits_at 20 1 w * 2 ^ 11 + bits_at 21 10 w * 2 ≡ n =
    omega arith in
    (omega arith, omega (arith, under_opcode w), omega arith, ap (signed 21) bits ∙ signed-unsigned 21 z refl lz.0)

pub i_type_fields : (v a b : ℕ) (z : ℤ) → Funct3 v → a < 32 → b < 32 → IsSigned 12 z →
    let w : ℕ = i_type_word v a b z in
    (w < 2 ^ 32) × (bit_and w 0x707F ≡ v) × (rd w ≡ a) × (rs1 w ≡ b) × (imm_i w ≡ z)
i_type_fields v a b z p la lb lz =
    let n : ℕ = unsigned 12 z in
    let ln : n < 2 ^ 12 = unsigned_fits 12 z refl lz in
    let w : ℕ = i_type_word v a b z in
    let lo : p.opcode < 2 ^ 7 = p.low in
    let lf : p.funct3 < 2 ^ 3 = p.small in
    let is : v ≡ p.opcode + p.funct3 * 2 ^ 12 = p.is in
    let bits : bits_at 20 12 w ≡ n = omega arith in
    let immediate = ap (signed 12) bits ∙ signed-unsigned 12 z refl lz in
    (omega arith, omega (arith, under_funct3 w), omega arith, omega arith, immediate)

pub b_type_fields : (v a b : ℕ) (z : ℤ) → Funct3 v → a < 32 → b < 32 → IsOffset 13 z →
    let w : ℕ = b_type_word v a b z in
    (w < 2 ^ 32) × (bit_and w 0x707F ≡ v) × (rs1 w ≡ a) × (rs2 w ≡ b) × (imm_b w ≡ z)
b_type_fields v a b z p la lb lz =
    let n : ℕ = unsigned 13 z in
    let ln : n < 2 ^ 13 = unsigned_fits 13 z refl lz.0 in
    let even : n % 2 ≡ 0 = unsigned_even 13 z refl lz in
    let w : ℕ = b_type_word v a b z in
    let lo : p.opcode < 2 ^ 7 = p.low in
    let lf : p.funct3 < 2 ^ 3 = p.small in
    let is : v ≡ p.opcode + p.funct3 * 2 ^ 12 = p.is in
    let bits : bits_at 31 1 w * 2 ^ 12 + bits_at 7 1 w * 2 ^ 11 + bits_at 25 6 w * 2 ^ 5 + bits_at 8 4 w * 2 ≡ n =
    omega arith in
    let immediate = ap (signed 13) bits ∙ signed-unsigned 13 z refl lz.0 in
    (omega arith, omega (arith, under_funct3 w), omega arith, omega arith, immediate)

pub s_type_fields : (v a b : ℕ) (z : ℤ) → Funct3 v → a < 32 → b < 32 → IsSigned 12 z →
    let w : ℕ = s_type_word v a b z in
    (w < 2 ^ 32) × (bit_and w 0x707F ≡ v) × (rs1 w ≡ a) × (rs2 w ≡ b) × (imm_s w ≡ z)
s_type_fields v a b z p la lb lz =
    let n : ℕ = unsigned 12 z in
    let ln : n < 2 ^ 12 = unsigned_fits 12 z refl lz in
    let w : ℕ = s_type_word v a b z in
    let lo : p.opcode < 2 ^ 7 = p.low in
    let lf : p.funct3 < 2 ^ 3 = p.small in
    let is : v ≡ p.opcode + p.funct3 * 2 ^ 12 = p.is in
    let bits : bits_at 25 7 w * 2 ^ 5 + bits_at 7 5 w ≡ n = omega arith in
    let immediate = ap (signed 12) bits ∙ signed-unsigned 12 z refl lz in
    (omega arith, omega (arith, under_funct3 w), omega arith, omega arith, immediate)

pub fence_fields : (v n : ℕ) → Funct3 v → n < 2 ^ 22 →
    let w : ℕ = fence_word v n in (w < 2 ^ 32) × (bit_and w 0x707F ≡ v) × (rest w ≡ n)
fence_fields v n p ln =
    let w : ℕ = fence_word v n in
    let lo : p.opcode < 2 ^ 7 = p.low in
    let lf : p.funct3 < 2 ^ 3 = p.small in
    let is : v ≡ p.opcode + p.funct3 * 2 ^ 12 = p.is in
    (omega arith, omega (arith, under_funct3 w), omega arith)

pub csr_fields : (v a b n : ℕ) → Funct3 v → a < 32 → b < 32 → n < 2 ^ 12 →
    let w : ℕ = csr_word v a b n in
    (w < 2 ^ 32) × (bit_and w 0x707F ≡ v) × (rd w ≡ a) × (rs1 w ≡ b) × (csr w ≡ n)
csr_fields v a b n p la lb ln =
    let w : ℕ = csr_word v a b n in
    let lo : p.opcode < 2 ^ 7 = p.low in
    let lf : p.funct3 < 2 ^ 3 = p.small in
    let is : v ≡ p.opcode + p.funct3 * 2 ^ 12 = p.is in
    (omega arith, omega (arith, under_funct3 w), omega arith, omega arith, omega arith)

pub r_type_fields : (v a b c : ℕ) → Funct7 v → a < 32 → b < 32 → c < 32 →
    let w : ℕ = r_type_word v a b c in
    (w < 2 ^ 32) × (bit_and w 0xFE00707F ≡ v) × (rd w ≡ a) × (rs1 w ≡ b) × (rs2 w ≡ c)
r_type_fields v a b c p la lb lc =
    let w : ℕ = r_type_word v a b c in
    let lo : p.rest.opcode < 2 ^ 7 = p.rest.low in
    let lf : p.rest.funct3 < 2 ^ 3 = p.rest.small in
    let lg : p.funct7 < 2 ^ 7 = p.small in
    let is : v ≡ p.rest.opcode + p.rest.funct3 * 2 ^ 12 + p.funct7 * 2 ^ 25 = omega (arith, p.is, p.rest.is) in
    (omega arith, omega (arith, under_funct7 w), omega arith, omega arith, omega arith)

pub amo_fields : (v a b c : ℕ) (p q : Bool) → Funct5 v → a < 32 → b < 32 → c < 32 →
    let w : ℕ = amo_word v a b c p q in
    (w < 2 ^ 32) × (bit_and w 0xF800707F ≡ v) × (rd w ≡ a) × (rs1 w ≡ b) × (rs2 w ≡ c)
    × (aq w ≡ p) × (rl w ≡ q)
amo_fields v a b c p q k la lb lc =
    let w : ℕ = amo_word v a b c p q in
    let o : ℕ = k.rest.opcode in
    let f : ℕ = k.rest.funct3 in
    let g : ℕ = k.funct5 in
    let lo : o < 2 ^ 7 = k.rest.low in
    let lf : f < 2 ^ 3 = k.rest.small in
    let lg : g < 2 ^ 5 = k.small in
    let lp : bit_value p < 2 = bit_below p in
    let lq : bit_value q < 2 = bit_below q in
    let sum : w ≡ o + f * 2 ^ 12 + g * 2 ^ 27 + a * 2 ^ 7 + b * 2 ^ 15 + c * 2 ^ 20
    + bit_value p * 2 ^ 26 + bit_value q * 2 ^ 25 = omega (arith, k.is, k.rest.is, aq_value p, rl_value q) in
    let bp : bits_at 26 1 w ≡ bit_value p = omega arith in
    let bq : bits_at 25 1 w ≡ bit_value q = omega arith in (
      omega arith,
      omega (arith, k.is, k.rest.is, under_funct5 w),
      omega arith,
      omega arith,
      omega arith,
      ap (λ n. n == 1) bp ∙ bit_read p,
      ap (λ n. n == 1) bq ∙ bit_read q,
    )

pub lr_fields : (v a b : ℕ) (p q : Bool) → Funct5 v → a < 32 → b < 32 →
    let w : ℕ = lr_word v a b p q in
    (w < 2 ^ 32) × (bit_and w 0xF9F0707F ≡ v) × (rd w ≡ a) × (rs1 w ≡ b) × (aq w ≡ p) × (rl w ≡ q)
lr_fields v a b p q k la lb =
    let w : ℕ = lr_word v a b p q in
    let o : ℕ = k.rest.opcode in
    let f : ℕ = k.rest.funct3 in
    let g : ℕ = k.funct5 in
    let lo : o < 2 ^ 7 = k.rest.low in
    let lf : f < 2 ^ 3 = k.rest.small in
    let lg : g < 2 ^ 5 = k.small in
    let lp : bit_value p < 2 = bit_below p in
    let lq : bit_value q < 2 = bit_below q in
    let sum : w ≡ o + f * 2 ^ 12 + g * 2 ^ 27 + a * 2 ^ 7 + b * 2 ^ 15
    + bit_value p * 2 ^ 26 + bit_value q * 2 ^ 25 = omega (arith, k.is, k.rest.is, aq_value p, rl_value q) in
    let bp : bits_at 26 1 w ≡ bit_value p = omega arith in
    let bq : bits_at 25 1 w ≡ bit_value q = omega arith in (
      omega arith,
      omega (arith, k.is, k.rest.is, under_lr w),
      omega arith,
      omega arith,
      ap (λ n. n == 1) bp ∙ bit_read p,
      ap (λ n. n == 1) bq ∙ bit_read q,
    )
