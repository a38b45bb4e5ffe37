-- What a word has under the mask of each format.
use Rattle.std.proofs.Common.{◌≡◌, ℕ, ◌+◌, ◌*◌, ◌/◌, ◌%◌, ◌<◌, ◌^◌, bit_and, sym, ap, ◌∙◌, arith, lit<}
use Rattle.std.proofs.lemmas.Nat.{and_block, and_mask, mod_below, pow_pos, shr_split}

and_split : (w k m n : ℕ) → n < 2 ^ k
    → bit_and w (m * 2 ^ k + n) ≡ bit_and (w / 2 ^ k) m * 2 ^ k + bit_and (w % 2 ^ k) n
and_split w k m n l =
    ap (λ x. bit_and x (m * 2 ^ k + n)) (sym (shr_split w k))
    ∙ and_block k (w / 2 ^ k) m (w % 2 ^ k) n (mod_below w (2 ^ k) (pow_pos k)) l

pub under_opcode : (w : ℕ) → bit_and w 0x7F ≡ w % 2 ^ 7
under_opcode w = and_mask w 7

pub under_funct3 : (w : ℕ) → bit_and w 0x707F ≡ w % 2 ^ 7 + w / 2 ^ 12 % 2 ^ 3 * 2 ^ 12
under_funct3 w = omega (arith, and_split w 12 7 0x7F (lit< tt), and_mask (w / 2 ^ 12) 3, and_mask (w % 2 ^ 12) 7)

pub under_funct7 : (w : ℕ)
    → bit_and w 0xFE00707F ≡ w % 2 ^ 7 + w / 2 ^ 12 % 2 ^ 3 * 2 ^ 12 + w / 2 ^ 25 % 2 ^ 7 * 2 ^ 25
under_funct7 w = omega (arith, and_split w 25 127 0x707F (lit< tt), and_mask (w / 2 ^ 25) 7, under_funct3 (w % 2 ^ 25))

pub under_funct5 : (w : ℕ)
    → bit_and w 0xF800707F ≡ w % 2 ^ 7 + w / 2 ^ 12 % 2 ^ 3 * 2 ^ 12 + w / 2 ^ 27 % 2 ^ 5 * 2 ^ 27
under_funct5 w = omega (arith, and_split w 27 31 0x707F (lit< tt), and_mask (w / 2 ^ 27) 5, under_funct3 (w % 2 ^ 27))

under_rs2 : (w : ℕ) → bit_and w 0x01F0707F ≡ w % 2 ^ 7 + w / 2 ^ 12 % 2 ^ 3 * 2 ^ 12 + w / 2 ^ 20 % 2 ^ 5 * 2 ^ 20
under_rs2 w = omega (arith, and_split w 20 31 0x707F (lit< tt), and_mask (w / 2 ^ 20) 5, under_funct3 (w % 2 ^ 20))

pub under_lr : (w : ℕ)
    → bit_and w 0xF9F0707F ≡ w % 2 ^ 7 + w / 2 ^ 12 % 2 ^ 3 * 2 ^ 12 + w / 2 ^ 20 % 2 ^ 5 * 2 ^ 20
    + w / 2 ^ 27 % 2 ^ 5 * 2 ^ 27
under_lr w = omega (arith, and_split w 27 31 0x01F0707F (lit< tt), and_mask (w / 2 ^ 27) 5, under_rs2 (w % 2 ^ 27))

pub and_zero : (w : ℕ) → bit_and w 0 ≡ 0
and_zero w = and_mask w 0 ∙ omega arith

pub all_ones : (w : ℕ) → w < 2 ^ 32 → bit_and w 0xFFFFFFFF ≡ w
all_ones w l = and_mask w 32 ∙ omega arith
