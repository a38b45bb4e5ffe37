-- Each row's fields, put in their places beside what the row fixes, give the word back. So an
-- instruction has one word.
use Rattle.std.proofs.Common.{◌≡◌, ℕ, ◌+◌, ◌*◌, ◌/◌, ◌%◌, ◌<◌, ◌^◌, Bool, true, false, cond, bit_and, Some, List, [], ◌∷◌, sym, ap, ◌∙◌, arith, eqb-true, refl}
use Rattle.std.proofs.lemmas.Bool.Decides.{nat_tests}
use Rattle.std.specs.Prelude.{◌==◌}
use Rattle.rv_isa.specs.declared.instr.Instr.{Instr}
use Rattle.rv_isa.specs.Fields.{rd, rs1, rs2, imm_i, imm_s, imm_b, imm_u, imm_j, csr, aq, rl, rest}
use Rattle.rv_isa.specs.Table.{Row, table, fits, read_by, decode}
use Rattle.rv_isa.specs.Words.{unsigned, in_aq, in_rl, u_type_word, j_type_word, i_type_word, b_type_word, s_type_word, r_type_word, fence_word, csr_word, amo_word, lr_word, word_of}
use Rattle.rv_isa.proofs.MaskLemmas.{under_opcode, under_funct3, under_funct7, under_funct5, under_lr, all_ones}
use Rattle.rv_isa.proofs.RowLemmas.{◌&◌}
use Rattle.rv_isa.proofs.SignLemmas.{unsigned-signed}

-- the bits that each signed immediate is read from
bits_i : (w : ℕ) → unsigned 12 (imm_i w) ≡ w / 2 ^ 20 % 2 ^ 12
bits_i w = unsigned-signed 12 (w / 2 ^ 20 % 2 ^ 12) (omega arith)

bits_s : (w : ℕ) → unsigned 12 (imm_s w) ≡ w / 2 ^ 25 % 2 ^ 7 * 2 ^ 5 + w / 2 ^ 7 % 2 ^ 5
bits_s w = unsigned-signed 12 (w / 2 ^ 25 % 2 ^ 7 * 2 ^ 5 + w / 2 ^ 7 % 2 ^ 5) (omega arith)

bits_b : (w : ℕ)
    → unsigned 13 (imm_b w) ≡ w / 2 ^ 31 % 2 ^ 1 * 2 ^ 12 + w / 2 ^ 7 % 2 ^ 1 * 2 ^ 11
    + w / 2 ^ 25 % 2 ^ 6 * 2 ^ 5 + w / 2 ^ 8 % 2 ^ 4 * 2
bits_b w =
    unsigned-signed 13
    (w / 2 ^ 31 % 2 ^ 1 * 2 ^ 12 + w / 2 ^ 7 % 2 ^ 1 * 2 ^ 11 + w / 2 ^ 25 % 2 ^ 6 * 2 ^ 5 + w / 2 ^ 8 % 2 ^ 4 * 2)
    (omega arith)

bits_j : (w : ℕ)
    → unsigned 21 (imm_j w) ≡ w / 2 ^ 31 % 2 ^ 1 * 2 ^ 20 + w / 2 ^ 12 % 2 ^ 8 * 2 ^ 12
    + w / 2 ^ 20 % 2 ^ 1 * 2 ^ 11 + w / 2 ^ 21 % 2 ^ 10 * 2
bits_j w =
    unsigned-signed 21
    (w / 2 ^ 31 % 2 ^ 1 * 2 ^ 20 + w / 2 ^ 12 % 2 ^ 8 * 2 ^ 12 + w / 2 ^ 20 % 2 ^ 1 * 2 ^ 11 + w / 2 ^ 21 % 2 ^ 10 * 2)
    (omega arith)

-- a bit that is read as a test
bit_back : (n k : ℕ) → n < 2 → cond (n == 1) k 0 ≡ n * k
bit_back n k l = grind (arith, nat_tests)

aq_back : (w : ℕ) → in_aq (aq w) ≡ w / 2 ^ 26 % 2 * 2 ^ 26
aq_back w = bit_back (w / 2 ^ 26 % 2) (2 ^ 26) (omega arith)

rl_back : (w : ℕ) → in_rl (rl w) ≡ w / 2 ^ 25 % 2 * 2 ^ 25
rl_back w = bit_back (w / 2 ^ 25 % 2) (2 ^ 25) (omega arith)

-- each format
module _ (w v : ℕ) (l : w < 2 ^ 32) where
  pub u_type_back : bit_and w 0x7F ≡ v → u_type_word v (rd w) (imm_u w) ≡ w
  u_type_back e = omega (arith, under_opcode w)

  pub j_type_back : bit_and w 0x7F ≡ v → j_type_word v (rd w) (imm_j w) ≡ w
  j_type_back e = rw bits_j (omega (arith, under_opcode w))

  pub i_type_back : bit_and w 0x707F ≡ v → i_type_word v (rd w) (rs1 w) (imm_i w) ≡ w
  i_type_back e = rw bits_i (omega (arith, under_funct3 w))

  pub b_type_back : bit_and w 0x707F ≡ v → b_type_word v (rs1 w) (rs2 w) (imm_b w) ≡ w
  b_type_back e = rw bits_b (omega (arith, under_funct3 w))

  pub s_type_back : bit_and w 0x707F ≡ v → s_type_word v (rs1 w) (rs2 w) (imm_s w) ≡ w
  s_type_back e = rw bits_s (omega (arith, under_funct3 w))

  pub r_type_back : bit_and w 0xFE00707F ≡ v → r_type_word v (rd w) (rs1 w) (rs2 w) ≡ w
  r_type_back e = omega (arith, under_funct7 w)

  pub fence_type_back : bit_and w 0x707F ≡ v → fence_word v (rest w) ≡ w
  fence_type_back e = omega (arith, under_funct3 w)

  pub csr_type_back : bit_and w 0x707F ≡ v → csr_word v (rd w) (rs1 w) (csr w) ≡ w
  csr_type_back e = omega (arith, under_funct3 w)

  pub amo_type_back : bit_and w 0xF800707F ≡ v → amo_word v (rd w) (rs1 w) (rs2 w) (aq w) (rl w) ≡ w
  amo_type_back e = omega (arith, under_funct5 w, aq_back w, rl_back w)

  pub lr_type_back : bit_and w 0xF9F0707F ≡ v → lr_word v (rd w) (rs1 w) (aq w) (rl w) ≡ w
  lr_type_back e = omega (arith, under_lr w, aq_back w, rl_back w)

  pub exact_back : bit_and w 0xFFFFFFFF ≡ v → v ≡ w
  exact_back e = sym e ∙ all_ones w l

-- each row gives the word back where it fits
abbrev GivesBack : ℕ → List Row → Type 0
GivesBack w [] = Unit {0}
GivesBack w (row ∷ rows) = (bit_and w row.mask ≡ row.value → word_of (row.read w) ≡ w) × GivesBack w rows

back_by : (w : ℕ) (rows : List Row) (i : Instr) → GivesBack w rows → read_by rows w ≡ Some i → word_of i ≡ w
unfolding read_by
back_by w [] i h e = absurd (cc)
back_by w (row ∷ rows) i h e =
    let P : Bool → Type 0 =
    λ b. fits row w ≡ b → cond b (Some (row.read w)) (read_by rows w) ≡ Some i → word_of i ≡ w in
    let cases : P (fits row w) = elim (fits row w) as P [
      | true ↦ λ f g. let same : row.read w ≡ i = cc in ap word_of (sym same) ∙ h.0 (eqb-true _ _ f)
      | false ↦ λ f g. back_by w rows i h.1 g
    ] in
    cases refl e

table_back : (w : ℕ) → w < 2 ^ 32 → GivesBack w table
unfolding table
table_back w l =
    u_type_back w 0x00000037 l &
    u_type_back w 0x00000017 l &
    j_type_back w 0x0000006F l &
    i_type_back w 0x00000067 l &
    b_type_back w 0x00000063 l &
    b_type_back w 0x00001063 l &
    b_type_back w 0x00004063 l &
    b_type_back w 0x00005063 l &
    b_type_back w 0x00006063 l &
    b_type_back w 0x00007063 l &
    i_type_back w 0x00000003 l &
    i_type_back w 0x00001003 l &
    i_type_back w 0x00002003 l &
    i_type_back w 0x00004003 l &
    i_type_back w 0x00005003 l &
    s_type_back w 0x00000023 l &
    s_type_back w 0x00001023 l &
    s_type_back w 0x00002023 l &
    i_type_back w 0x00000013 l &
    i_type_back w 0x00002013 l &
    i_type_back w 0x00003013 l &
    i_type_back w 0x00004013 l &
    i_type_back w 0x00006013 l &
    i_type_back w 0x00007013 l &
    r_type_back w 0x00001013 l &
    r_type_back w 0x00005013 l &
    r_type_back w 0x40005013 l &
    r_type_back w 0x00000033 l &
    r_type_back w 0x00001033 l &
    r_type_back w 0x00002033 l &
    r_type_back w 0x00003033 l &
    r_type_back w 0x00004033 l &
    r_type_back w 0x00005033 l &
    r_type_back w 0x00006033 l &
    r_type_back w 0x00007033 l &
    r_type_back w 0x40000033 l &
    r_type_back w 0x40005033 l &
    r_type_back w 0x02000033 l &
    r_type_back w 0x02001033 l &
    r_type_back w 0x02002033 l &
    r_type_back w 0x02003033 l &
    r_type_back w 0x02004033 l &
    r_type_back w 0x02005033 l &
    r_type_back w 0x02006033 l &
    r_type_back w 0x02007033 l &
    fence_type_back w 0x0000000F l &
    fence_type_back w 0x0000100F l &
    csr_type_back w 0x00001073 l &
    csr_type_back w 0x00002073 l &
    csr_type_back w 0x00003073 l &
    csr_type_back w 0x00005073 l &
    csr_type_back w 0x00006073 l &
    csr_type_back w 0x00007073 l &
    exact_back w 0x00000073 l &
    exact_back w 0x00100073 l &
    exact_back w 0x30200073 l &
    exact_back w 0x10500073 l &
    lr_type_back w 0x1000202F l &
    amo_type_back w 0x1800202F l &
    amo_type_back w 0x0800202F l &
    amo_type_back w 0x0000202F l &
    amo_type_back w 0x2000202F l &
    amo_type_back w 0x6000202F l &
    amo_type_back w 0x4000202F l &
    amo_type_back w 0x8000202F l &
    amo_type_back w 0xA000202F l &
    amo_type_back w 0xC000202F l &
    amo_type_back w 0xE000202F l & tt

-- an instruction that a word decodes to has that word
pub word_back : (w : ℕ) (i : Instr) → w < 2 ^ 32 → decode w ≡ Some i → word_of i ≡ w
unfolding decode
word_back w i l e = back_by w table i (table_back w l) e
