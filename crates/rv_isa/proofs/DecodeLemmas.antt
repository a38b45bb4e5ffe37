-- What a word decodes to, a row at a time, and what no row fits.
use Rattle.std.proofs.Common.{◌≡◌, ◌≢◌, ℕ, ◌<◌, ◌^◌, bit_and, Some, None, ap, length, get_or, eq-eqb, lit<, refl, ◌∷◌, [], sym, ◌∙◌}
use Rattle.rv_isa.proofs.MaskLemmas.{and_zero, all_ones}
use Rattle.rv_isa.specs.declared.instr.Instr.TheVariants.{Lui, Auipc, Jal, Jalr, Beq, Bne, Blt, Bge, Bltu, Bgeu, Lb, Lh, Lw, Lbu, Lhu, Sb, Sh, Sw, Addi, Slti, Sltiu, Xori, Ori, Andi, Slli, Srli, Srai, Add, Sll, Slt, Sltu, Xor, Srl, Or, And, Sub, Sra, Mul, Mulh, Mulhsu, Mulhu, Div, Divu, Rem, Remu, Fence, FenceI, Csrrw, Csrrs, Csrrc, Csrrwi, Csrrsi, Csrrci, Ecall, Ebreak, Mret, Wfi, Lr, Sc, AmoSwap, AmoAdd, AmoXor, AmoAnd, AmoOr, AmoMin, AmoMax, AmoMinu, AmoMaxu}
use Rattle.rv_isa.specs.Fields.{rd, rs1, rs2, shamt, imm_i, imm_s, imm_b, imm_u, imm_j, csr, aq, rl, rest}
use Rattle.rv_isa.specs.Table.{table, exact, decode}
use Rattle.rv_isa.proofs.RowLemmas.{◌&◌, read_at, no_row}

-- the row at a place is read where it fits
at : (k w : ℕ) → k < length table
    → bit_and w (get_or table k (exact 0 Ecall)).mask ≡ (get_or table k (exact 0 Ecall)).value
    → decode w ≡ Some ((get_or table k (exact 0 Ecall)).read w)
at k w l e = read_at w k (exact 0 Ecall) l (eq-eqb _ _ e)

pub lui_at : (w : ℕ) → bit_and w 0x7F ≡ 0x37 → decode w ≡ Some (Lui (rd w) (imm_u w))
unfolding table
lui_at w e = at 0 w (lit< tt) e

pub auipc_at : (w : ℕ) → bit_and w 0x7F ≡ 0x17 → decode w ≡ Some (Auipc (rd w) (imm_u w))
unfolding table
auipc_at w e = at 1 w (lit< tt) e

pub jal_at : (w : ℕ) → bit_and w 0x7F ≡ 0x6F → decode w ≡ Some (Jal (rd w) (imm_j w))
unfolding table
jal_at w e = at 2 w (lit< tt) e

pub jalr_at : (w : ℕ) → bit_and w 0x707F ≡ 0x67 → decode w ≡ Some (Jalr (rd w) (rs1 w) (imm_i w))
unfolding table
jalr_at w e = at 3 w (lit< tt) e

pub beq_at : (w : ℕ) → bit_and w 0x707F ≡ 0x63 → decode w ≡ Some (Beq (rs1 w) (rs2 w) (imm_b w))
unfolding table
beq_at w e = at 4 w (lit< tt) e

pub bne_at : (w : ℕ) → bit_and w 0x707F ≡ 0x1063 → decode w ≡ Some (Bne (rs1 w) (rs2 w) (imm_b w))
unfolding table
bne_at w e = at 5 w (lit< tt) e

pub blt_at : (w : ℕ) → bit_and w 0x707F ≡ 0x4063 → decode w ≡ Some (Blt (rs1 w) (rs2 w) (imm_b w))
unfolding table
blt_at w e = at 6 w (lit< tt) e

pub bge_at : (w : ℕ) → bit_and w 0x707F ≡ 0x5063 → decode w ≡ Some (Bge (rs1 w) (rs2 w) (imm_b w))
unfolding table
bge_at w e = at 7 w (lit< tt) e

pub bltu_at : (w : ℕ) → bit_and w 0x707F ≡ 0x6063 → decode w ≡ Some (Bltu (rs1 w) (rs2 w) (imm_b w))
unfolding table
bltu_at w e = at 8 w (lit< tt) e

pub bgeu_at : (w : ℕ) → bit_and w 0x707F ≡ 0x7063 → decode w ≡ Some (Bgeu (rs1 w) (rs2 w) (imm_b w))
unfolding table
bgeu_at w e = at 9 w (lit< tt) e

pub lb_at : (w : ℕ) → bit_and w 0x707F ≡ 0x3 → decode w ≡ Some (Lb (rd w) (rs1 w) (imm_i w))
unfolding table
lb_at w e = at 10 w (lit< tt) e

pub lh_at : (w : ℕ) → bit_and w 0x707F ≡ 0x1003 → decode w ≡ Some (Lh (rd w) (rs1 w) (imm_i w))
unfolding table
lh_at w e = at 11 w (lit< tt) e

pub lw_at : (w : ℕ) → bit_and w 0x707F ≡ 0x2003 → decode w ≡ Some (Lw (rd w) (rs1 w) (imm_i w))
unfolding table
lw_at w e = at 12 w (lit< tt) e

pub lbu_at : (w : ℕ) → bit_and w 0x707F ≡ 0x4003 → decode w ≡ Some (Lbu (rd w) (rs1 w) (imm_i w))
unfolding table
lbu_at w e = at 13 w (lit< tt) e

pub lhu_at : (w : ℕ) → bit_and w 0x707F ≡ 0x5003 → decode w ≡ Some (Lhu (rd w) (rs1 w) (imm_i w))
unfolding table
lhu_at w e = at 14 w (lit< tt) e

pub sb_at : (w : ℕ) → bit_and w 0x707F ≡ 0x23 → decode w ≡ Some (Sb (rs1 w) (rs2 w) (imm_s w))
unfolding table
sb_at w e = at 15 w (lit< tt) e

pub sh_at : (w : ℕ) → bit_and w 0x707F ≡ 0x1023 → decode w ≡ Some (Sh (rs1 w) (rs2 w) (imm_s w))
unfolding table
sh_at w e = at 16 w (lit< tt) e

pub sw_at : (w : ℕ) → bit_and w 0x707F ≡ 0x2023 → decode w ≡ Some (Sw (rs1 w) (rs2 w) (imm_s w))
unfolding table
sw_at w e = at 17 w (lit< tt) e

pub addi_at : (w : ℕ) → bit_and w 0x707F ≡ 0x13 → decode w ≡ Some (Addi (rd w) (rs1 w) (imm_i w))
unfolding table
addi_at w e = at 18 w (lit< tt) e

pub slti_at : (w : ℕ) → bit_and w 0x707F ≡ 0x2013 → decode w ≡ Some (Slti (rd w) (rs1 w) (imm_i w))
unfolding table
slti_at w e = at 19 w (lit< tt) e

pub sltiu_at : (w : ℕ) → bit_and w 0x707F ≡ 0x3013 → decode w ≡ Some (Sltiu (rd w) (rs1 w) (imm_i w))
unfolding table
sltiu_at w e = at 20 w (lit< tt) e

pub xori_at : (w : ℕ) → bit_and w 0x707F ≡ 0x4013 → decode w ≡ Some (Xori (rd w) (rs1 w) (imm_i w))
unfolding table
xori_at w e = at 21 w (lit< tt) e

pub ori_at : (w : ℕ) → bit_and w 0x707F ≡ 0x6013 → decode w ≡ Some (Ori (rd w) (rs1 w) (imm_i w))
unfolding table
ori_at w e = at 22 w (lit< tt) e

pub andi_at : (w : ℕ) → bit_and w 0x707F ≡ 0x7013 → decode w ≡ Some (Andi (rd w) (rs1 w) (imm_i w))
unfolding table
andi_at w e = at 23 w (lit< tt) e

pub slli_at : (w : ℕ) → bit_and w 0xFE00707F ≡ 0x1013 → decode w ≡ Some (Slli (rd w) (rs1 w) (shamt w))
unfolding table
slli_at w e = at 24 w (lit< tt) e

pub srli_at : (w : ℕ) → bit_and w 0xFE00707F ≡ 0x5013 → decode w ≡ Some (Srli (rd w) (rs1 w) (shamt w))
unfolding table
srli_at w e = at 25 w (lit< tt) e

pub srai_at : (w : ℕ) → bit_and w 0xFE00707F ≡ 0x40005013 → decode w ≡ Some (Srai (rd w) (rs1 w) (shamt w))
unfolding table
srai_at w e = at 26 w (lit< tt) e

pub add_at : (w : ℕ) → bit_and w 0xFE00707F ≡ 0x33 → decode w ≡ Some (Add (rd w) (rs1 w) (rs2 w))
unfolding table
add_at w e = at 27 w (lit< tt) e

pub sll_at : (w : ℕ) → bit_and w 0xFE00707F ≡ 0x1033 → decode w ≡ Some (Sll (rd w) (rs1 w) (rs2 w))
unfolding table
sll_at w e = at 28 w (lit< tt) e

pub slt_at : (w : ℕ) → bit_and w 0xFE00707F ≡ 0x2033 → decode w ≡ Some (Slt (rd w) (rs1 w) (rs2 w))
unfolding table
slt_at w e = at 29 w (lit< tt) e

pub sltu_at : (w : ℕ) → bit_and w 0xFE00707F ≡ 0x3033 → decode w ≡ Some (Sltu (rd w) (rs1 w) (rs2 w))
unfolding table
sltu_at w e = at 30 w (lit< tt) e

pub xor_at : (w : ℕ) → bit_and w 0xFE00707F ≡ 0x4033 → decode w ≡ Some (Xor (rd w) (rs1 w) (rs2 w))
unfolding table
xor_at w e = at 31 w (lit< tt) e

pub srl_at : (w : ℕ) → bit_and w 0xFE00707F ≡ 0x5033 → decode w ≡ Some (Srl (rd w) (rs1 w) (rs2 w))
unfolding table
srl_at w e = at 32 w (lit< tt) e

pub or_at : (w : ℕ) → bit_and w 0xFE00707F ≡ 0x6033 → decode w ≡ Some (Or (rd w) (rs1 w) (rs2 w))
unfolding table
or_at w e = at 33 w (lit< tt) e

pub and_at : (w : ℕ) → bit_and w 0xFE00707F ≡ 0x7033 → decode w ≡ Some (And (rd w) (rs1 w) (rs2 w))
unfolding table
and_at w e = at 34 w (lit< tt) e

pub sub_at : (w : ℕ) → bit_and w 0xFE00707F ≡ 0x40000033 → decode w ≡ Some (Sub (rd w) (rs1 w) (rs2 w))
unfolding table
sub_at w e = at 35 w (lit< tt) e

pub sra_at : (w : ℕ) → bit_and w 0xFE00707F ≡ 0x40005033 → decode w ≡ Some (Sra (rd w) (rs1 w) (rs2 w))
unfolding table
sra_at w e = at 36 w (lit< tt) e

pub mul_at : (w : ℕ) → bit_and w 0xFE00707F ≡ 0x2000033 → decode w ≡ Some (Mul (rd w) (rs1 w) (rs2 w))
unfolding table
mul_at w e = at 37 w (lit< tt) e

pub mulh_at : (w : ℕ) → bit_and w 0xFE00707F ≡ 0x2001033 → decode w ≡ Some (Mulh (rd w) (rs1 w) (rs2 w))
unfolding table
mulh_at w e = at 38 w (lit< tt) e

pub mulhsu_at : (w : ℕ) → bit_and w 0xFE00707F ≡ 0x2002033 → decode w ≡ Some (Mulhsu (rd w) (rs1 w) (rs2 w))
unfolding table
mulhsu_at w e = at 39 w (lit< tt) e

pub mulhu_at : (w : ℕ) → bit_and w 0xFE00707F ≡ 0x2003033 → decode w ≡ Some (Mulhu (rd w) (rs1 w) (rs2 w))
unfolding table
mulhu_at w e = at 40 w (lit< tt) e

pub div_at : (w : ℕ) → bit_and w 0xFE00707F ≡ 0x2004033 → decode w ≡ Some (Div (rd w) (rs1 w) (rs2 w))
unfolding table
div_at w e = at 41 w (lit< tt) e

pub divu_at : (w : ℕ) → bit_and w 0xFE00707F ≡ 0x2005033 → decode w ≡ Some (Divu (rd w) (rs1 w) (rs2 w))
unfolding table
divu_at w e = at 42 w (lit< tt) e

pub rem_at : (w : ℕ) → bit_and w 0xFE00707F ≡ 0x2006033 → decode w ≡ Some (Rem (rd w) (rs1 w) (rs2 w))
unfolding table
rem_at w e = at 43 w (lit< tt) e

pub remu_at : (w : ℕ) → bit_and w 0xFE00707F ≡ 0x2007033 → decode w ≡ Some (Remu (rd w) (rs1 w) (rs2 w))
unfolding table
remu_at w e = at 44 w (lit< tt) e

pub fence_at : (w : ℕ) → bit_and w 0x707F ≡ 0xF → decode w ≡ Some (Fence (rest w))
unfolding table
fence_at w e = at 45 w (lit< tt) e

pub fence_i_at : (w : ℕ) → bit_and w 0x707F ≡ 0x100F → decode w ≡ Some (FenceI (rest w))
unfolding table
fence_i_at w e = at 46 w (lit< tt) e

pub csrrw_at : (w : ℕ) → bit_and w 0x707F ≡ 0x1073 → decode w ≡ Some (Csrrw (rd w) (rs1 w) (csr w))
unfolding table
csrrw_at w e = at 47 w (lit< tt) e

pub csrrs_at : (w : ℕ) → bit_and w 0x707F ≡ 0x2073 → decode w ≡ Some (Csrrs (rd w) (rs1 w) (csr w))
unfolding table
csrrs_at w e = at 48 w (lit< tt) e

pub csrrc_at : (w : ℕ) → bit_and w 0x707F ≡ 0x3073 → decode w ≡ Some (Csrrc (rd w) (rs1 w) (csr w))
unfolding table
csrrc_at w e = at 49 w (lit< tt) e

pub csrrwi_at : (w : ℕ) → bit_and w 0x707F ≡ 0x5073 → decode w ≡ Some (Csrrwi (rd w) (rs1 w) (csr w))
unfolding table
csrrwi_at w e = at 50 w (lit< tt) e

pub csrrsi_at : (w : ℕ) → bit_and w 0x707F ≡ 0x6073 → decode w ≡ Some (Csrrsi (rd w) (rs1 w) (csr w))
unfolding table
csrrsi_at w e = at 51 w (lit< tt) e

pub csrrci_at : (w : ℕ) → bit_and w 0x707F ≡ 0x7073 → decode w ≡ Some (Csrrci (rd w) (rs1 w) (csr w))
unfolding table
csrrci_at w e = at 52 w (lit< tt) e

pub ecall_at : (w : ℕ) → w ≡ 0x73 → decode w ≡ Some Ecall
unfolding table
ecall_at w e = at 53 w (lit< tt) (ap (λ x. bit_and x 0xFFFFFFFF) e)

pub ebreak_at : (w : ℕ) → w ≡ 0x100073 → decode w ≡ Some Ebreak
unfolding table
ebreak_at w e = at 54 w (lit< tt) (ap (λ x. bit_and x 0xFFFFFFFF) e)

pub mret_at : (w : ℕ) → w ≡ 0x30200073 → decode w ≡ Some Mret
unfolding table
mret_at w e = at 55 w (lit< tt) (ap (λ x. bit_and x 0xFFFFFFFF) e)

pub wfi_at : (w : ℕ) → w ≡ 0x10500073 → decode w ≡ Some Wfi
unfolding table
wfi_at w e = at 56 w (lit< tt) (ap (λ x. bit_and x 0xFFFFFFFF) e)

pub lr_at : (w : ℕ) → bit_and w 0xF9F0707F ≡ 0x1000202F → decode w ≡ Some (Lr (rd w) (rs1 w) (aq w) (rl w))
unfolding table
lr_at w e = at 57 w (lit< tt) e

pub sc_at : (w : ℕ) → bit_and w 0xF800707F ≡ 0x1800202F → decode w ≡ Some (Sc (rd w) (rs1 w) (rs2 w) (aq w) (rl w))
unfolding table
sc_at w e = at 58 w (lit< tt) e

pub amo_swap_at : (w : ℕ) → bit_and w 0xF800707F ≡ 0x800202F
    → decode w ≡ Some (AmoSwap (rd w) (rs1 w) (rs2 w) (aq w) (rl w))
unfolding table
amo_swap_at w e = at 59 w (lit< tt) e

pub amo_add_at : (w : ℕ) → bit_and w 0xF800707F ≡ 0x202F → decode w ≡ Some (AmoAdd (rd w) (rs1 w) (rs2 w) (aq w) (rl w))
unfolding table
amo_add_at w e = at 60 w (lit< tt) e

pub amo_xor_at : (w : ℕ) → bit_and w 0xF800707F ≡ 0x2000202F
    → decode w ≡ Some (AmoXor (rd w) (rs1 w) (rs2 w) (aq w) (rl w))
unfolding table
amo_xor_at w e = at 61 w (lit< tt) e

pub amo_and_at : (w : ℕ) → bit_and w 0xF800707F ≡ 0x6000202F
    → decode w ≡ Some (AmoAnd (rd w) (rs1 w) (rs2 w) (aq w) (rl w))
unfolding table
amo_and_at w e = at 62 w (lit< tt) e

pub amo_or_at : (w : ℕ) → bit_and w 0xF800707F ≡ 0x4000202F
    → decode w ≡ Some (AmoOr (rd w) (rs1 w) (rs2 w) (aq w) (rl w))
unfolding table
amo_or_at w e = at 63 w (lit< tt) e

pub amo_min_at : (w : ℕ) → bit_and w 0xF800707F ≡ 0x8000202F
    → decode w ≡ Some (AmoMin (rd w) (rs1 w) (rs2 w) (aq w) (rl w))
unfolding table
amo_min_at w e = at 64 w (lit< tt) e

pub amo_max_at : (w : ℕ) → bit_and w 0xF800707F ≡ 0xA000202F
    → decode w ≡ Some (AmoMax (rd w) (rs1 w) (rs2 w) (aq w) (rl w))
unfolding table
amo_max_at w e = at 65 w (lit< tt) e

pub amo_minu_at : (w : ℕ) → bit_and w 0xF800707F ≡ 0xC000202F
    → decode w ≡ Some (AmoMinu (rd w) (rs1 w) (rs2 w) (aq w) (rl w))
unfolding table
amo_minu_at w e = at 66 w (lit< tt) e

pub amo_maxu_at : (w : ℕ) → bit_and w 0xF800707F ≡ 0xE000202F
    → decode w ≡ Some (AmoMaxu (rd w) (rs1 w) (rs2 w) (aq w) (rl w))
unfolding table
amo_maxu_at w e = at 67 w (lit< tt) e

pub load_none : (w : ℕ) → bit_and w 0x7F ≡ 0x3 → bit_and w 0x707F ≢ 0x3 → bit_and w 0x707F ≢ 0x1003
    → bit_and w 0x707F ≢ 0x2003 → bit_and w 0x707F ≢ 0x4003 → bit_and w 0x707F ≢ 0x5003 → decode w ≡ None
unfolding table
load_none w e h0 h1 h2 h3 h4 =
    no_row w 0x7F 0x3 0x707F (0x3 ∷ 0x1003 ∷ 0x2003 ∷ 0x4003 ∷ 0x5003 ∷ []) e (h0 & h1 & h2 & h3 & h4 & tt) refl

pub ruleset load_rows = (lb_at, lh_at, lw_at, lbu_at, lhu_at, load_none)

pub store_none : (w : ℕ) → bit_and w 0x7F ≡ 0x23 → bit_and w 0x707F ≢ 0x23 → bit_and w 0x707F ≢ 0x1023
    → bit_and w 0x707F ≢ 0x2023 → decode w ≡ None
unfolding table
store_none w e h0 h1 h2 = no_row w 0x7F 0x23 0x707F (0x23 ∷ 0x1023 ∷ 0x2023 ∷ []) e (h0 & h1 & h2 & tt) refl

pub ruleset store_rows = (sb_at, sh_at, sw_at, store_none)

pub branch_none : (w : ℕ) → bit_and w 0x7F ≡ 0x63 → bit_and w 0x707F ≢ 0x63 → bit_and w 0x707F ≢ 0x1063
    → bit_and w 0x707F ≢ 0x4063 → bit_and w 0x707F ≢ 0x5063 → bit_and w 0x707F ≢ 0x6063 → bit_and w 0x707F ≢ 0x7063
    → decode w ≡ None
unfolding table
branch_none w e h0 h1 h2 h3 h4 h5 =
    no_row w 0x7F 0x63 0x707F (0x63 ∷ 0x1063 ∷ 0x4063 ∷ 0x5063 ∷ 0x6063 ∷ 0x7063 ∷ []) e
    (h0 & h1 & h2 & h3 & h4 & h5 & tt) refl

pub ruleset branch_rows = (beq_at, bne_at, blt_at, bge_at, bltu_at, bgeu_at, branch_none)

pub jalr_none : (w : ℕ) → bit_and w 0x7F ≡ 0x67 → bit_and w 0x707F ≢ 0x67 → decode w ≡ None
unfolding table
jalr_none w e h0 = no_row w 0x7F 0x67 0x707F (0x67 ∷ []) e (h0 & tt) refl

pub ruleset jalr_rows = (jalr_at, jalr_none)

pub op_imm_none : (w : ℕ) → bit_and w 0x7F ≡ 0x13 → bit_and w 0x707F ≢ 0x13 → bit_and w 0x707F ≢ 0x2013
    → bit_and w 0x707F ≢ 0x3013 → bit_and w 0x707F ≢ 0x4013 → bit_and w 0x707F ≢ 0x6013 → bit_and w 0x707F ≢ 0x7013
    → bit_and w 0x707F ≢ 0x1013 → bit_and w 0x707F ≢ 0x5013 → decode w ≡ None
unfolding table
op_imm_none w e h0 h1 h2 h3 h4 h5 h6 h7 =
    no_row w 0x7F 0x13 0x707F (0x13 ∷ 0x2013 ∷ 0x3013 ∷ 0x4013 ∷ 0x6013 ∷ 0x7013 ∷ 0x1013 ∷ 0x5013 ∷ []) e
    (h0 & h1 & h2 & h3 & h4 & h5 & h6 & h7 & tt) refl

pub ruleset op_imm_rows = (addi_at, slti_at, sltiu_at, xori_at, ori_at, andi_at, op_imm_none)

pub slli_none : (w : ℕ) → bit_and w 0x707F ≡ 0x1013 → bit_and w 0xFE00707F ≢ 0x1013 → decode w ≡ None
unfolding table
slli_none w e h0 = no_row w 0x707F 0x1013 0xFE00707F (0x1013 ∷ []) e (h0 & tt) refl

pub ruleset slli_rows = (slli_at, slli_none)

pub srli_or_srai_none : (w : ℕ) → bit_and w 0x707F ≡ 0x5013 → bit_and w 0xFE00707F ≢ 0x5013
    → bit_and w 0xFE00707F ≢ 0x40005013 → decode w ≡ None
unfolding table
srli_or_srai_none w e h0 h1 = no_row w 0x707F 0x5013 0xFE00707F (0x5013 ∷ 0x40005013 ∷ []) e (h0 & h1 & tt) refl

pub ruleset srli_or_srai_rows = (srli_at, srai_at, srli_or_srai_none)

pub op_none : (w : ℕ) → bit_and w 0x7F ≡ 0x33 → bit_and w 0xFE00707F ≢ 0x33 → bit_and w 0xFE00707F ≢ 0x1033
    → bit_and w 0xFE00707F ≢ 0x2033 → bit_and w 0xFE00707F ≢ 0x3033 → bit_and w 0xFE00707F ≢ 0x4033
    → bit_and w 0xFE00707F ≢ 0x5033 → bit_and w 0xFE00707F ≢ 0x6033 → bit_and w 0xFE00707F ≢ 0x7033
    → bit_and w 0xFE00707F ≢ 0x40000033 → bit_and w 0xFE00707F ≢ 0x40005033 → bit_and w 0xFE00707F ≢ 0x2000033
    → bit_and w 0xFE00707F ≢ 0x2001033 → bit_and w 0xFE00707F ≢ 0x2002033 → bit_and w 0xFE00707F ≢ 0x2003033
    → bit_and w 0xFE00707F ≢ 0x2004033 → bit_and w 0xFE00707F ≢ 0x2005033 → bit_and w 0xFE00707F ≢ 0x2006033
    → bit_and w 0xFE00707F ≢ 0x2007033 → decode w ≡ None
unfolding table
op_none w e h0 h1 h2 h3 h4 h5 h6 h7 h8 h9 h10 h11 h12 h13 h14 h15 h16 h17 =
    no_row w 0x7F 0x33 0xFE00707F
    (0x33 ∷ 0x1033 ∷ 0x2033 ∷ 0x3033 ∷ 0x4033 ∷ 0x5033 ∷ 0x6033 ∷ 0x7033 ∷ 0x40000033 ∷ 0x40005033 ∷ 0x2000033 ∷
    0x2001033 ∷ 0x2002033 ∷ 0x2003033 ∷ 0x2004033 ∷ 0x2005033 ∷ 0x2006033 ∷ 0x2007033 ∷ [])
    e
    (h0 & h1 & h2 & h3 & h4 & h5 & h6 & h7 & h8 & h9 & h10 & h11 & h12 & h13 & h14 & h15 & h16 & h17 & tt)
    refl

pub ruleset op_rows = (
  add_at,
  sll_at,
  slt_at,
  sltu_at,
  xor_at,
  srl_at,
  or_at,
  and_at,
  sub_at,
  sra_at,
  mul_at,
  mulh_at,
  mulhsu_at,
  mulhu_at,
  div_at,
  divu_at,
  rem_at,
  remu_at,
  op_none,
)

pub misc_mem_none : (w : ℕ) → bit_and w 0x7F ≡ 0xF → bit_and w 0x707F ≢ 0xF → bit_and w 0x707F ≢ 0x100F
    → decode w ≡ None
unfolding table
misc_mem_none w e h0 h1 = no_row w 0x7F 0xF 0x707F (0xF ∷ 0x100F ∷ []) e (h0 & h1 & tt) refl

pub ruleset misc_mem_rows = (fence_at, fence_i_at, misc_mem_none)

pub system_none : (w : ℕ) → bit_and w 0x7F ≡ 0x73 → bit_and w 0x707F ≢ 0x1073 → bit_and w 0x707F ≢ 0x2073
    → bit_and w 0x707F ≢ 0x3073 → bit_and w 0x707F ≢ 0x5073 → bit_and w 0x707F ≢ 0x6073 → bit_and w 0x707F ≢ 0x7073
    → bit_and w 0x707F ≢ 0x73 → decode w ≡ None
unfolding table
system_none w e h0 h1 h2 h3 h4 h5 h6 =
    no_row w 0x7F 0x73 0x707F (0x1073 ∷ 0x2073 ∷ 0x3073 ∷ 0x5073 ∷ 0x6073 ∷ 0x7073 ∷ 0x73 ∷ []) e
    (h0 & h1 & h2 & h3 & h4 & h5 & h6 & tt) refl

pub ruleset system_rows = (csrrw_at, csrrs_at, csrrc_at, csrrwi_at, csrrsi_at, csrrci_at, system_none)

pub privileged_none : (w : ℕ) → w < 2 ^ 32 → bit_and w 0x707F ≡ 0x73 → w ≢ 0x73 → w ≢ 0x100073 → w ≢ 0x30200073
    → w ≢ 0x10500073 → decode w ≡ None
unfolding table
privileged_none w l e h0 h1 h2 h3 =
    let masked : (k : ℕ) → w ≢ k → bit_and w 0xFFFFFFFF ≢ k = λ k h f. h (sym (all_ones w l) ∙ f) in
    no_row w 0x707F 0x73 0xFFFFFFFF (0x73 ∷ 0x100073 ∷ 0x30200073 ∷ 0x10500073 ∷ []) e
    (masked _ h0 & masked _ h1 & masked _ h2 & masked _ h3 & tt)
    refl

pub ruleset privileged_rows = (ecall_at, ebreak_at, mret_at, wfi_at, privileged_none)

pub lr_none : (w : ℕ) → bit_and w 0xF800707F ≡ 0x1000202F → bit_and w 0xF9F0707F ≢ 0x1000202F → decode w ≡ None
unfolding table
lr_none w e h0 = no_row w 0xF800707F 0x1000202F 0xF9F0707F (0x1000202F ∷ []) e (h0 & tt) refl

pub ruleset lr_rows = (lr_at, lr_none)

pub amo_none : (w : ℕ) → bit_and w 0x7F ≡ 0x2F → bit_and w 0xF800707F ≢ 0x1800202F → bit_and w 0xF800707F ≢ 0x800202F
    → bit_and w 0xF800707F ≢ 0x202F → bit_and w 0xF800707F ≢ 0x2000202F → bit_and w 0xF800707F ≢ 0x6000202F
    → bit_and w 0xF800707F ≢ 0x4000202F → bit_and w 0xF800707F ≢ 0x8000202F → bit_and w 0xF800707F ≢ 0xA000202F
    → bit_and w 0xF800707F ≢ 0xC000202F → bit_and w 0xF800707F ≢ 0xE000202F → bit_and w 0xF800707F ≢ 0x1000202F
    → decode w ≡ None
unfolding table
amo_none w e h0 h1 h2 h3 h4 h5 h6 h7 h8 h9 h10 =
    no_row w 0x7F 0x2F 0xF800707F
    (0x1800202F ∷ 0x800202F ∷ 0x202F ∷ 0x2000202F ∷ 0x6000202F ∷ 0x4000202F ∷ 0x8000202F ∷ 0xA000202F ∷ 0xC000202F ∷
    0xE000202F ∷ 0x1000202F ∷ [])
    e (h0 & h1 & h2 & h3 & h4 & h5 & h6 & h7 & h8 & h9 & h10 & tt) refl

pub ruleset amo_rows = (
  sc_at,
  amo_swap_at,
  amo_add_at,
  amo_xor_at,
  amo_and_at,
  amo_or_at,
  amo_min_at,
  amo_max_at,
  amo_minu_at,
  amo_maxu_at,
  amo_none,
)

pub opcode_none : (w : ℕ) → bit_and w 0x7F ≢ 0x37 → bit_and w 0x7F ≢ 0x17 → bit_and w 0x7F ≢ 0x6F
    → bit_and w 0x7F ≢ 0x67 → bit_and w 0x7F ≢ 0x63 → bit_and w 0x7F ≢ 0x3 → bit_and w 0x7F ≢ 0x23
    → bit_and w 0x7F ≢ 0x13 → bit_and w 0x7F ≢ 0x33 → bit_and w 0x7F ≢ 0xF → bit_and w 0x7F ≢ 0x73
    → bit_and w 0x7F ≢ 0x2F → decode w ≡ None
unfolding table
opcode_none w h0 h1 h2 h3 h4 h5 h6 h7 h8 h9 h10 h11 =
    no_row w 0x0 0x0 0x7F (0x37 ∷ 0x17 ∷ 0x6F ∷ 0x67 ∷ 0x63 ∷ 0x3 ∷ 0x23 ∷ 0x13 ∷ 0x33 ∷ 0xF ∷ 0x73 ∷ 0x2F ∷ [])
    (and_zero w) (h0 & h1 & h2 & h3 & h4 & h5 & h6 & h7 & h8 & h9 & h10 & h11 & tt) refl

pub ruleset opcode_rows = (lui_at, auipc_at, jal_at, opcode_none)
