-- The word of an instruction with each field within its range decodes to it.
use Rattle.std.proofs.Common.{◌≡◌, ℕ, ◌<◌, ◌^◌, Bool, ℤ, bit_and, Some, lit<, refl}
use Rattle.rv_isa.specs.declared.instr.Instr.{Instr}
use Rattle.rv_isa.specs.declared.instr.Instr.TheVariants.{Lui, Auipc, Jal, Jalr, Beq, Bne, Blt, Bge, Bltu, Bgeu, Lb, Lh, Lw, Lbu, Lhu, Sb, Sh, Sw, Addi, Slti, Sltiu, Xori, Ori, Andi, Slli, Srli, Srai, Add, Sll, Slt, Sltu, Xor, Srl, Or, And, Sub, Sra, Mul, Mulh, Mulhsu, Mulhu, Div, Divu, Rem, Remu, Fence, FenceI, Csrrw, Csrrs, Csrrc, Csrrwi, Csrrsi, Csrrci, Ecall, Ebreak, Mret, Wfi, Lr, Sc, AmoSwap, AmoAdd, AmoXor, AmoAnd, AmoOr, AmoMin, AmoMax, AmoMinu, AmoMaxu}
use Rattle.rv_isa.specs.Fields.{rd, rs1, rs2, imm_i, imm_s, imm_b, imm_u, imm_j, csr, aq, rl, rest}
use Rattle.rv_isa.specs.Ranges.{IsSigned, IsOffset, IsWithin}
use Rattle.rv_isa.specs.Table.{decode, IsEncodable}
use Rattle.rv_isa.specs.Words.{u_type_word, j_type_word, i_type_word, b_type_word, s_type_word, r_type_word, fence_word, csr_word, amo_word, lr_word, word_of}
use Rattle.rv_isa.proofs.DecodeLemmas.{lui_at, auipc_at, jal_at, jalr_at, beq_at, bne_at, blt_at, bge_at, bltu_at, bgeu_at, lb_at, lh_at, lw_at, lbu_at, lhu_at, sb_at, sh_at, sw_at, addi_at, slti_at, sltiu_at, xori_at, ori_at, andi_at, slli_at, srli_at, srai_at, add_at, sll_at, slt_at, sltu_at, xor_at, srl_at, or_at, and_at, sub_at, sra_at, mul_at, mulh_at, mulhsu_at, mulhu_at, div_at, divu_at, rem_at, remu_at, fence_at, fence_i_at, csrrw_at, csrrs_at, csrrc_at, csrrwi_at, csrrsi_at, csrrci_at, ecall_at, ebreak_at, mret_at, wfi_at, lr_at, sc_at, amo_swap_at, amo_add_at, amo_xor_at, amo_and_at, amo_or_at, amo_min_at, amo_max_at, amo_minu_at, amo_maxu_at}
use Rattle.rv_isa.proofs.FieldLemmas.{Funct5, with_funct3, with_funct7, with_funct5, with_lr, u_type_fields, j_type_fields, i_type_fields, b_type_fields, s_type_fields, fence_fields, csr_fields, r_type_fields, amo_fields, lr_fields}
use Rattle.rv_isa.proofs.RangeLemmas.{within}

-- the word decodes to the instruction
abbrev pub DecodesTo : ℕ → Instr → Type 0
DecodesTo w i = (w < 2 ^ 32) × (decode w ≡ Some i)

-- each format: v is what the row fixes
u_type_decodes : (v : ℕ) → v < 2 ^ 7 → (name : ℕ → ℕ → Instr)
    → ((w : ℕ) → bit_and w 0x7F ≡ v → decode w ≡ Some (name (rd w) (imm_u w)))
    → (a n : ℕ) → a < 32 → n < 2 ^ 20 → DecodesTo (u_type_word v a n) (name a n)
u_type_decodes v low name row a n la ln =
    let k = u_type_fields v a n low la ln in (k.0, rw (k.2, k.3) at (row _ k.1))

j_type_decodes : (v : ℕ) → v < 2 ^ 7 → (name : ℕ → ℤ → Instr)
    → ((w : ℕ) → bit_and w 0x7F ≡ v → decode w ≡ Some (name (rd w) (imm_j w)))
    → (a : ℕ) (z : ℤ) → a < 32 → IsOffset 21 z → DecodesTo (j_type_word v a z) (name a z)
j_type_decodes v low name row a z la lz =
    let k = j_type_fields v a z low la lz in (k.0, rw (k.2, k.3) at (row _ k.1))

i_type_decodes : (v : ℕ) → bit_and v 0x707F ≡ v → (name : ℕ → ℕ → ℤ → Instr)
    → ((w : ℕ) → bit_and w 0x707F ≡ v → decode w ≡ Some (name (rd w) (rs1 w) (imm_i w)))
    → (a b : ℕ) (z : ℤ) → a < 32 → b < 32 → IsSigned 12 z → DecodesTo (i_type_word v a b z) (name a b z)
i_type_decodes v fixed name row a b z la lb lz =
    let k = i_type_fields v a b z (with_funct3 v fixed) la lb lz in (k.0, rw (k.2, k.3, k.4) at (row _ k.1))

b_type_decodes : (v : ℕ) → bit_and v 0x707F ≡ v → (name : ℕ → ℕ → ℤ → Instr)
    → ((w : ℕ) → bit_and w 0x707F ≡ v → decode w ≡ Some (name (rs1 w) (rs2 w) (imm_b w)))
    → (a b : ℕ) (z : ℤ) → a < 32 → b < 32 → IsOffset 13 z → DecodesTo (b_type_word v a b z) (name a b z)
b_type_decodes v fixed name row a b z la lb lz =
    let k = b_type_fields v a b z (with_funct3 v fixed) la lb lz in (k.0, rw (k.2, k.3, k.4) at (row _ k.1))

s_type_decodes : (v : ℕ) → bit_and v 0x707F ≡ v → (name : ℕ → ℕ → ℤ → Instr)
    → ((w : ℕ) → bit_and w 0x707F ≡ v → decode w ≡ Some (name (rs1 w) (rs2 w) (imm_s w)))
    → (a b : ℕ) (z : ℤ) → a < 32 → b < 32 → IsSigned 12 z → DecodesTo (s_type_word v a b z) (name a b z)
s_type_decodes v fixed name row a b z la lb lz =
    let k = s_type_fields v a b z (with_funct3 v fixed) la lb lz in (k.0, rw (k.2, k.3, k.4) at (row _ k.1))

fence_decodes : (v : ℕ) → bit_and v 0x707F ≡ v → (name : ℕ → Instr)
    → ((w : ℕ) → bit_and w 0x707F ≡ v → decode w ≡ Some (name (rest w)))
    → (n : ℕ) → n < 2 ^ 22 → DecodesTo (fence_word v n) (name n)
fence_decodes v fixed name row n ln =
    let k = fence_fields v n (with_funct3 v fixed) ln in (k.0, rw k.2 at (row _ k.1))

csr_type_decodes : (v : ℕ) → bit_and v 0x707F ≡ v → (name : ℕ → ℕ → ℕ → Instr)
    → ((w : ℕ) → bit_and w 0x707F ≡ v → decode w ≡ Some (name (rd w) (rs1 w) (csr w)))
    → (a b n : ℕ) → a < 32 → b < 32 → n < 2 ^ 12 → DecodesTo (csr_word v a b n) (name a b n)
csr_type_decodes v fixed name row a b n la lb ln =
    let k = csr_fields v a b n (with_funct3 v fixed) la lb ln in (k.0, rw (k.2, k.3, k.4) at (row _ k.1))

r_type_decodes : (v : ℕ) → bit_and v 0xFE00707F ≡ v → (name : ℕ → ℕ → ℕ → Instr)
    → ((w : ℕ) → bit_and w 0xFE00707F ≡ v → decode w ≡ Some (name (rd w) (rs1 w) (rs2 w)))
    → (a b c : ℕ) → a < 32 → b < 32 → c < 32 → DecodesTo (r_type_word v a b c) (name a b c)
r_type_decodes v fixed name row a b c la lb lc =
    let k = r_type_fields v a b c (with_funct7 v fixed) la lb lc in (k.0, rw (k.2, k.3, k.4) at (row _ k.1))

amo_type_decodes : (v : ℕ) → bit_and v 0xF800707F ≡ v → (name : ℕ → ℕ → ℕ → Bool → Bool → Instr)
    → ((w : ℕ) → bit_and w 0xF800707F ≡ v → decode w ≡ Some (name (rd w) (rs1 w) (rs2 w) (aq w) (rl w)))
    → (a b c : ℕ) (p q : Bool) → a < 32 → b < 32 → c < 32 → DecodesTo (amo_word v a b c p q) (name a b c p q)
amo_type_decodes v fixed name row a b c p q la lb lc =
    let k = amo_fields v a b c p q (with_funct5 v fixed) la lb lc in (k.0, rw (k.2, k.3, k.4, k.5, k.6) at (row _ k.1))

lr_type_decodes : (v : ℕ) → Funct5 v → (name : ℕ → ℕ → Bool → Bool → Instr)
    → ((w : ℕ) → bit_and w 0xF9F0707F ≡ v → decode w ≡ Some (name (rd w) (rs1 w) (aq w) (rl w)))
    → (a b : ℕ) (p q : Bool) → a < 32 → b < 32 → DecodesTo (lr_word v a b p q) (name a b p q)
lr_type_decodes v fixed name row a b p q la lb =
    let k = lr_fields v a b p q fixed la lb in (k.0, rw (k.2, k.3, k.4, k.5) at (row _ k.1))

-- each instruction
pub decodes : (i : Instr) → IsWithin i → DecodesTo (word_of i) i
decodes (Lui rd imm) h = u_type_decodes 0x00000037 (lit< tt) Lui lui_at rd imm h.0 h.1
decodes (Auipc rd imm) h = u_type_decodes 0x00000017 (lit< tt) Auipc auipc_at rd imm h.0 h.1
decodes (Jal rd imm) h = j_type_decodes 0x0000006F (lit< tt) Jal jal_at rd imm h.0 h.1
decodes (Jalr rd rs1 imm) h = i_type_decodes 0x00000067 refl Jalr jalr_at rd rs1 imm h.0 h.1 h.2
decodes (Beq rs1 rs2 imm) h = b_type_decodes 0x00000063 refl Beq beq_at rs1 rs2 imm h.0 h.1 h.2
decodes (Bne rs1 rs2 imm) h = b_type_decodes 0x00001063 refl Bne bne_at rs1 rs2 imm h.0 h.1 h.2
decodes (Blt rs1 rs2 imm) h = b_type_decodes 0x00004063 refl Blt blt_at rs1 rs2 imm h.0 h.1 h.2
decodes (Bge rs1 rs2 imm) h = b_type_decodes 0x00005063 refl Bge bge_at rs1 rs2 imm h.0 h.1 h.2
decodes (Bltu rs1 rs2 imm) h = b_type_decodes 0x00006063 refl Bltu bltu_at rs1 rs2 imm h.0 h.1 h.2
decodes (Bgeu rs1 rs2 imm) h = b_type_decodes 0x00007063 refl Bgeu bgeu_at rs1 rs2 imm h.0 h.1 h.2
decodes (Lb rd rs1 imm) h = i_type_decodes 0x00000003 refl Lb lb_at rd rs1 imm h.0 h.1 h.2
decodes (Lh rd rs1 imm) h = i_type_decodes 0x00001003 refl Lh lh_at rd rs1 imm h.0 h.1 h.2
decodes (Lw rd rs1 imm) h = i_type_decodes 0x00002003 refl Lw lw_at rd rs1 imm h.0 h.1 h.2
decodes (Lbu rd rs1 imm) h = i_type_decodes 0x00004003 refl Lbu lbu_at rd rs1 imm h.0 h.1 h.2
decodes (Lhu rd rs1 imm) h = i_type_decodes 0x00005003 refl Lhu lhu_at rd rs1 imm h.0 h.1 h.2
decodes (Sb rs1 rs2 imm) h = s_type_decodes 0x00000023 refl Sb sb_at rs1 rs2 imm h.0 h.1 h.2
decodes (Sh rs1 rs2 imm) h = s_type_decodes 0x00001023 refl Sh sh_at rs1 rs2 imm h.0 h.1 h.2
decodes (Sw rs1 rs2 imm) h = s_type_decodes 0x00002023 refl Sw sw_at rs1 rs2 imm h.0 h.1 h.2
decodes (Addi rd rs1 imm) h = i_type_decodes 0x00000013 refl Addi addi_at rd rs1 imm h.0 h.1 h.2
decodes (Slti rd rs1 imm) h = i_type_decodes 0x00002013 refl Slti slti_at rd rs1 imm h.0 h.1 h.2
decodes (Sltiu rd rs1 imm) h = i_type_decodes 0x00003013 refl Sltiu sltiu_at rd rs1 imm h.0 h.1 h.2
decodes (Xori rd rs1 imm) h = i_type_decodes 0x00004013 refl Xori xori_at rd rs1 imm h.0 h.1 h.2
decodes (Ori rd rs1 imm) h = i_type_decodes 0x00006013 refl Ori ori_at rd rs1 imm h.0 h.1 h.2
decodes (Andi rd rs1 imm) h = i_type_decodes 0x00007013 refl Andi andi_at rd rs1 imm h.0 h.1 h.2
decodes (Slli rd rs1 shamt) h = r_type_decodes 0x00001013 refl Slli slli_at rd rs1 shamt h.0 h.1 h.2
decodes (Srli rd rs1 shamt) h = r_type_decodes 0x00005013 refl Srli srli_at rd rs1 shamt h.0 h.1 h.2
decodes (Srai rd rs1 shamt) h = r_type_decodes 0x40005013 refl Srai srai_at rd rs1 shamt h.0 h.1 h.2
decodes (Add rd rs1 rs2) h = r_type_decodes 0x00000033 refl Add add_at rd rs1 rs2 h.0 h.1 h.2
decodes (Sll rd rs1 rs2) h = r_type_decodes 0x00001033 refl Sll sll_at rd rs1 rs2 h.0 h.1 h.2
decodes (Slt rd rs1 rs2) h = r_type_decodes 0x00002033 refl Slt slt_at rd rs1 rs2 h.0 h.1 h.2
decodes (Sltu rd rs1 rs2) h = r_type_decodes 0x00003033 refl Sltu sltu_at rd rs1 rs2 h.0 h.1 h.2
decodes (Xor rd rs1 rs2) h = r_type_decodes 0x00004033 refl Xor xor_at rd rs1 rs2 h.0 h.1 h.2
decodes (Srl rd rs1 rs2) h = r_type_decodes 0x00005033 refl Srl srl_at rd rs1 rs2 h.0 h.1 h.2
decodes (Or rd rs1 rs2) h = r_type_decodes 0x00006033 refl Or or_at rd rs1 rs2 h.0 h.1 h.2
decodes (And rd rs1 rs2) h = r_type_decodes 0x00007033 refl And and_at rd rs1 rs2 h.0 h.1 h.2
decodes (Sub rd rs1 rs2) h = r_type_decodes 0x40000033 refl Sub sub_at rd rs1 rs2 h.0 h.1 h.2
decodes (Sra rd rs1 rs2) h = r_type_decodes 0x40005033 refl Sra sra_at rd rs1 rs2 h.0 h.1 h.2
decodes (Mul rd rs1 rs2) h = r_type_decodes 0x02000033 refl Mul mul_at rd rs1 rs2 h.0 h.1 h.2
decodes (Mulh rd rs1 rs2) h = r_type_decodes 0x02001033 refl Mulh mulh_at rd rs1 rs2 h.0 h.1 h.2
decodes (Mulhsu rd rs1 rs2) h = r_type_decodes 0x02002033 refl Mulhsu mulhsu_at rd rs1 rs2 h.0 h.1 h.2
decodes (Mulhu rd rs1 rs2) h = r_type_decodes 0x02003033 refl Mulhu mulhu_at rd rs1 rs2 h.0 h.1 h.2
decodes (Div rd rs1 rs2) h = r_type_decodes 0x02004033 refl Div div_at rd rs1 rs2 h.0 h.1 h.2
decodes (Divu rd rs1 rs2) h = r_type_decodes 0x02005033 refl Divu divu_at rd rs1 rs2 h.0 h.1 h.2
decodes (Rem rd rs1 rs2) h = r_type_decodes 0x02006033 refl Rem rem_at rd rs1 rs2 h.0 h.1 h.2
decodes (Remu rd rs1 rs2) h = r_type_decodes 0x02007033 refl Remu remu_at rd rs1 rs2 h.0 h.1 h.2
decodes (Fence rest) h = fence_decodes 0x0000000F refl Fence fence_at rest h
decodes (FenceI rest) h = fence_decodes 0x0000100F refl FenceI fence_i_at rest h
decodes (Csrrw rd rs1 csr) h = csr_type_decodes 0x00001073 refl Csrrw csrrw_at rd rs1 csr h.0 h.1 h.2
decodes (Csrrs rd rs1 csr) h = csr_type_decodes 0x00002073 refl Csrrs csrrs_at rd rs1 csr h.0 h.1 h.2
decodes (Csrrc rd rs1 csr) h = csr_type_decodes 0x00003073 refl Csrrc csrrc_at rd rs1 csr h.0 h.1 h.2
decodes (Csrrwi rd imm csr) h = csr_type_decodes 0x00005073 refl Csrrwi csrrwi_at rd imm csr h.0 h.1 h.2
decodes (Csrrsi rd imm csr) h = csr_type_decodes 0x00006073 refl Csrrsi csrrsi_at rd imm csr h.0 h.1 h.2
decodes (Csrrci rd imm csr) h = csr_type_decodes 0x00007073 refl Csrrci csrrci_at rd imm csr h.0 h.1 h.2
decodes Ecall h = (lit< tt, ecall_at _ refl)
decodes Ebreak h = (lit< tt, ebreak_at _ refl)
decodes Mret h = (lit< tt, mret_at _ refl)
decodes Wfi h = (lit< tt, wfi_at _ refl)
decodes (Lr rd rs1 aq rl) h = lr_type_decodes 0x1000202F (with_lr 0x1000202F refl refl) Lr lr_at rd rs1 aq rl h.0 h.1
decodes (Sc rd rs1 rs2 aq rl) h = amo_type_decodes 0x1800202F refl Sc sc_at rd rs1 rs2 aq rl h.0 h.1 h.2
decodes (AmoSwap rd rs1 rs2 aq rl) h = amo_type_decodes 0x0800202F refl AmoSwap amo_swap_at rd rs1 rs2 aq rl h.0 h.1 h.2
decodes (AmoAdd rd rs1 rs2 aq rl) h = amo_type_decodes 0x0000202F refl AmoAdd amo_add_at rd rs1 rs2 aq rl h.0 h.1 h.2
decodes (AmoXor rd rs1 rs2 aq rl) h = amo_type_decodes 0x2000202F refl AmoXor amo_xor_at rd rs1 rs2 aq rl h.0 h.1 h.2
decodes (AmoAnd rd rs1 rs2 aq rl) h = amo_type_decodes 0x6000202F refl AmoAnd amo_and_at rd rs1 rs2 aq rl h.0 h.1 h.2
decodes (AmoOr rd rs1 rs2 aq rl) h = amo_type_decodes 0x4000202F refl AmoOr amo_or_at rd rs1 rs2 aq rl h.0 h.1 h.2
decodes (AmoMin rd rs1 rs2 aq rl) h = amo_type_decodes 0x8000202F refl AmoMin amo_min_at rd rs1 rs2 aq rl h.0 h.1 h.2
decodes (AmoMax rd rs1 rs2 aq rl) h = amo_type_decodes 0xA000202F refl AmoMax amo_max_at rd rs1 rs2 aq rl h.0 h.1 h.2
decodes (AmoMinu rd rs1 rs2 aq rl) h = amo_type_decodes 0xC000202F refl AmoMinu amo_minu_at rd rs1 rs2 aq rl h.0 h.1 h.2
decodes (AmoMaxu rd rs1 rs2 aq rl) h = amo_type_decodes 0xE000202F refl AmoMaxu amo_maxu_at rd rs1 rs2 aq rl h.0 h.1 h.2

pub encodable_in_range : (i : Instr) → IsWithin i → IsEncodable i
encodable_in_range i h = record { word = word_of i; in_range = (decodes i h).0; decodes = (decodes i h).1 }

-- what a word decodes to is within its fields
pub range_of_encodable : (i : Instr) → IsEncodable i → IsWithin i
range_of_encodable i s = rw s.decodes at (within s.word s.in_range)
