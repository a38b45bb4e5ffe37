-- An instruction as a word: what its row fixes and each field in its place (RISC-V unprivileged,
-- RV32I, 2.2 "Base Instruction Formats" and 2.3 "Immediate Encoding Variants").
use Rattle.std.specs.Prelude.{ℕ, suc, ◌+◌, ◌-◌, ◌*◌, ◌/◌, ◌%◌, ◌^◌, Bool, if◌then◌else◌, ℤ, pos, negsuc}
use Rattle.rv_isa.specs.declared.instr.Instr.{Instr}
use Rattle.rv_isa.specs.declared.instr.Instr.TheVariants.{Lui, Auipc, Jal, Jalr, Beq, Bne, Blt, Bge, Bltu, Bgeu, Lb, Lh, Lw, Lbu, Lhu, Sb, Sh, Sw, Addi, Slti, Sltiu, Xori, Ori, Andi, Slli, Srli, Srai, Add, Sll, Slt, Sltu, Xor, Srl, Or, And, Sub, Sra, Mul, Mulh, Mulhsu, Mulhu, Div, Divu, Rem, Remu, Fence, FenceI, Csrrw, Csrrs, Csrrc, Csrrwi, Csrrsi, Csrrci, Ecall, Ebreak, Mret, Wfi, Lr, Sc, AmoSwap, AmoAdd, AmoXor, AmoAnd, AmoOr, AmoMin, AmoMax, AmoMinu, AmoMaxu}

-- a signed number as k bits of two's complement
abbrev pub unsigned : ℕ → ℤ → ℕ
unsigned k (pos n) = n
unsigned k (negsuc n) = 2 ^ k - suc n

-- the registers in their places
abbrev pub in_rd : ℕ → ℕ
in_rd r = r * 2 ^ 7

abbrev pub in_rs1 : ℕ → ℕ
in_rs1 r = r * 2 ^ 15

abbrev pub in_rs2 : ℕ → ℕ
in_rs2 r = r * 2 ^ 20

-- the immediates in theirs
abbrev pub in_imm_i : ℕ → ℕ
in_imm_i n = n * 2 ^ 20

abbrev pub in_imm_s : ℕ → ℕ
in_imm_s n = n / 2 ^ 5 * 2 ^ 25 + n % 2 ^ 5 * 2 ^ 7

abbrev pub in_imm_b : ℕ → ℕ
in_imm_b n =
    n / 2 ^ 12 * 2 ^ 31 + n / 2 ^ 5 % 2 ^ 6 * 2 ^ 25 + n / 2 % 2 ^ 4 * 2 ^ 8
    + n / 2 ^ 11 % 2 * 2 ^ 7

abbrev pub in_imm_u : ℕ → ℕ
in_imm_u n = n * 2 ^ 12

abbrev pub in_imm_j : ℕ → ℕ
in_imm_j n =
    n / 2 ^ 20 * 2 ^ 31 + n / 2 % 2 ^ 10 * 2 ^ 21 + n / 2 ^ 11 % 2 * 2 ^ 20
    + n / 2 ^ 12 % 2 ^ 8 * 2 ^ 12

-- a CSR's number, acquire and release, and what a fence keeps
abbrev pub in_csr : ℕ → ℕ
in_csr n = n * 2 ^ 20

abbrev pub in_aq : Bool → ℕ
in_aq b = if b then 2 ^ 26 else 0

abbrev pub in_rl : Bool → ℕ
in_rl b = if b then 2 ^ 25 else 0

abbrev pub in_rest : ℕ → ℕ
in_rest n = n / 2 ^ 5 * 2 ^ 15 + n % 2 ^ 5 * 2 ^ 7

-- the formats
abbrev pub u_type_word : ℕ → ℕ → ℕ → ℕ
u_type_word value a n = value + in_rd a + in_imm_u n

abbrev pub j_type_word : ℕ → ℕ → ℤ → ℕ
j_type_word value a z = value + in_rd a + in_imm_j (unsigned 21 z)

abbrev pub i_type_word : ℕ → ℕ → ℕ → ℤ → ℕ
i_type_word value a b z = value + in_rd a + in_rs1 b + in_imm_i (unsigned 12 z)

abbrev pub b_type_word : ℕ → ℕ → ℕ → ℤ → ℕ
b_type_word value a b z = value + in_rs1 a + in_rs2 b + in_imm_b (unsigned 13 z)

abbrev pub s_type_word : ℕ → ℕ → ℕ → ℤ → ℕ
s_type_word value a b z = value + in_rs1 a + in_rs2 b + in_imm_s (unsigned 12 z)

abbrev pub r_type_word : ℕ → ℕ → ℕ → ℕ → ℕ
r_type_word value a b c = value + in_rd a + in_rs1 b + in_rs2 c

abbrev pub fence_word : ℕ → ℕ → ℕ
fence_word value n = value + in_rest n

abbrev pub csr_word : ℕ → ℕ → ℕ → ℕ → ℕ
csr_word value a b n = value + in_rd a + in_rs1 b + in_csr n

abbrev pub amo_word : ℕ → ℕ → ℕ → ℕ → Bool → Bool → ℕ
amo_word value a b c p q = value + in_rd a + in_rs1 b + in_rs2 c + in_aq p + in_rl q

abbrev pub lr_word : ℕ → ℕ → ℕ → Bool → Bool → ℕ
lr_word value a b p q = value + in_rd a + in_rs1 b + in_aq p + in_rl q

-- the word of each instruction
abbrev pub word_of : Instr → ℕ
word_of (Lui rd imm) = u_type_word 0x00000037 rd imm
word_of (Auipc rd imm) = u_type_word 0x00000017 rd imm
word_of (Jal rd imm) = j_type_word 0x0000006F rd imm
word_of (Jalr rd rs1 imm) = i_type_word 0x00000067 rd rs1 imm
word_of (Beq rs1 rs2 imm) = b_type_word 0x00000063 rs1 rs2 imm
word_of (Bne rs1 rs2 imm) = b_type_word 0x00001063 rs1 rs2 imm
word_of (Blt rs1 rs2 imm) = b_type_word 0x00004063 rs1 rs2 imm
word_of (Bge rs1 rs2 imm) = b_type_word 0x00005063 rs1 rs2 imm
word_of (Bltu rs1 rs2 imm) = b_type_word 0x00006063 rs1 rs2 imm
word_of (Bgeu rs1 rs2 imm) = b_type_word 0x00007063 rs1 rs2 imm
word_of (Lb rd rs1 imm) = i_type_word 0x00000003 rd rs1 imm
word_of (Lh rd rs1 imm) = i_type_word 0x00001003 rd rs1 imm
word_of (Lw rd rs1 imm) = i_type_word 0x00002003 rd rs1 imm
word_of (Lbu rd rs1 imm) = i_type_word 0x00004003 rd rs1 imm
word_of (Lhu rd rs1 imm) = i_type_word 0x00005003 rd rs1 imm
word_of (Sb rs1 rs2 imm) = s_type_word 0x00000023 rs1 rs2 imm
word_of (Sh rs1 rs2 imm) = s_type_word 0x00001023 rs1 rs2 imm
word_of (Sw rs1 rs2 imm) = s_type_word 0x00002023 rs1 rs2 imm
word_of (Addi rd rs1 imm) = i_type_word 0x00000013 rd rs1 imm
word_of (Slti rd rs1 imm) = i_type_word 0x00002013 rd rs1 imm
word_of (Sltiu rd rs1 imm) = i_type_word 0x00003013 rd rs1 imm
word_of (Xori rd rs1 imm) = i_type_word 0x00004013 rd rs1 imm
word_of (Ori rd rs1 imm) = i_type_word 0x00006013 rd rs1 imm
word_of (Andi rd rs1 imm) = i_type_word 0x00007013 rd rs1 imm
word_of (Slli rd rs1 shamt) = r_type_word 0x00001013 rd rs1 shamt
word_of (Srli rd rs1 shamt) = r_type_word 0x00005013 rd rs1 shamt
word_of (Srai rd rs1 shamt) = r_type_word 0x40005013 rd rs1 shamt
word_of (Add rd rs1 rs2) = r_type_word 0x00000033 rd rs1 rs2
word_of (Sll rd rs1 rs2) = r_type_word 0x00001033 rd rs1 rs2
word_of (Slt rd rs1 rs2) = r_type_word 0x00002033 rd rs1 rs2
word_of (Sltu rd rs1 rs2) = r_type_word 0x00003033 rd rs1 rs2
word_of (Xor rd rs1 rs2) = r_type_word 0x00004033 rd rs1 rs2
word_of (Srl rd rs1 rs2) = r_type_word 0x00005033 rd rs1 rs2
word_of (Or rd rs1 rs2) = r_type_word 0x00006033 rd rs1 rs2
word_of (And rd rs1 rs2) = r_type_word 0x00007033 rd rs1 rs2
word_of (Sub rd rs1 rs2) = r_type_word 0x40000033 rd rs1 rs2
word_of (Sra rd rs1 rs2) = r_type_word 0x40005033 rd rs1 rs2
word_of (Mul rd rs1 rs2) = r_type_word 0x02000033 rd rs1 rs2
word_of (Mulh rd rs1 rs2) = r_type_word 0x02001033 rd rs1 rs2
word_of (Mulhsu rd rs1 rs2) = r_type_word 0x02002033 rd rs1 rs2
word_of (Mulhu rd rs1 rs2) = r_type_word 0x02003033 rd rs1 rs2
word_of (Div rd rs1 rs2) = r_type_word 0x02004033 rd rs1 rs2
word_of (Divu rd rs1 rs2) = r_type_word 0x02005033 rd rs1 rs2
word_of (Rem rd rs1 rs2) = r_type_word 0x02006033 rd rs1 rs2
word_of (Remu rd rs1 rs2) = r_type_word 0x02007033 rd rs1 rs2
word_of (Fence rest) = fence_word 0x0000000F rest
word_of (FenceI rest) = fence_word 0x0000100F rest
word_of (Csrrw rd rs1 csr) = csr_word 0x00001073 rd rs1 csr
word_of (Csrrs rd rs1 csr) = csr_word 0x00002073 rd rs1 csr
word_of (Csrrc rd rs1 csr) = csr_word 0x00003073 rd rs1 csr
word_of (Csrrwi rd imm csr) = csr_word 0x00005073 rd imm csr
word_of (Csrrsi rd imm csr) = csr_word 0x00006073 rd imm csr
word_of (Csrrci rd imm csr) = csr_word 0x00007073 rd imm csr
word_of Ecall = 0x00000073
word_of Ebreak = 0x00100073
word_of Mret = 0x30200073
word_of Wfi = 0x10500073
word_of (Lr rd rs1 aq rl) = lr_word 0x1000202F rd rs1 aq rl
word_of (Sc rd rs1 rs2 aq rl) = amo_word 0x1800202F rd rs1 rs2 aq rl
word_of (AmoSwap rd rs1 rs2 aq rl) = amo_word 0x0800202F rd rs1 rs2 aq rl
word_of (AmoAdd rd rs1 rs2 aq rl) = amo_word 0x0000202F rd rs1 rs2 aq rl
word_of (AmoXor rd rs1 rs2 aq rl) = amo_word 0x2000202F rd rs1 rs2 aq rl
word_of (AmoAnd rd rs1 rs2 aq rl) = amo_word 0x6000202F rd rs1 rs2 aq rl
word_of (AmoOr rd rs1 rs2 aq rl) = amo_word 0x4000202F rd rs1 rs2 aq rl
word_of (AmoMin rd rs1 rs2 aq rl) = amo_word 0x8000202F rd rs1 rs2 aq rl
word_of (AmoMax rd rs1 rs2 aq rl) = amo_word 0xA000202F rd rs1 rs2 aq rl
word_of (AmoMinu rd rs1 rs2 aq rl) = amo_word 0xC000202F rd rs1 rs2 aq rl
word_of (AmoMaxu rd rs1 rs2 aq rl) = amo_word 0xE000202F rd rs1 rs2 aq rl
