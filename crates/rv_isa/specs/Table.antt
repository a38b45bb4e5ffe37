-- The instruction table of RV32IMA with Zicsr and Zifencei, and MRET and WFI of machine mode: one
-- row for each instruction (RISC-V unprivileged, "RV32/64G Instruction Set Listings"; privileged,
-- "RISC-V Privileged Instruction Set Listings").
use Rattle.std.specs.Prelude.{◌≡◌, ℕ, ◌^◌, ◌<◌, Bool, if◌then◌else◌, ◌==◌, bit_and, IsTrue, ℤ, Option, Some, None, List, [], ◌∷◌, AllPairs}
use Rattle.rv_isa.specs.declared.instr.Instr.{Instr}
use Rattle.rv_isa.specs.declared.instr.Instr.TheVariants.{Lui, Auipc, Jal, Jalr, Beq, Bne, Blt, Bge, Bltu, Bgeu, Lb, Lh, Lw, Lbu, Lhu, Sb, Sh, Sw, Addi, Slti, Sltiu, Xori, Ori, Andi, Slli, Srli, Srai, Add, Sll, Slt, Sltu, Xor, Srl, Or, And, Sub, Sra, Mul, Mulh, Mulhsu, Mulhu, Div, Divu, Rem, Remu, Fence, FenceI, Csrrw, Csrrs, Csrrc, Csrrwi, Csrrsi, Csrrci, Ecall, Ebreak, Mret, Wfi, Lr, Sc, AmoSwap, AmoAdd, AmoXor, AmoAnd, AmoOr, AmoMin, AmoMax, AmoMinu, AmoMaxu}
use Rattle.rv_isa.specs.Fields.{rd, rs1, rs2, shamt, imm_i, imm_s, imm_b, imm_u, imm_j, csr, aq, rl, rest}

-- which bits of a word a row fixes, to which values, and what it reads from the word
pub record Row : Type 0 where
  pub mask : ℕ
  pub value : ℕ
  pub read : ℕ → Instr

-- the formats of rows: of each the opcode is fixed, bits 6 to 0
abbrev pub u_type : ℕ → (ℕ → ℕ → Instr) → Row
u_type value name = record { mask = 0x7F; value = value; read = λ w. name (rd w) (imm_u w) }

abbrev pub j_type : ℕ → (ℕ → ℤ → Instr) → Row
j_type value name = record { mask = 0x7F; value = value; read = λ w. name (rd w) (imm_j w) }

-- funct3 is fixed too, bits 14 to 12
abbrev pub i_type : ℕ → (ℕ → ℕ → ℤ → Instr) → Row
i_type value name =
    record { mask = 0x707F; value = value; read = λ w. name (rd w) (rs1 w) (imm_i w) }

abbrev pub b_type : ℕ → (ℕ → ℕ → ℤ → Instr) → Row
b_type value name =
    record { mask = 0x707F; value = value; read = λ w. name (rs1 w) (rs2 w) (imm_b w) }

abbrev pub s_type : ℕ → (ℕ → ℕ → ℤ → Instr) → Row
s_type value name =
    record { mask = 0x707F; value = value; read = λ w. name (rs1 w) (rs2 w) (imm_s w) }

abbrev pub fence_type : ℕ → (ℕ → Instr) → Row
fence_type value name = record { mask = 0x707F; value = value; read = λ w. name (rest w) }

-- with an immediate it stands in the place of rs1
abbrev pub csr_type : ℕ → (ℕ → ℕ → ℕ → Instr) → Row
csr_type value name =
    record { mask = 0x707F; value = value; read = λ w. name (rd w) (rs1 w) (csr w) }

-- funct7 is fixed too, bits 31 to 25
abbrev pub r_type : ℕ → (ℕ → ℕ → ℕ → Instr) → Row
r_type value name =
    record { mask = 0xFE00707F; value = value; read = λ w. name (rd w) (rs1 w) (rs2 w) }

abbrev pub shift_type : ℕ → (ℕ → ℕ → ℕ → Instr) → Row
shift_type value name =
    record { mask = 0xFE00707F; value = value; read = λ w. name (rd w) (rs1 w) (shamt w) }

-- of bits 31 to 25 the upper five, funct5, are fixed
abbrev pub amo_type : ℕ → (ℕ → ℕ → ℕ → Bool → Bool → Instr) → Row
amo_type value name =
    record
    { mask = 0xF800707F; value = value; read = λ w. name (rd w) (rs1 w) (rs2 w) (aq w) (rl w) }

-- and the place of rs2
abbrev pub lr_type : ℕ → (ℕ → ℕ → Bool → Bool → Instr) → Row
lr_type value name =
    record { mask = 0xF9F0707F; value = value; read = λ w. name (rd w) (rs1 w) (aq w) (rl w) }

-- the whole word is fixed
abbrev pub exact : ℕ → Instr → Row
exact value name = record { mask = 0xFFFFFFFF; value = value; read = λ _. name }

unfoldable pub table : List Row
table =
    -- RV32I, 2.4 and 2.5: upper immediates, jumps and branches
    u_type 0x00000037 Lui ∷
    u_type 0x00000017 Auipc ∷
    j_type 0x0000006F Jal ∷
    i_type 0x00000067 Jalr ∷
    b_type 0x00000063 Beq ∷
    b_type 0x00001063 Bne ∷
    b_type 0x00004063 Blt ∷
    b_type 0x00005063 Bge ∷
    b_type 0x00006063 Bltu ∷
    b_type 0x00007063 Bgeu ∷
    -- RV32I, 2.6: loads and stores
    i_type 0x00000003 Lb ∷
    i_type 0x00001003 Lh ∷
    i_type 0x00002003 Lw ∷
    i_type 0x00004003 Lbu ∷
    i_type 0x00005003 Lhu ∷
    s_type 0x00000023 Sb ∷
    s_type 0x00001023 Sh ∷
    s_type 0x00002023 Sw ∷
    -- RV32I, 2.4.1: arithmetic with an immediate
    i_type 0x00000013 Addi ∷
    i_type 0x00002013 Slti ∷
    i_type 0x00003013 Sltiu ∷
    i_type 0x00004013 Xori ∷
    i_type 0x00006013 Ori ∷
    i_type 0x00007013 Andi ∷
    shift_type 0x00001013 Slli ∷
    shift_type 0x00005013 Srli ∷
    shift_type 0x40005013 Srai ∷
    -- RV32I, 2.4.2: arithmetic of registers
    r_type 0x00000033 Add ∷
    r_type 0x00001033 Sll ∷
    r_type 0x00002033 Slt ∷
    r_type 0x00003033 Sltu ∷
    r_type 0x00004033 Xor ∷
    r_type 0x00005033 Srl ∷
    r_type 0x00006033 Or ∷
    r_type 0x00007033 And ∷
    r_type 0x40000033 Sub ∷
    r_type 0x40005033 Sra ∷
    -- M: multiplication and division
    r_type 0x02000033 Mul ∷
    r_type 0x02001033 Mulh ∷
    r_type 0x02002033 Mulhsu ∷
    r_type 0x02003033 Mulhu ∷
    r_type 0x02004033 Div ∷
    r_type 0x02005033 Divu ∷
    r_type 0x02006033 Rem ∷
    r_type 0x02007033 Remu ∷
    -- RV32I, 2.7, and Zifencei: fences
    fence_type 0x0000000F Fence ∷
    fence_type 0x0000100F FenceI ∷
    -- Zicsr: control and status registers
    csr_type 0x00001073 Csrrw ∷
    csr_type 0x00002073 Csrrs ∷
    csr_type 0x00003073 Csrrc ∷
    csr_type 0x00005073 Csrrwi ∷
    csr_type 0x00006073 Csrrsi ∷
    csr_type 0x00007073 Csrrci ∷
    -- RV32I, 2.8, and privileged, "Trap-Return Instructions" and "Wait for Interrupt": whole words
    exact 0x00000073 Ecall ∷
    exact 0x00100073 Ebreak ∷
    exact 0x30200073 Mret ∷
    exact 0x10500073 Wfi ∷
    -- A: reservations and atomic memory operations
    lr_type 0x1000202F Lr ∷
    amo_type 0x1800202F Sc ∷
    amo_type 0x0800202F AmoSwap ∷
    amo_type 0x0000202F AmoAdd ∷
    amo_type 0x2000202F AmoXor ∷
    amo_type 0x6000202F AmoAnd ∷
    amo_type 0x4000202F AmoOr ∷
    amo_type 0x8000202F AmoMin ∷
    amo_type 0xA000202F AmoMax ∷
    amo_type 0xC000202F AmoMinu ∷
    amo_type 0xE000202F AmoMaxu ∷ []

-- the word has the row's values where the row fixes its bits
abbrev pub fits : Row → ℕ → Bool
fits row w = bit_and w row.mask == row.value

-- what the first row that fits reads from the word
unfoldable pub read_by : List Row → ℕ → Option Instr
read_by [] w = None
read_by (row ∷ rows) w = if fits row w then Some (row.read w) else read_by rows w

-- what the word decodes to
unfoldable pub decode : ℕ → Option Instr
decode w = read_by table w

-- no two rows of the table fit the word
abbrev pub HasAtMostOneRow : ℕ → Type 0
HasAtMostOneRow w = AllPairs (λ r s. ¬ (IsTrue (fits r w) × IsTrue (fits s w))) table

-- some word decodes to this instruction
pub record IsEncodable (i : Instr) : Type 0 where
  pub word : ℕ
  pub in_range : word < 2 ^ 32
  pub decodes : decode word ≡ Some i
