-- The range of each field of an instruction: what a word has room for.
use Rattle.std.specs.Prelude.{◌≡◌, ℕ, ◌-◌, ◌%◌, ◌^◌, ◌<◌, ℤ, pos, neg_ℤ, ◌≤ℤ◌, ◌<ℤ◌, unsigned_abs}
use Rattle.rv_isa.specs.declared.instr.Instr.{Instr}
use Rattle.rv_isa.specs.declared.instr.Instr.TheVariants.{Lui, Auipc, Jal, Jalr, Beq, Bne, Blt, Bge, Bltu, Bgeu, Lb, Lh, Lw, Lbu, Lhu, Sb, Sh, Sw, Addi, Slti, Sltiu, Xori, Ori, Andi, Slli, Srli, Srai, Add, Sll, Slt, Sltu, Xor, Srl, Or, And, Sub, Sra, Mul, Mulh, Mulhsu, Mulhu, Div, Divu, Rem, Remu, Fence, FenceI, Csrrw, Csrrs, Csrrc, Csrrwi, Csrrsi, Csrrci, Ecall, Ebreak, Mret, Wfi, Lr, Sc, AmoSwap, AmoAdd, AmoXor, AmoAnd, AmoOr, AmoMin, AmoMax, AmoMinu, AmoMaxu}

-- a register's number
abbrev pub IsRegister : ℕ → Type 0
IsRegister r = r < 32

-- a number that k bits of two's complement hold
abbrev pub IsSigned : ℕ → ℤ → Type 0
IsSigned k z = (neg_ℤ (pos (2 ^ (k - 1))) ≤ℤ z) × (z <ℤ pos (2 ^ (k - 1)))

-- a distance to a target: such a number, and even
abbrev pub IsOffset : ℕ → ℤ → Type 0
IsOffset k z = IsSigned k z × (unsigned_abs z % 2 ≡ 0)

-- each field is one that a word has room for
abbrev pub IsWithin : Instr → Type 0
IsWithin (Lui rd imm) = IsRegister rd × (imm < 2 ^ 20)
IsWithin (Auipc rd imm) = IsRegister rd × (imm < 2 ^ 20)
IsWithin (Jal rd imm) = IsRegister rd × IsOffset 21 imm
IsWithin (Jalr rd rs1 imm) = IsRegister rd × IsRegister rs1 × IsSigned 12 imm
IsWithin (Beq rs1 rs2 imm) = IsRegister rs1 × IsRegister rs2 × IsOffset 13 imm
IsWithin (Bne rs1 rs2 imm) = IsRegister rs1 × IsRegister rs2 × IsOffset 13 imm
IsWithin (Blt rs1 rs2 imm) = IsRegister rs1 × IsRegister rs2 × IsOffset 13 imm
IsWithin (Bge rs1 rs2 imm) = IsRegister rs1 × IsRegister rs2 × IsOffset 13 imm
IsWithin (Bltu rs1 rs2 imm) = IsRegister rs1 × IsRegister rs2 × IsOffset 13 imm
IsWithin (Bgeu rs1 rs2 imm) = IsRegister rs1 × IsRegister rs2 × IsOffset 13 imm
IsWithin (Lb rd rs1 imm) = IsRegister rd × IsRegister rs1 × IsSigned 12 imm
IsWithin (Lh rd rs1 imm) = IsRegister rd × IsRegister rs1 × IsSigned 12 imm
IsWithin (Lw rd rs1 imm) = IsRegister rd × IsRegister rs1 × IsSigned 12 imm
IsWithin (Lbu rd rs1 imm) = IsRegister rd × IsRegister rs1 × IsSigned 12 imm
IsWithin (Lhu rd rs1 imm) = IsRegister rd × IsRegister rs1 × IsSigned 12 imm
IsWithin (Sb rs1 rs2 imm) = IsRegister rs1 × IsRegister rs2 × IsSigned 12 imm
IsWithin (Sh rs1 rs2 imm) = IsRegister rs1 × IsRegister rs2 × IsSigned 12 imm
IsWithin (Sw rs1 rs2 imm) = IsRegister rs1 × IsRegister rs2 × IsSigned 12 imm
IsWithin (Addi rd rs1 imm) = IsRegister rd × IsRegister rs1 × IsSigned 12 imm
IsWithin (Slti rd rs1 imm) = IsRegister rd × IsRegister rs1 × IsSigned 12 imm
IsWithin (Sltiu rd rs1 imm) = IsRegister rd × IsRegister rs1 × IsSigned 12 imm
IsWithin (Xori rd rs1 imm) = IsRegister rd × IsRegister rs1 × IsSigned 12 imm
IsWithin (Ori rd rs1 imm) = IsRegister rd × IsRegister rs1 × IsSigned 12 imm
IsWithin (Andi rd rs1 imm) = IsRegister rd × IsRegister rs1 × IsSigned 12 imm
IsWithin (Slli rd rs1 shamt) = IsRegister rd × IsRegister rs1 × (shamt < 32)
IsWithin (Srli rd rs1 shamt) = IsRegister rd × IsRegister rs1 × (shamt < 32)
IsWithin (Srai rd rs1 shamt) = IsRegister rd × IsRegister rs1 × (shamt < 32)
IsWithin (Add rd rs1 rs2) = IsRegister rd × IsRegister rs1 × IsRegister rs2
IsWithin (Sll rd rs1 rs2) = IsRegister rd × IsRegister rs1 × IsRegister rs2
IsWithin (Slt rd rs1 rs2) = IsRegister rd × IsRegister rs1 × IsRegister rs2
IsWithin (Sltu rd rs1 rs2) = IsRegister rd × IsRegister rs1 × IsRegister rs2
IsWithin (Xor rd rs1 rs2) = IsRegister rd × IsRegister rs1 × IsRegister rs2
IsWithin (Srl rd rs1 rs2) = IsRegister rd × IsRegister rs1 × IsRegister rs2
IsWithin (Or rd rs1 rs2) = IsRegister rd × IsRegister rs1 × IsRegister rs2
IsWithin (And rd rs1 rs2) = IsRegister rd × IsRegister rs1 × IsRegister rs2
IsWithin (Sub rd rs1 rs2) = IsRegister rd × IsRegister rs1 × IsRegister rs2
IsWithin (Sra rd rs1 rs2) = IsRegister rd × IsRegister rs1 × IsRegister rs2
IsWithin (Mul rd rs1 rs2) = IsRegister rd × IsRegister rs1 × IsRegister rs2
IsWithin (Mulh rd rs1 rs2) = IsRegister rd × IsRegister rs1 × IsRegister rs2
IsWithin (Mulhsu rd rs1 rs2) = IsRegister rd × IsRegister rs1 × IsRegister rs2
IsWithin (Mulhu rd rs1 rs2) = IsRegister rd × IsRegister rs1 × IsRegister rs2
IsWithin (Div rd rs1 rs2) = IsRegister rd × IsRegister rs1 × IsRegister rs2
IsWithin (Divu rd rs1 rs2) = IsRegister rd × IsRegister rs1 × IsRegister rs2
IsWithin (Rem rd rs1 rs2) = IsRegister rd × IsRegister rs1 × IsRegister rs2
IsWithin (Remu rd rs1 rs2) = IsRegister rd × IsRegister rs1 × IsRegister rs2
IsWithin (Fence rest) = rest < 2 ^ 22
IsWithin (FenceI rest) = rest < 2 ^ 22
IsWithin (Csrrw rd rs1 csr) = IsRegister rd × IsRegister rs1 × (csr < 2 ^ 12)
IsWithin (Csrrs rd rs1 csr) = IsRegister rd × IsRegister rs1 × (csr < 2 ^ 12)
IsWithin (Csrrc rd rs1 csr) = IsRegister rd × IsRegister rs1 × (csr < 2 ^ 12)
IsWithin (Csrrwi rd imm csr) = IsRegister rd × (imm < 32) × (csr < 2 ^ 12)
IsWithin (Csrrsi rd imm csr) = IsRegister rd × (imm < 32) × (csr < 2 ^ 12)
IsWithin (Csrrci rd imm csr) = IsRegister rd × (imm < 32) × (csr < 2 ^ 12)
IsWithin Ecall = Unit {0}
IsWithin Ebreak = Unit {0}
IsWithin Mret = Unit {0}
IsWithin Wfi = Unit {0}
IsWithin (Lr rd rs1 _ _) = IsRegister rd × IsRegister rs1
IsWithin (Sc rd rs1 rs2 _ _) = IsRegister rd × IsRegister rs1 × IsRegister rs2
IsWithin (AmoSwap rd rs1 rs2 _ _) = IsRegister rd × IsRegister rs1 × IsRegister rs2
IsWithin (AmoAdd rd rs1 rs2 _ _) = IsRegister rd × IsRegister rs1 × IsRegister rs2
IsWithin (AmoXor rd rs1 rs2 _ _) = IsRegister rd × IsRegister rs1 × IsRegister rs2
IsWithin (AmoAnd rd rs1 rs2 _ _) = IsRegister rd × IsRegister rs1 × IsRegister rs2
IsWithin (AmoOr rd rs1 rs2 _ _) = IsRegister rd × IsRegister rs1 × IsRegister rs2
IsWithin (AmoMin rd rs1 rs2 _ _) = IsRegister rd × IsRegister rs1 × IsRegister rs2
IsWithin (AmoMax rd rs1 rs2 _ _) = IsRegister rd × IsRegister rs1 × IsRegister rs2
IsWithin (AmoMinu rd rs1 rs2 _ _) = IsRegister rd × IsRegister rs1 × IsRegister rs2
IsWithin (AmoMaxu rd rs1 rs2 _ _) = IsRegister rd × IsRegister rs1 × IsRegister rs2
