-- The fields of an instruction word and its immediates (RISC-V unprivileged, RV32I, 2.2 "Base
-- Instruction Formats" and 2.3 "Immediate Encoding Variants").
use Rattle.std.specs.Prelude.{ℕ, ◌+◌, ◌-◌, ◌*◌, ◌/◌, ◌%◌, ◌^◌, Bool, if◌then◌else◌, nat_lt, ◌==◌, ℤ, pos, ◌-ℤ◌}

-- `width` bits of the word, from bit `low` up, as a number
abbrev pub bits_at : ℕ → ℕ → ℕ → ℕ
bits_at low width w = w / 2 ^ low % 2 ^ width

-- a number of k bits, read in two's complement
abbrev pub signed : ℕ → ℕ → ℤ
signed k n = if nat_lt n (2 ^ (k - 1)) then pos n else pos n -ℤ pos (2 ^ k)

-- the destination register: bits 11 to 7
abbrev pub rd : ℕ → ℕ
rd w = bits_at 7 5 w

-- the first source register: bits 19 to 15
abbrev pub rs1 : ℕ → ℕ
rs1 w = bits_at 15 5 w

-- the second source register: bits 24 to 20
abbrev pub rs2 : ℕ → ℕ
rs2 w = bits_at 20 5 w

-- how far a shift by an immediate goes: the place of rs2 (2.4.1)
abbrev pub shamt : ℕ → ℕ
shamt w = bits_at 20 5 w

-- the I-immediate: bits 31 to 20, sign-extended
abbrev pub imm_i : ℕ → ℤ
imm_i w = signed 12 (bits_at 20 12 w)

-- the S-immediate: bits 31 to 25, then 11 to 7, sign-extended
abbrev pub imm_s : ℕ → ℤ
imm_s w = signed 12 (bits_at 25 7 w * 2 ^ 5 + bits_at 7 5 w)

-- the B-immediate: bit 12 in bit 31, bit 11 in bit 7, bits 10 to 5 in 30 to 25, bits 4 to 1 in 11
-- to 8, sign-extended
abbrev pub imm_b : ℕ → ℤ
imm_b w =
    signed 13
    (bits_at 31 1 w * 2 ^ 12 + bits_at 7 1 w * 2 ^ 11 + bits_at 25 6 w * 2 ^ 5 + bits_at 8 4 w * 2)

-- the U-immediate's upper 20 bits: bits 31 to 12
abbrev pub imm_u : ℕ → ℕ
imm_u w = bits_at 12 20 w

-- the J-immediate: bit 20 in bit 31, bits 19 to 12 in their own places, bit 11 in bit 20, bits 10
-- to 1 in 30 to 21, sign-extended
abbrev pub imm_j : ℕ → ℤ
imm_j w =
    signed 21
    (bits_at 31 1 w * 2 ^ 20 + bits_at 12 8 w * 2 ^ 12 + bits_at 20 1 w * 2 ^ 11
    + bits_at 21 10 w * 2)

-- a CSR's number: bits 31 to 20 (Zicsr)
abbrev pub csr : ℕ → ℕ
csr w = bits_at 20 12 w

-- acquire and release: bits 26 and 25 (A, "Specifying Ordering of Atomic Instructions")
abbrev pub aq : ℕ → Bool
aq w = bits_at 26 1 w == 1

abbrev pub rl : ℕ → Bool
rl w = bits_at 25 1 w == 1

-- of a fence all but the opcode and funct3 (2.7, Zifencei): bits 31 to 15 above bits 11 to 7
abbrev pub rest : ℕ → ℕ
rest w = bits_at 15 17 w * 2 ^ 5 + bits_at 7 5 w
