-- The names of the instructions, in the order of the alphabet, each with the word of the
-- instruction without its operands (RISC-V unprivileged, "RV32/64G Instruction Set Listings";
-- privileged, "RISC-V Privileged Instruction Set Listings"). After the names of the A extension the
-- order bits are written.
use Rattle.std.specs.Prelude.{ℕ, Bool, true, List, [], ◌∷◌, Option, ◌==◌, ◌&&◌, bit_and, codes}
use Rattle.std.specs.Cmp.Lexicographic.{slice_cmp}
use Rattle.std.specs.List.{find, list_all}
use Rattle.std.specs.Ordering.{is_lt, nat_cmp}
use Rattle.rv_forms.specs.declared.kinds.Syntax.{Syntax}
use Rattle.rv_forms.specs.declared.kinds.Syntax.TheVariants.{UType, JType, IType, ShiftType, LoadType, SType, BType, RType, CsrType, CsrNumberType, Exact, LrType, AmoType}
use Rattle.rv_forms.specs.Forms.{mask_of}

-- an instruction's name, what stands after it, and its word without operands
pub record Mnemonic : Type 0 where
  pub name : List ℕ
  pub syntax : Syntax
  pub value : ℕ

abbrev pub row : List ℕ → Syntax → ℕ → Mnemonic
row name syntax value = record { name = name; syntax = syntax; value = value }

-- a fence has a statement only where its other bits are 0
unfoldable pub mnemonics : List Mnemonic
mnemonics =
    row (codes "add") RType 0x00000033 ∷
    row (codes "addi") IType 0x00000013 ∷
    row (codes "amoadd") AmoType 0x0000202F ∷
    row (codes "amoand") AmoType 0x6000202F ∷
    row (codes "amomax") AmoType 0xA000202F ∷
    row (codes "amomaxu") AmoType 0xE000202F ∷
    row (codes "amomin") AmoType 0x8000202F ∷
    row (codes "amominu") AmoType 0xC000202F ∷
    row (codes "amoor") AmoType 0x4000202F ∷
    row (codes "amoswap") AmoType 0x0800202F ∷
    row (codes "amoxor") AmoType 0x2000202F ∷
    row (codes "and") RType 0x00007033 ∷
    row (codes "andi") IType 0x00007013 ∷
    row (codes "auipc") UType 0x00000017 ∷
    row (codes "beq") BType 0x00000063 ∷
    row (codes "bge") BType 0x00005063 ∷
    row (codes "bgeu") BType 0x00007063 ∷
    row (codes "blt") BType 0x00004063 ∷
    row (codes "bltu") BType 0x00006063 ∷
    row (codes "bne") BType 0x00001063 ∷
    row (codes "csrrc") CsrType 0x00003073 ∷
    row (codes "csrrci") CsrNumberType 0x00007073 ∷
    row (codes "csrrs") CsrType 0x00002073 ∷
    row (codes "csrrsi") CsrNumberType 0x00006073 ∷
    row (codes "csrrw") CsrType 0x00001073 ∷
    row (codes "csrrwi") CsrNumberType 0x00005073 ∷
    row (codes "div") RType 0x02004033 ∷
    row (codes "divu") RType 0x02005033 ∷
    row (codes "ebreak") Exact 0x00100073 ∷
    row (codes "ecall") Exact 0x00000073 ∷
    row (codes "fence") Exact 0x0000000F ∷
    row (codes "fence.i") Exact 0x0000100F ∷
    row (codes "jal") JType 0x0000006F ∷
    row (codes "jalr") IType 0x00000067 ∷
    row (codes "lb") LoadType 0x00000003 ∷
    row (codes "lbu") LoadType 0x00004003 ∷
    row (codes "lh") LoadType 0x00001003 ∷
    row (codes "lhu") LoadType 0x00005003 ∷
    row (codes "lr") LrType 0x1000202F ∷
    row (codes "lui") UType 0x00000037 ∷
    row (codes "lw") LoadType 0x00002003 ∷
    row (codes "mret") Exact 0x30200073 ∷
    row (codes "mul") RType 0x02000033 ∷
    row (codes "mulh") RType 0x02001033 ∷
    row (codes "mulhsu") RType 0x02002033 ∷
    row (codes "mulhu") RType 0x02003033 ∷
    row (codes "or") RType 0x00006033 ∷
    row (codes "ori") IType 0x00006013 ∷
    row (codes "rem") RType 0x02006033 ∷
    row (codes "remu") RType 0x02007033 ∷
    row (codes "sb") SType 0x00000023 ∷
    row (codes "sc") AmoType 0x1800202F ∷
    row (codes "sh") SType 0x00001023 ∷
    row (codes "sll") RType 0x00001033 ∷
    row (codes "slli") ShiftType 0x00001013 ∷
    row (codes "slt") RType 0x00002033 ∷
    row (codes "slti") IType 0x00002013 ∷
    row (codes "sltiu") IType 0x00003013 ∷
    row (codes "sltu") RType 0x00003033 ∷
    row (codes "sra") RType 0x40005033 ∷
    row (codes "srai") ShiftType 0x40005013 ∷
    row (codes "srl") RType 0x00005033 ∷
    row (codes "srli") ShiftType 0x00005013 ∷
    row (codes "sub") RType 0x40000033 ∷
    row (codes "sw") SType 0x00002023 ∷
    row (codes "wfi") Exact 0x10500073 ∷
    row (codes "xor") RType 0x00004033 ∷
    row (codes "xori") IType 0x00004013 ∷ []

-- the names rise, and none stands twice
abbrev pub are_rising : List Mnemonic → Bool
are_rising [] = true
are_rising (m ∷ ms) = list_all (λ later. is_lt (slice_cmp nat_cmp m.name later.name)) ms
    && are_rising ms

-- and no word without operands has bits where operands stand
abbrev pub is_table : List Mnemonic → Bool
is_table ms = are_rising ms && list_all (λ m. bit_and m.value (mask_of m.syntax) == m.value) ms

-- whether the word is the instruction's with some operands
abbrev pub fits : Mnemonic → ℕ → Bool
fits m w = bit_and w (mask_of m.syntax) == m.value

-- the mnemonic whose instruction the word is
unfoldable pub mnemonic_of : ℕ → Option Mnemonic
mnemonic_of w = find (λ m. fits m w) mnemonics
