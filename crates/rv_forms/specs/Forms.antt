-- What stands after an instruction's name, and where the operands stand in its word
-- (RISC-V unprivileged, RV32I, 2.2 and 2.3; "RISC-V Assembly Programmer's Handbook").
use Rattle.std.specs.Prelude.{ℕ, Bool, true, false, ℤ, pos, List, [], ◌∷◌}
use Rattle.rv_isa.specs.Fields.{rd, rs1, rs2, imm_i, imm_s, imm_b, imm_u, imm_j, csr, aq, rl}
use Rattle.rv_isa.specs.Words.{u_type_word, j_type_word, i_type_word, b_type_word, s_type_word, r_type_word, csr_word, amo_word, lr_word}
use Rattle.rv_forms.specs.declared.kinds.Kind.{Kind}
use Rattle.rv_forms.specs.declared.kinds.Kind.TheVariants as kinds
use Rattle.rv_forms.specs.declared.kinds.Operands.{Operands}
use Rattle.rv_forms.specs.declared.kinds.Syntax.{Syntax}
use Rattle.rv_forms.specs.declared.kinds.Syntax.TheVariants.{UType, JType, IType, ShiftType, LoadType, SType, BType, RType, CsrType, CsrNumberType, Exact, LrType, AmoType}

-- what the operands are, in the order in which they are written
abbrev pub kinds_of : Syntax → List Kind
kinds_of UType = kinds.Rd ∷ kinds.Upper ∷ []
kinds_of JType = kinds.Rd ∷ kinds.Jump ∷ []
kinds_of IType = kinds.Rd ∷ kinds.Rs1 ∷ kinds.Immediate ∷ []
kinds_of ShiftType = kinds.Rd ∷ kinds.Rs1 ∷ kinds.Shift ∷ []
kinds_of LoadType = kinds.Rd ∷ kinds.Address ∷ []
kinds_of SType = kinds.Rs2 ∷ kinds.Address ∷ []
kinds_of BType = kinds.Rs1 ∷ kinds.Rs2 ∷ kinds.Branch ∷ []
kinds_of RType = kinds.Rd ∷ kinds.Rs1 ∷ kinds.Rs2 ∷ []
kinds_of CsrType = kinds.Rd ∷ kinds.Csr ∷ kinds.Rs1 ∷ []
kinds_of CsrNumberType = kinds.Rd ∷ kinds.Csr ∷ kinds.Small ∷ []
kinds_of Exact = []
kinds_of LrType = kinds.Rd ∷ kinds.Base ∷ []
kinds_of AmoType = kinds.Rd ∷ kinds.Rs2 ∷ kinds.Base ∷ []

-- which bits of the word don't depend on the operands
abbrev pub mask_of : Syntax → ℕ
mask_of UType = 0x7F
mask_of JType = 0x7F
mask_of IType = 0x707F
mask_of ShiftType = 0xFE00707F
mask_of LoadType = 0x707F
mask_of SType = 0x707F
mask_of BType = 0x707F
mask_of RType = 0xFE00707F
mask_of CsrType = 0x707F
mask_of CsrNumberType = 0x707F
mask_of Exact = 0xFFFFFFFF
mask_of LrType = 0xF9F0707F
mask_of AmoType = 0xF800707F

-- the signed immediate or the distance
abbrev pub imm_of : Syntax → ℕ → ℤ
imm_of JType w = imm_j w
imm_of IType w = imm_i w
imm_of LoadType w = imm_i w
imm_of SType w = imm_s w
imm_of BType w = imm_b w
imm_of _ w = pos 0

-- the upper 20 bits, or a CSR's number
abbrev pub wide_of : Syntax → ℕ → ℕ
wide_of UType w = imm_u w
wide_of _ w = csr w

-- the values of the operands, read from the word
unfoldable pub operands_of : Syntax → ℕ → Operands
operands_of syntax w =
    record {
      rd = rd w;
      rs1 = rs1 w;
      rs2 = rs2 w;
      imm = imm_of syntax w;
      wide =
          wide_of syntax w;
      aq = aq w;
      rl = rl w;
    }

-- the word: the bits that don't depend on the operands, and each operand in its place
unfoldable pub word_of : Syntax → ℕ → Operands → ℕ
word_of UType value f = u_type_word value f.rd f.wide
word_of JType value f = j_type_word value f.rd f.imm
word_of IType value f = i_type_word value f.rd f.rs1 f.imm
word_of ShiftType value f = r_type_word value f.rd f.rs1 f.rs2
word_of LoadType value f = i_type_word value f.rd f.rs1 f.imm
word_of SType value f = s_type_word value f.rs1 f.rs2 f.imm
word_of BType value f = b_type_word value f.rs1 f.rs2 f.imm
word_of RType value f = r_type_word value f.rd f.rs1 f.rs2
word_of CsrType value f = csr_word value f.rd f.rs1 f.wide
word_of CsrNumberType value f = csr_word value f.rd f.rs1 f.wide
word_of Exact value f = value
word_of LrType value f = lr_word value f.rd f.rs1 f.aq f.rl
word_of AmoType value f = amo_word value f.rd f.rs1 f.rs2 f.aq f.rl

-- whether the order bits, acquire and release, are written after the name
abbrev pub is_ordered : Syntax → Bool
is_ordered LrType = true
is_ordered AmoType = true
is_ordered _ = false
