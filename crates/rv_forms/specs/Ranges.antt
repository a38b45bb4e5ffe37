-- The range of each operand: what a word has room for.
use Rattle.std.specs.Prelude.{◌≡◌, ℕ, ◌^◌, ◌<◌, List, [], ◌∷◌, bit_and}
use Rattle.std.specs.Bool.{OnTrue}
use Rattle.rv_isa.specs.Fields.{aq, rl}
use Rattle.rv_isa.specs.Ranges.{IsRegister, IsSigned, IsOffset}
use Rattle.rv_forms.specs.declared.kinds.Kind.{Kind}
use Rattle.rv_forms.specs.declared.kinds.Kind.TheVariants as kinds
use Rattle.rv_forms.specs.declared.kinds.Operands.{Operands}
use Rattle.rv_forms.specs.declared.kinds.Syntax.{Syntax}
use Rattle.rv_forms.specs.Forms.{kinds_of, mask_of, operands_of, word_of, is_ordered}

abbrev pub IsInRange : Kind → Operands → Type 0
IsInRange kinds.Rd f = IsRegister f.rd
IsInRange kinds.Rs1 f = IsRegister f.rs1
IsInRange kinds.Rs2 f = IsRegister f.rs2
IsInRange kinds.Immediate f = IsSigned 12 f.imm
IsInRange kinds.Shift f = f.rs2 < 32
IsInRange kinds.Small f = f.rs1 < 32
IsInRange kinds.Csr f = f.wide < 2 ^ 12
IsInRange kinds.Upper f = f.wide < 2 ^ 20
IsInRange kinds.Branch f = IsOffset 13 f.imm
IsInRange kinds.Jump f = IsOffset 21 f.imm
IsInRange kinds.Address f = IsSigned 12 f.imm × IsRegister f.rs1
IsInRange kinds.Base f = IsRegister f.rs1
IsInRange kinds.Word f = f.wide < 2 ^ 32
IsInRange kinds.Value f = f.wide < 2 ^ 32

abbrev pub AreInRange : List Kind → Operands → Type 0
AreInRange [] f = Unit {0}
AreInRange (kind ∷ more) f = IsInRange kind f × AreInRange more f

-- the operand of this kind is the same
abbrev pub IsSame : Kind → Operands → Operands → Type 0
IsSame kinds.Rd f g = f.rd ≡ g.rd
IsSame kinds.Rs1 f g = f.rs1 ≡ g.rs1
IsSame kinds.Rs2 f g = f.rs2 ≡ g.rs2
IsSame kinds.Immediate f g = f.imm ≡ g.imm
IsSame kinds.Shift f g = f.rs2 ≡ g.rs2
IsSame kinds.Small f g = f.rs1 ≡ g.rs1
IsSame kinds.Csr f g = f.wide ≡ g.wide
IsSame kinds.Upper f g = f.wide ≡ g.wide
IsSame kinds.Branch f g = f.imm ≡ g.imm
IsSame kinds.Jump f g = f.imm ≡ g.imm
IsSame kinds.Address f g = (f.imm ≡ g.imm) × (f.rs1 ≡ g.rs1)
IsSame kinds.Base f g = f.rs1 ≡ g.rs1
IsSame kinds.Word f g = f.wide ≡ g.wide
IsSame kinds.Value f g = f.wide ≡ g.wide

abbrev pub AreSame : List Kind → Operands → Operands → Type 0
AreSame [] f g = Unit {0}
AreSame (kind ∷ more) f g = IsSame kind f g × AreSame more f g

-- the word of these operands: its fixed bits, and its operands and order bits as they were put in
pub record Keeps (syntax : Syntax) (value : ℕ) (f : Operands) : Type 0 where
  pub below : word_of syntax value f < 2 ^ 32
  pub fixed : bit_and (word_of syntax value f) (mask_of syntax) ≡ value
  pub operands : AreSame (kinds_of syntax) f (operands_of syntax (word_of syntax value f))
  pub order : OnTrue (is_ordered syntax) ((f.aq ≡ aq (word_of syntax value f))
      × (f.rl ≡ rl (word_of syntax value f)))
