-- What the rows of one format choose from: an operation, a comparison, a width, a change of a CSR.
use Rattle.std.specs.Prelude.{ℕ, ◌==◌, Bool, true, not, bit_and, bit_or, bit_xor}
use Rattle.rv_core.specs.Arithmetic.{lt, ltu, sign_extended, zero_extended, add, sub, slt, sltu, sll, srl, sra, mul, mulh, mulhsu, mulhu, div, divu, rem, remu, min, max, minu, maxu}
use Rattle.rv_core.specs.Effect.{clear_bits}
use Rattle.rv_core.specs.declared.arithmetic.AluOp.{AluOp}
use Rattle.rv_core.specs.declared.arithmetic.AluOp.TheVariants.{Add, Sub, Slt, Sltu, Sll, Srl, Sra, And, Or, Xor, Mul, Mulh, Mulhsu, Mulhu, Div, Divu, Rem, Remu, Swap, Min, Max, Minu, Maxu}
use Rattle.rv_core.specs.declared.arithmetic.Comparison.{Comparison}
use Rattle.rv_core.specs.declared.arithmetic.Comparison.TheVariants.{Eq, Ne, Lt, Ge, Ltu, Geu}
use Rattle.rv_core.specs.declared.access.Load.{Load}
use Rattle.rv_core.specs.declared.access.Load.TheVariants.{Lb, Lh, Lw, Lbu, Lhu}
use Rattle.rv_core.specs.declared.access.Store.{Store}
use Rattle.rv_core.specs.declared.access.Store.TheVariants.{Sb, Sh, Sw}
use Rattle.rv_core.specs.declared.control.CsrOp.{CsrOp}
use Rattle.rv_core.specs.declared.control.CsrOp.TheVariants.{Write, Set, Clear}

-- what an operation gives of two words
abbrev pub apply : AluOp → ℕ → ℕ → ℕ
apply Add a b = add a b
apply Sub a b = sub a b
apply Slt a b = slt a b
apply Sltu a b = sltu a b
apply Sll a b = sll a b
apply Srl a b = srl a b
apply Sra a b = sra a b
apply And a b = bit_and a b
apply Or a b = bit_or a b
apply Xor a b = bit_xor a b
apply Mul a b = mul a b
apply Mulh a b = mulh a b
apply Mulhsu a b = mulhsu a b
apply Mulhu a b = mulhu a b
apply Div a b = div a b
apply Divu a b = divu a b
apply Rem a b = rem a b
apply Remu a b = remu a b
apply Swap a b = b
apply Min a b = min a b
apply Max a b = max a b
apply Minu a b = minu a b
apply Maxu a b = maxu a b

-- whether two words compare so
abbrev pub holds : Comparison → ℕ → ℕ → Bool
holds Eq a b = a == b
holds Ne a b = not (a == b)
holds Lt a b = lt a b
holds Ge a b = not (lt a b)
holds Ltu a b = ltu a b
holds Geu a b = not (ltu a b)

-- how many bytes are loaded, and what word they make
abbrev pub load_width : Load → ℕ
load_width Lb = 1
load_width Lh = 2
load_width Lw = 4
load_width Lbu = 1
load_width Lhu = 2

abbrev pub extend_loaded : Load → ℕ → ℕ
extend_loaded Lb v = sign_extended 8 v
extend_loaded Lh v = sign_extended 16 v
extend_loaded Lw v = v
extend_loaded Lbu v = zero_extended 8 v
extend_loaded Lhu v = zero_extended 16 v

-- how many bytes are stored, and what is stored of a word
abbrev pub store_width : Store → ℕ
store_width Sb = 1
store_width Sh = 2
store_width Sw = 4

abbrev pub store_part : Store → ℕ → ℕ
store_part Sb v = zero_extended 8 v
store_part Sh v = zero_extended 16 v
store_part Sw v = v

-- what a CSR becomes by an operand, and whether it is written, by the field that names the operand
abbrev pub csr_change : CsrOp → ℕ → ℕ → ℕ
csr_change Write operand old = operand
csr_change Set operand old = bit_or old operand
csr_change Clear operand old = clear_bits old operand

abbrev pub is_csr_write : CsrOp → ℕ → Bool
is_csr_write Write field = true
is_csr_write Set field = not (field == 0)
is_csr_write Clear field = not (field == 0)
