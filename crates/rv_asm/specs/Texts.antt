-- The text of a word.
use Rattle.std.specs.Prelude.{ℕ, Bool, false, ℤ, pos, negsuc, suc, List, [], ◌∷◌, ◌++◌, Option, Some, None, codes, decimal, not, ◌==◌}
use Rattle.std.specs.List.{list_all}
use Rattle.shared_definitions.specs.Ascii.{comma, minus, newline, space, letter_x, left_parenthesis, right_parenthesis}
use Rattle.ascii_text.specs.Hexadecimal.{hexadecimal, hexadecimal_digits}
use Rattle.rv_isa.specs.Fields.{aq, rl}
use Rattle.rv_forms.specs.declared.kinds.Kind.{Kind}
use Rattle.rv_forms.specs.declared.kinds.Kind.TheVariants as kinds
use Rattle.rv_forms.specs.declared.kinds.Operands.{Operands}
use Rattle.rv_forms.specs.Forms.{kinds_of, operands_of}
use Rattle.rv_forms.specs.Mnemonics.{Mnemonic, mnemonic_of}
use Rattle.rv_forms.specs.Names.{name_text}
use Rattle.rv_asm.specs.Statements.{no_operands}

abbrev pub register_text : ℕ → List ℕ
register_text r = letter_x ∷ decimal r

-- decimal
abbrev pub signed_text : ℤ → List ℕ
signed_text (pos n) = decimal n
signed_text (negsuc n) = minus ∷ decimal (suc n)

-- upper case hexadecimal digits
abbrev pub upper_text : ℕ → List ℕ
upper_text n = codes "0x" ++ hexadecimal n

abbrev pub bracket_text : ℕ → List ℕ
bracket_text r = left_parenthesis ∷ (register_text r ++ right_parenthesis ∷ [])

abbrev pub word_text : ℕ → List ℕ
word_text n = codes "0x" ++ hexadecimal_digits 8 n

unfoldable pub operand_text : Kind → Operands → List ℕ
operand_text kinds.Rd f = register_text f.rd
operand_text kinds.Rs1 f = register_text f.rs1
operand_text kinds.Rs2 f = register_text f.rs2
operand_text kinds.Immediate f = signed_text f.imm
operand_text kinds.Shift f = decimal f.rs2
operand_text kinds.Small f = decimal f.rs1
operand_text kinds.Csr f = upper_text f.wide
operand_text kinds.Upper f = upper_text f.wide
operand_text kinds.Branch f = signed_text f.imm
operand_text kinds.Jump f = signed_text f.imm
operand_text kinds.Address f = signed_text f.imm ++ bracket_text f.rs1
operand_text kinds.Base f = bracket_text f.rs1
operand_text kinds.Word f = word_text f.wide
operand_text kinds.Value f = word_text f.wide

-- the operands, a comma and a space between them
unfoldable pub operand_texts : Kind → List Kind → Operands → List ℕ
operand_texts kind [] f = operand_text kind f
operand_texts kind (next ∷ more) f = operand_text kind f
    ++ (comma ∷ space ∷ operand_texts next more f)

-- a name, and after a space its operands
unfoldable pub statement_text : List ℕ → List Kind → Operands → List ℕ
statement_text name [] f = name
statement_text name (kind ∷ more) f = name ++ (space ∷ operand_texts kind more f)

-- the word as a number
abbrev pub data_text : ℕ → List ℕ
data_text word = statement_text (codes ".word") (kinds.Word ∷ []) (record
    (no_operands false false) { wide = word })

-- the statement of the instruction that the word is, or the word as a number where it has none
abbrev pub text_by : Option Mnemonic → ℕ → List ℕ
text_by None word = data_text word
text_by (Some m) word = statement_text (name_text m (aq word) (rl word)) (kinds_of m.syntax)
    (operands_of m.syntax word)

unfoldable pub text_of : ℕ → List ℕ
text_of word = text_by (mnemonic_of word) word

-- one line: no newline stands in the text
abbrev pub is_one_line : List ℕ → Bool
is_one_line text = list_all (λ c. not (c == newline)) text
