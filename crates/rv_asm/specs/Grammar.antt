-- The grammar of a statement: which texts stand for which words.
use Rattle.std.specs.Prelude.{◌≡◌, ℕ, ◌%◌, ◌^◌, ◌-◌, ◌<◌, ◌⊎◌, false, ℤ, List, [], ◌∷◌, ◌++◌, Option, Some, Ok, Err, IsTrue, Contains, codes}
use Rattle.shared_definitions.specs.Ascii.{comma, space, left_parenthesis, right_parenthesis}
use Rattle.ascii_text.specs.declared.numbers.NumberFault.TheVariants.{NoNumber}
use Rattle.rv_isa.specs.Fields.{aq, rl}
use Rattle.rv_forms.specs.declared.kinds.Operands.{Operands}
use Rattle.rv_forms.specs.declared.kinds.Kind.{Kind}
use Rattle.rv_forms.specs.declared.kinds.Kind.TheVariants as kinds
use Rattle.rv_forms.specs.Forms.{kinds_of, operands_of}
use Rattle.rv_forms.specs.Mnemonics.{Mnemonic, mnemonics, fits}
use Rattle.rv_forms.specs.Names.{name_text}
use Rattle.rv_asm.specs.declared.reading.Number.{Number}
use Rattle.rv_asm.specs.Operands.{value, word, near, distance, in_memory, address}
use Rattle.rv_asm.specs.Reading.{number_within, register_of, is_label}
use Rattle.rv_asm.specs.Statements.{no_operands, load_words}

-- a label's name, and how many words stand before it
abbrev pub IsLabelOf : (List ℕ → Option ℕ) → List ℕ → ℕ → Type 0
IsLabelOf places text place = IsTrue (is_label text) × (places text ≡ Some place)

abbrev pub IsSignedText : List ℕ → ℤ → Type 0
IsSignedText text z = (n : Number) × (number_within 2048 2047 text ≡ Ok n) × (value n ≡ z)

abbrev pub IsUnsignedText : ℕ → List ℕ → ℕ → Type 0
IsUnsignedText high text m = (n : Number) × (number_within 0 high text ≡ Ok n) × (n.magnitude ≡ m)

-- an even distance within its bounds, or a label at such a distance
abbrev pub IsTargetText : (List ℕ → Option ℕ) → ℕ → ℕ → ℕ → List ℕ → ℤ → Type 0
IsTargetText places here low high text z =
    ((n : Number) × (number_within low high text ≡ Ok n) × (n.magnitude % 2 ≡ 0) × (value n ≡ z))
    ⊎ ((place : ℕ) × (number_within low high text ≡ Err NoNumber) × IsLabelOf places text place
    × (near low high (distance here place) ≡ Ok z))

-- a number of a word, modulo 2^32
abbrev pub IsWordText : List ℕ → ℕ → Type 0
IsWordText text m = (n : Number) × (number_within (2 ^ 31) (2 ^ 32 - 1) text ≡ Ok n) × (word n ≡ m)

-- such a number, or a label for its address
abbrev pub IsValueText : (List ℕ → Option ℕ) → List ℕ → ℕ → Type 0
IsValueText places text m =
    IsWordText text m
    ⊎ ((place : ℕ) × (number_within (2 ^ 31) (2 ^ 32 - 1) text ≡ Err NoNumber)
    × IsLabelOf places text place × (in_memory (address place) ≡ Ok m))

-- a register in parentheses
abbrev pub IsBracketText : List ℕ → ℕ → Type 0
IsBracketText text r = (name : List ℕ)
    × (text ≡ left_parenthesis ∷ (name ++ right_parenthesis ∷ [])) × (register_of name ≡ Some r)

abbrev pub IsAddressText : List ℕ → ℤ → ℕ → Type 0
IsAddressText text z r = (offset : List ℕ) × (rest : List ℕ) × (text ≡ offset ++ rest)
    × IsSignedText offset z × IsBracketText rest r

-- the text is the operand of this kind that has these values
abbrev pub IsOperandText : (List ℕ → Option ℕ) → ℕ → Kind → List ℕ → Operands → Type 0
IsOperandText places here kinds.Rd text f = register_of text ≡ Some f.rd
IsOperandText places here kinds.Rs1 text f = register_of text ≡ Some f.rs1
IsOperandText places here kinds.Rs2 text f = register_of text ≡ Some f.rs2
IsOperandText places here kinds.Immediate text f = IsSignedText text f.imm
IsOperandText places here kinds.Shift text f = IsUnsignedText 31 text f.rs2
IsOperandText places here kinds.Small text f = IsUnsignedText 31 text f.rs1
IsOperandText places here kinds.Csr text f = IsUnsignedText 4095 text f.wide
IsOperandText places here kinds.Upper text f = IsUnsignedText 0xFFFFF text f.wide
IsOperandText places here kinds.Branch text f = IsTargetText places here 4096 4094 text f.imm
IsOperandText places here kinds.Jump text f = IsTargetText places here 1048576 1048574 text f.imm
IsOperandText places here kinds.Address text f = IsAddressText text f.imm f.rs1
IsOperandText places here kinds.Base text f = IsBracketText text f.rs1
IsOperandText places here kinds.Word text f = IsWordText text f.wide
IsOperandText places here kinds.Value text f = IsValueText places text f.wide

-- the operands, a comma and a space between them
abbrev pub AreOperandTexts : (List ℕ → Option ℕ) → ℕ → Kind → List Kind → List ℕ → Operands → Type 0
AreOperandTexts places here kind [] text f = IsOperandText places here kind text f
AreOperandTexts places here kind (next ∷ more) text f =
    (first : List ℕ) × (rest : List ℕ) × (text ≡ first ++ comma ∷ space ∷ rest)
    × IsOperandText places here kind first f × AreOperandTexts places here next more rest f

-- a name, and after a space its operands
abbrev pub IsStatementText : (List ℕ → Option ℕ) → ℕ → List ℕ → List Kind → List ℕ → Operands
    → Type 0
IsStatementText places here name [] text f = text ≡ name
IsStatementText places here name (kind ∷ more) text f =
    (rest : List ℕ) × (text ≡ name ++ space ∷ rest) × AreOperandTexts places here kind more rest f

-- a word of an instruction with this name, and the operands of that word
pub record IsInstruction (places : List ℕ
    → Option ℕ) (here : ℕ) (text words : List ℕ) : Type 0 where
  pub mnemonic : Mnemonic
  pub word : ℕ
  pub row : Contains mnemonics mnemonic
  pub below : word < 2 ^ 32
  pub fits : IsTrue (fits mnemonic word)
  pub only : words ≡ word ∷ []
  pub written : IsStatementText places here (name_text mnemonic (aq word) (rl word))
      (kinds_of mnemonic.syntax) text (operands_of mnemonic.syntax word)

-- `.word` and a number, for that word
pub record IsData (places : List ℕ → Option ℕ) (here : ℕ) (text words : List ℕ) : Type 0 where
  pub word : ℕ
  pub only : words ≡ word ∷ []
  pub written : IsStatementText places here (codes ".word") (kinds.Word ∷ []) text (record
      (no_operands false false) { wide = word })

-- `li`, a register and a number or a label, for LUI and ADDI
pub record IsLoad (places : List ℕ → Option ℕ) (here : ℕ) (text words : List ℕ) : Type 0 where
  pub rd : ℕ
  pub number : ℕ
  pub both : words ≡ load_words rd number
  pub written : IsStatementText places here (codes "li") (kinds.Rd ∷ kinds.Value ∷ []) text
      (record (no_operands false false) { rd = rd; wide = number })

-- the text stands for these words, where labels have these places and `here` words stand before it
abbrev pub IsStatement : (List ℕ → Option ℕ) → ℕ → List ℕ → List ℕ → Type 0
IsStatement places here text words =
    IsInstruction places here text words ⊎ (IsData places here text words
    ⊎ IsLoad places here text words)
