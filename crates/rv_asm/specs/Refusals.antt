-- Which statements are refused, and which lines, and for what: the fault of the earliest place that
-- has one.
use Rattle.std.specs.Prelude.{◌≡◌, ◌≢◌, ℕ, ◌+◌, ◌%◌, ◌^◌, ◌-◌, ◌<◌, ◌≤◌, ◌⊎◌, ℤ, List, [], ◌∷◌, Option, Some, None, Ok, Err, IsTrue, IsFalse, MatchOption, codes, if◌then◌else◌, option_map, slice_get, take}
use Rattle.std.specs.List.{sum_by}
use Rattle.std.specs.Str.{bytes_eq}
use Rattle.shared_definitions.specs.Ascii.{comma, space, left_parenthesis, right_parenthesis}
use Rattle.ascii_text.specs.declared.numbers.NumberFault.TheVariants.{NoNumber, TooLarge}
use Rattle.ascii_text.specs.Cuts.{cut}
use Rattle.rv_forms.specs.declared.kinds.Operands.{Operands}
use Rattle.rv_forms.specs.declared.kinds.Kind.{Kind}
use Rattle.rv_forms.specs.declared.kinds.Kind.TheVariants as kinds
use Rattle.rv_forms.specs.Forms.{kinds_of}
use Rattle.rv_forms.specs.Names.{name_of}
use Rattle.rv_asm.specs.declared.fault.Why.{Why}
use Rattle.rv_asm.specs.declared.fault.Why.TheVariants.{Word, Register, Range, Label}
use Rattle.rv_asm.specs.declared.reading.Number.{Number}
use Rattle.rv_asm.specs.Grammar.{IsLabelOf, IsSignedText, IsOperandText}
use Rattle.rv_asm.specs.Lines.{line_of, place_of, word_count, words_at}
use Rattle.rv_asm.specs.Operands.{distance, address}
use Rattle.rv_asm.specs.Program.{Bad}
use Rattle.rv_asm.specs.Reading.{number_within, register_of, is_label}

-- at a register's place: no register, be it of a label's form or not
abbrev pub IsBadRegister : List ℕ → Why → Type 0
IsBadRegister text why =
    (register_of text ≡ None) × (why ≡ (if is_label text then Register else Word))

-- at a number's place: one out of its bounds or one that may not stand there, or else no number
abbrev pub IsBadNumber : ℕ → ℕ → (Number → Type 0) → (Why → Type 0) → List ℕ → Why → Type 0
IsBadNumber low high IsRefused IsElse text why =
    ((why ≡ Range)
    × ((number_within low high text ≡ Err TooLarge)
    ⊎ ((n : Number) × (number_within low high text ≡ Ok n) × IsRefused n)))
    ⊎ ((number_within low high text ≡ Err NoNumber) × IsElse why)

-- any number within the bounds may stand there, and nothing else
abbrev pub IsBadPlain : ℕ → ℕ → List ℕ → Why → Type 0
IsBadPlain low high = IsBadNumber low high (λ n. ⊥) (λ why. why ≡ Word)

-- at a label's place: no label's form, a label without a place, or one with a place too far away
abbrev pub IsBadLabel : (List ℕ → Option ℕ) → (ℕ → Type 0) → List ℕ → Why → Type 0
IsBadLabel places IsFar text Word = IsFalse (is_label text)
IsBadLabel places IsFar text Label = IsTrue (is_label text) × (places text ≡ None)
IsBadLabel places IsFar text Range = (place : ℕ) × IsLabelOf places text place × IsFar place
IsBadLabel places IsFar text Register = ⊥

-- below minus the first bound, or above the second
abbrev pub IsOutside : ℕ → ℕ → Number → Type 0
IsOutside low high n = (if n.negative then low else high) < n.magnitude

-- a distance is even, and that to a label is within the same bounds
abbrev pub IsBadTarget : (List ℕ → Option ℕ) → ℕ → ℕ → ℕ → List ℕ → Why → Type 0
IsBadTarget places here low high text =
    IsBadNumber low high (λ n. n.magnitude % 2 ≢ 0)
    (IsBadLabel places (λ place. IsOutside low high (distance here place)) text) text

-- a label's address has 32 bits
abbrev pub IsBadValue : (List ℕ → Option ℕ) → List ℕ → Why → Type 0
IsBadValue places text = IsBadNumber (2 ^ 31) (2 ^ 32 - 1) (λ n. ⊥)
    (IsBadLabel places (λ place. 2 ^ 32 ≤ address place) text) text

-- after an opening parenthesis: the register, and then a closing one that is missing or isn't last
abbrev pub IsBadBracket : Option (List ℕ) → Why → Type 0
IsBadBracket None why = why ≡ Word
IsBadBracket (Some text) why =
    IsBadRegister (cut right_parenthesis text).before why
    ⊎ ((r : ℕ) × (register_of (cut right_parenthesis text).before ≡ Some r)
    × (((cut right_parenthesis text).after ≢ Some []) × (why ≡ Word)))

-- the number first, and then what stands in parentheses
abbrev pub IsBadAddress : List ℕ → Why → Type 0
IsBadAddress text why =
    IsBadPlain 2048 2047 (cut left_parenthesis text).before why
    ⊎ ((z : ℤ) × IsSignedText (cut left_parenthesis text).before z
    × IsBadBracket (cut left_parenthesis text).after why)

-- nothing stands before the parentheses
abbrev pub IsBadBase : List ℕ → Why → Type 0
IsBadBase text why =
    (((cut left_parenthesis text).before ≢ []) × (why ≡ Word))
    ⊎ (((cut left_parenthesis text).before ≡ [])
    × IsBadBracket (cut left_parenthesis text).after why)

-- the text has this fault as an operand of this kind
abbrev pub IsBadOperand : (List ℕ → Option ℕ) → ℕ → Kind → List ℕ → Why → Type 0
IsBadOperand places here kinds.Immediate = IsBadPlain 2048 2047
IsBadOperand places here kinds.Shift = IsBadPlain 0 31
IsBadOperand places here kinds.Small = IsBadPlain 0 31
IsBadOperand places here kinds.Csr = IsBadPlain 0 4095
IsBadOperand places here kinds.Upper = IsBadPlain 0 0xFFFFF
IsBadOperand places here kinds.Branch = IsBadTarget places here 4096 4094
IsBadOperand places here kinds.Jump = IsBadTarget places here 1048576 1048574
IsBadOperand places here kinds.Address = IsBadAddress
IsBadOperand places here kinds.Base = IsBadBase
IsBadOperand places here kinds.Word = IsBadPlain (2 ^ 31) (2 ^ 32 - 1)
IsBadOperand places here kinds.Value = IsBadValue places
IsBadOperand places here _ = IsBadRegister

-- the text is an operand of this kind
abbrev pub IsOperand : (List ℕ → Option ℕ) → ℕ → Kind → List ℕ → Type 0
IsOperand places here kind text = (f : Operands) × IsOperandText places here kind text f

-- after an operand the text ends, or a space and `rest` follow the comma
abbrev pub GoesOn : Option (List ℕ) → Option (List ℕ) → Type 0
GoesOn after rest = after ≡ option_map (λ text. space ∷ text) rest

-- the first of the operands with a fault has this one; a missing or surplus one stands at the end
abbrev pub OperandsStop : (List ℕ → Option ℕ) → ℕ → List Kind → Option (List ℕ) → Why → Type 0
OperandsStop places here [] None why = ⊥
OperandsStop places here [] (Some text) why = why ≡ Word
OperandsStop places here (kind ∷ more) None why = why ≡ Word
OperandsStop places here (kind ∷ more) (Some text) why =
    IsBadOperand places here kind (cut comma text).before why
    ⊎ (IsOperand places here kind (cut comma text).before × (((rest : Option (List ℕ))
    × GoesOn (cut comma text).after rest × OperandsStop places here more rest why)
    ⊎ (((rest : Option (List ℕ)) → ¬ GoesOn (cut comma text).after rest) × (why ≡ Word))))

-- the operands of a statement of this name
abbrev pub kinds_named : List ℕ → Option (List Kind)
kinds_named name =
    if bytes_eq name (codes ".word") then Some (kinds.Word ∷ [])
    else (if bytes_eq name (codes "li") then Some (kinds.Rd ∷ kinds.Value ∷ [])
    else option_map (λ n. kinds_of n.mnemonic.syntax) (name_of name))

-- no statement has the name, or the first fault of its operands is this one
abbrev pub Stops : (List ℕ → Option ℕ) → ℕ → List ℕ → Why → Type 0
Stops places here text why =
    MatchOption (kinds_named (cut space text).before) (why ≡ Word)
    (λ kinds. OperandsStop places here kinds (cut space text).after why)

-- ---- lines, which are counted from 0 here

-- the line at this index gives this label
abbrev pub GivesLabel : List (List ℕ) → ℕ → List ℕ → Type 0
GivesLabel lines index name =
    (text : List ℕ) × (slice_get lines index ≡ Some text) × ((line_of text).label ≡ Some name)

-- it gives a label that an earlier line gives too
abbrev pub RepeatsLabel : List (List ℕ) → ℕ → Type 0
RepeatsLabel lines index =
    (name : List ℕ) × (earlier : ℕ) × GivesLabel lines index name × (earlier < index)
    × GivesLabel lines earlier name

-- how many words stand before it
abbrev pub words_before : List (List ℕ) → ℕ → ℕ
words_before lines index = sum_by (λ text. word_count (line_of text).statement) (take index lines)

-- it has a statement, which stops for this; a label's place is that of the first line that gives it
abbrev pub StatementStops : List (List ℕ) → ℕ → Why → Type 0
StatementStops lines index why =
    (text : List ℕ) × (statement : List ℕ) × (slice_get lines index ≡ Some text)
    × ((line_of text).statement ≡ Some statement)
    × Stops (words_at (place_of lines)) (words_before lines index) statement why

-- it is bad for its label, which comes first, or else for its statement
abbrev pub IsBadLine : List (List ℕ) → ℕ → Why → Type 0
IsBadLine lines index why =
    (RepeatsLabel lines index × (why ≡ Label))
    ⊎ (¬ RepeatsLabel lines index × StatementStops lines index why)

-- a line is bad for this, and no earlier one is bad
pub record IsFirstBad (lines : List (List ℕ)) (bad : Bad) : Type 0 where
  pub index : ℕ
  pub line : bad.line ≡ index + 1
  pub is_bad : IsBadLine lines index bad.why
  pub none_before : (earlier : ℕ) (why : Why) → earlier < index → ¬ IsBadLine lines earlier why
