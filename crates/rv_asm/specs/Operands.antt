-- An operand's text, from left to right, with the first fault that is met.
use Rattle.std.specs.Prelude.{ℕ, ◌+◌, ◌-◌, ◌*◌, ◌%◌, ◌^◌, true, false, ℤ, pos, neg_ℤ, List, [], ◌∷◌, length, Option, Some, None, Result, Ok, Err, nat_le, ◌==◌, if◌then◌else◌}
use Rattle.shared_definitions.specs.Ascii.{comma, space, left_parenthesis, right_parenthesis}
use Rattle.ascii_text.specs.declared.numbers.NumberFault.{NumberFault}
use Rattle.ascii_text.specs.declared.numbers.NumberFault.TheVariants.{NoNumber, TooLarge}
use Rattle.ascii_text.specs.Cuts.{Halves, cut}
use Rattle.rv_forms.specs.declared.kinds.Operands.{Operands}
use Rattle.rv_forms.specs.declared.kinds.Kind.{Kind}
use Rattle.rv_forms.specs.declared.kinds.Kind.TheVariants as kinds
use Rattle.rv_asm.specs.declared.fault.Why.{Why}
use Rattle.rv_asm.specs.declared.fault.Why.TheVariants.{Word, Register, Range, Label}
use Rattle.rv_asm.specs.declared.reading.Number.{Number}
use Rattle.rv_asm.specs.Faults.{◌>>=◌}
use Rattle.rv_asm.specs.Reading.{number_within, register_of, is_label}

-- ---- registers

-- the register, or what is wrong with its text
abbrev pub register_or : Option ℕ → List ℕ → Result ℕ Why
register_or (Some r) text = Ok r
register_or None text = Err (if is_label text then Register else Word)

unfoldable pub register : List ℕ → Result ℕ Why
register text = register_or (register_of text) text

-- ---- numbers

abbrev pub value : Number → ℤ
value n = if n.negative then neg_ℤ (pos n.magnitude) else pos n.magnitude

-- modulo 2^32
abbrev pub word : Number → ℕ
word n = if n.negative then (2 ^ 32 - n.magnitude) % 2 ^ 32 else n.magnitude

-- what a number gives, or what else the text gives
abbrev pub number_or : {X : Type 0} → Result Number NumberFault → (Number → Result X Why)
    → Result X Why → Result X Why
number_or (Ok n) f other = f n
number_or (Err TooLarge) f other = Err Range
number_or (Err NoNumber) f other = other

unfoldable pub signed_number : List ℕ → Result ℤ Why
signed_number text = number_or (number_within 2048 2047 text) (λ n. Ok (value n)) (Err Word)

unfoldable pub unsigned_number : ℕ → List ℕ → Result ℕ Why
unsigned_number high text = number_or (number_within 0 high text) (λ n. Ok n.magnitude) (Err Word)

unfoldable pub word_number : List ℕ → Result ℕ Why
word_number text = number_or (number_within (2 ^ 31) (2 ^ 32 - 1) text)
    (λ n. Ok (word n)) (Err Word)

-- ---- labels

abbrev pub place_or : Option ℕ → Result ℕ Why
place_or (Some place) = Ok place
place_or None = Err Label

-- a label's place
abbrev pub named_place : (List ℕ → Option ℕ) → List ℕ → Result ℕ Why
named_place places text = if is_label text then place_or (places text) else Err Word

-- the bytes from the word at `here` to the word at `place`
abbrev pub distance : ℕ → ℕ → Number
distance here place =
    if nat_le here place then record { negative = false; magnitude = 4 * (place - here) }
    else record { negative = true; magnitude = 4 * (here - place) }

-- the address of a word: the first stands at 0x80000000
abbrev pub address : ℕ → ℕ
address place = 2 ^ 31 + 4 * place

-- a distance from minus the first bound to the second, and even
abbrev pub even : Number → Result ℤ Why
even n = if n.magnitude % 2 == 0 then Ok (value n) else Err Range

abbrev pub near : ℕ → ℕ → Number → Result ℤ Why
near low high n = if nat_le n.magnitude (if n.negative then low else high) then Ok (value n)
    else Err Range

unfoldable pub label_target : (List ℕ → Option ℕ) → ℕ → ℕ → ℕ → List ℕ → Result ℤ Why
label_target places here low high text = named_place places text >>= λ place. near low high
    (distance here place)

-- a label, or an even distance
unfoldable pub target : (List ℕ → Option ℕ) → ℕ → ℕ → ℕ → List ℕ → Result ℤ Why
target places here low high text = number_or (number_within low high text) even
    (label_target places here low high text)

abbrev pub in_memory : ℕ → Result ℕ Why
in_memory address = if nat_le address (2 ^ 32 - 1) then Ok address else Err Range

unfoldable pub label_value : (List ℕ → Option ℕ) → List ℕ → Result ℕ Why
label_value places text = named_place places text >>= λ place. in_memory (address place)

-- a label, or a number of a word
unfoldable pub word_value : (List ℕ → Option ℕ) → List ℕ → Result ℕ Why
word_value places text = number_or (number_within (2 ^ 31) (2 ^ 32 - 1) text)
    (λ n. Ok (word n)) (label_value places text)

-- ---- registers in parentheses

-- a closing parenthesis is the last byte
abbrev pub closed : Option (List ℕ) → ℕ → Result ℕ Why
closed None r = Err Word
closed (Some []) r = Ok r
closed (Some (_ ∷ _)) r = Err Word

-- what stands after an opening parenthesis
abbrev pub bracketed : Option (List ℕ) → Result ℕ Why
bracketed None = Err Word
bracketed (Some text) = register (cut right_parenthesis text).before >>= λ r. closed
    (cut right_parenthesis text).after r

-- a number, and a register in parentheses
abbrev pub address_by : Halves → Result (ℤ × ℕ) Why
address_by halves = signed_number halves.before >>= λ z. bracketed halves.after >>= λ r. Ok (z, r)

unfoldable pub address_parts : List ℕ → Result (ℤ × ℕ) Why
address_parts text = address_by (cut left_parenthesis text)

-- a register in parentheses, and nothing before them
abbrev pub base_by : Halves → Result ℕ Why
base_by halves = if length halves.before == 0 then bracketed halves.after else Err Word

unfoldable pub base_register : List ℕ → Result ℕ Why
base_register text = base_by (cut left_parenthesis text)

-- ---- operands

-- the values with this operand's
unfoldable pub operand : (List ℕ → Option ℕ) → ℕ → Kind → List ℕ → Operands → Result Operands Why
operand places here kinds.Rd text f = register text >>= λ r. Ok (record f { rd = r })
operand places here kinds.Rs1 text f = register text >>= λ r. Ok (record f { rs1 = r })
operand places here kinds.Rs2 text f = register text >>= λ r. Ok (record f { rs2 = r })
operand places here kinds.Immediate text f = signed_number text >>= λ z. Ok (record f { imm = z })
operand places here kinds.Shift text f = unsigned_number 31 text >>= λ n. Ok (record f { rs2 = n })
operand places here kinds.Small text f = unsigned_number 31 text >>= λ n. Ok (record f { rs1 = n })
operand places here kinds.Csr text f = unsigned_number 4095 text >>= λ n. Ok (record f { wide = n })
operand places here kinds.Upper text f = unsigned_number 0xFFFFF text >>= λ n. Ok
    (record f { wide = n })
operand places here kinds.Branch text f = target places here 4096 4094 text >>= λ z. Ok
    (record f { imm = z })
operand places here kinds.Jump text f = target places here 1048576 1048574 text >>= λ z. Ok
    (record f { imm = z })
operand places here kinds.Address text f = address_parts text >>= λ p. Ok
    (record f { imm = p.0; rs1 = p.1 })
operand places here kinds.Base text f = base_register text >>= λ r. Ok (record f { rs1 = r })
operand places here kinds.Word text f = word_number text >>= λ n. Ok (record f { wide = n })
operand places here kinds.Value text f = word_value places text >>= λ n. Ok (record f { wide = n })

-- a space stands after a comma
abbrev pub after_comma : Option (List ℕ) → Result (Option (List ℕ)) Why
after_comma None = Ok None
after_comma (Some []) = Err Word
after_comma (Some (c ∷ cs)) = if c == space then Ok (Some cs) else Err Word

-- an operand, and what stands after the comma that ends it
abbrev pub next_by : (List ℕ → Option ℕ) → ℕ → Kind → Halves → Operands
    → Result (Operands × Option (List ℕ)) Why
next_by places here kind halves f =
    operand places here kind halves.before f >>= λ g. after_comma halves.after >>= λ rest. Ok
    (g, rest)

unfoldable pub next_operand : (List ℕ → Option ℕ) → ℕ → Kind → Option (List ℕ) → Operands
    → Result (Operands × Option (List ℕ)) Why
next_operand places here kind None f = Err Word
next_operand places here kind (Some text) f = next_by places here kind (cut comma text) f

abbrev pub finish : Option (List ℕ) → Operands → Result Operands Why
finish None f = Ok f
finish (Some _) f = Err Word

-- the operands one after the other; one that is missing or left over stands at the end
unfoldable pub operands : (List ℕ → Option ℕ) → ℕ → List Kind → Option (List ℕ) → Operands
    → Result Operands Why
operands places here [] text f = finish text f
operands places here (kind ∷ more) text f =
    next_operand places here kind text f >>= λ next. operands places here more next.1 next.0

-- what was read, as a clause sees it
abbrev pub view_by : {X Y : Type 0} → (X → Y) → Result X Why → Result Y Why
view_by view (Ok x) = Ok (view x)
view_by view (Err why) = Err why
