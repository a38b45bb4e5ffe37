-- The words of a statement.
use Rattle.std.specs.Prelude.{ℕ, ◌+◌, ◌/◌, ◌%◌, ◌^◌, Bool, false, ℤ, pos, List, [], ◌∷◌, Option, Some, None, Result, Ok, Err, codes, if◌then◌else◌}
use Rattle.std.specs.Str.{bytes_eq}
use Rattle.shared_definitions.specs.Ascii.{space}
use Rattle.ascii_text.specs.Cuts.{Halves, cut}
use Rattle.rv_isa.specs.Fields.{signed}
use Rattle.rv_isa.specs.Words as isa
use Rattle.rv_isa.specs.declared.instr.Instr.TheVariants.{Lui, Addi}
use Rattle.rv_forms.specs.declared.kinds.Kind.TheVariants as kinds
use Rattle.rv_forms.specs.declared.kinds.Operands.{Operands}
use Rattle.rv_forms.specs.Forms.{kinds_of, word_of}
use Rattle.rv_forms.specs.Names.{Name, name_of}
use Rattle.rv_asm.specs.declared.fault.Why.{Why}
use Rattle.rv_asm.specs.declared.fault.Why.TheVariants.{Word}
use Rattle.rv_asm.specs.Faults.{◌>>=◌}
use Rattle.rv_asm.specs.Operands.{operands}

-- no value yet, with these order bits
abbrev pub no_operands : Bool → Bool → Operands
no_operands aq rl = record { rd = 0; rs1 = 0; rs2 = 0; imm = pos 0; wide = 0; aq = aq; rl = rl }

-- a number is the upper 20 bits of one word and a signed 12-bit number, modulo 2^32
abbrev pub upper_part : ℕ → ℕ
upper_part n = (n + 2 ^ 11) / 2 ^ 12 % 2 ^ 20

abbrev pub lower_part : ℕ → ℤ
lower_part n = signed 12 (n % 2 ^ 12)

-- LUI and ADDI
abbrev pub load_words : ℕ → ℕ → List ℕ
load_words rd n = isa.word_of (Lui rd (upper_part n)) ∷ isa.word_of (Addi rd rd (lower_part n)) ∷ []

abbrev pub data_words : (List ℕ → Option ℕ) → ℕ → Option (List ℕ) → Result (List ℕ) Why
data_words places here rest = operands places here (kinds.Word ∷ []) rest
    (no_operands false false) >>= λ f. Ok (f.wide ∷ [])

abbrev pub li_words : (List ℕ → Option ℕ) → ℕ → Option (List ℕ) → Result (List ℕ) Why
li_words places here rest = operands places here (kinds.Rd ∷ kinds.Value ∷ []) rest
    (no_operands false false) >>= λ f. Ok (load_words f.rd f.wide)

-- the word of the instruction with this name
abbrev pub instruction_words : (List ℕ → Option ℕ) → ℕ → Option Name → Option (List ℕ)
    → Result (List ℕ) Why
instruction_words places here None rest = Err Word
instruction_words places here (Some n) rest =
    operands places here (kinds_of n.mnemonic.syntax) rest (no_operands n.aq n.rl) >>= λ f. Ok
    (word_of n.mnemonic.syntax n.mnemonic.value f ∷ [])

-- a name, and after a space its operands
abbrev pub words_by : (List ℕ → Option ℕ) → ℕ → Halves → Result (List ℕ) Why
words_by places here halves =
    if bytes_eq halves.before (codes ".word")
    then data_words places here halves.after
    else (if bytes_eq halves.before (codes "li")
    then li_words places here halves.after
    else instruction_words places here (name_of halves.before) halves.after)

unfoldable pub statement : (List ℕ → Option ℕ) → ℕ → List ℕ → Result (List ℕ) Why
statement places here text = words_by places here (cut space text)
