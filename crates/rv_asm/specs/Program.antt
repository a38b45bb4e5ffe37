-- A text, line by line: its words, or the first bad line with its first fault.
use Rattle.std.specs.Prelude.{◌≡◌, ℕ, ◌+◌, Bool, false, List, [], ◌∷◌, ◌++◌, Option, Some, None, Result, Ok, Err, nat_lt, ◌==◌, if◌then◌else◌}
use Rattle.std.specs.List.{slice_split, flat_map}
use Rattle.std.specs.Int.{w32, to_le_bytes}
use Rattle.shared_definitions.specs.Ascii.{newline}
use Rattle.rv_asm.specs.declared.fault.Why.{Why}
use Rattle.rv_asm.specs.declared.fault.Why.TheVariants.{Label}
use Rattle.rv_asm.specs.declared.fault.AsmFault.{AsmFault}
use Rattle.rv_asm.specs.declared.fault.AsmFault.TheVariants as faults
use Rattle.rv_asm.specs.declared.places.Place.{Place}
use Rattle.rv_asm.specs.Lines.{line_of, word_count, place_of, words_at}
use Rattle.rv_asm.specs.Statements.{statement}

abbrev pub stands_before : ℕ → Option Place → Bool
stands_before index None = false
stands_before index (Some place) = nat_lt place.line index

-- whether the label stands already before an earlier line
abbrev pub label_is_given : (List ℕ → Option Place) → ℕ → Option (List ℕ) → Bool
label_is_given places index None = false
label_is_given places index (Some name) = stands_before index (places name)

abbrev pub statement_words : (List ℕ → Option ℕ) → ℕ → Option (List ℕ) → Result (List ℕ) Why
statement_words places here None = Ok []
statement_words places here (Some text) = statement places here text

-- the words of the line at an index, where `here` words stand before it
unfoldable pub line_words : (List ℕ → Option Place) → ℕ → ℕ → List ℕ → Result (List ℕ) Why
line_words places index here text =
    if label_is_given places index (line_of text).label then Err Label
    else statement_words (words_at places) here (line_of text).statement

-- a line, counted from 1, and what is wrong with it
pub record Bad : Type 0 where
  pub line : ℕ
  pub why : Why

-- what comes before, put in front
abbrev pub with_before : List ℕ → Result (List ℕ) Bad → Result (List ℕ) Bad
with_before before (Ok words) = Ok (before ++ words)
with_before before (Err bad) = Err bad

-- the first bad line, or the words of this line and of the later ones
abbrev pub and_later : Result (List ℕ) Why → ℕ → Result (List ℕ) Bad → Result (List ℕ) Bad
and_later (Err why) line later = Err (record { line = line; why = why })
and_later (Ok words) line later = with_before words later

-- the lines from an index on
unfoldable pub program_from : (List ℕ → Option Place) → List (List ℕ) → ℕ → ℕ → Result (List ℕ) Bad
program_from places [] index here = Ok []
program_from places (text ∷ texts) index here =
    and_later (line_words places index here text) (index + 1) (program_from places texts
    (index + 1) (here + word_count (line_of text).statement))

unfoldable pub program : List (List ℕ) → Result (List ℕ) Bad
program lines = program_from (place_of lines) lines 0 0

-- the lines are separated by newlines; an empty one has no words, so the last newline may be
-- missing
abbrev pub lines_of : List ℕ → List (List ℕ)
lines_of text = slice_split (λ byte. byte == newline) text

-- the text has no bad line, and these are its words
abbrev pub Assembles : List ℕ → List ℕ → Type 0
Assembles text words = program (lines_of text) ≡ Ok words

-- words in memory, each little-endian
abbrev pub bytes_of : List ℕ → List ℕ
bytes_of words = flat_map (to_le_bytes w32) words

abbrev pub HaveBytes : List (List ℕ) → List ℕ → Type 0
HaveBytes lines bytes = (words : List ℕ) × (program lines ≡ Ok words) × (bytes ≡ bytes_of words)

-- the bytes are those of the text's words
abbrev pub AreBytesOf : List ℕ → List ℕ → Type 0
AreBytesOf text bytes = HaveBytes (lines_of text) bytes

-- the first bad line, and its first fault
abbrev pub HaveFault : List (List ℕ) → AsmFault → Type 0
HaveFault lines (faults.Line line why) = program lines ≡ Err (record { line = line; why = why })
HaveFault lines faults.NoMemory = Unit {0}

abbrev pub IsFirstFault : List ℕ → AsmFault → Type 0
IsFirstFault text fault = HaveFault (lines_of text) fault

-- what is wrong with a line
abbrev pub IsFaultOf : Result (List ℕ) Why → ℕ → AsmFault → Type 0
IsFaultOf given index (faults.Line line why) = (given ≡ Err why) × (line ≡ index + 1)
IsFaultOf given index faults.NoMemory = Unit {0}

-- the bytes with those of the words after them
abbrev pub WritesWords : Result (List ℕ) Why → List ℕ → List ℕ → Type 0
WritesWords given old new = (words : List ℕ) × (given ≡ Ok words) × (new ≡ old ++ bytes_of words)
