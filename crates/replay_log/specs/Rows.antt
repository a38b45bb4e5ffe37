-- A text's lines and their words.
use Rattle.std.specs.Prelude.{ℕ, Bool, true, false, List, [], ◌∷◌, ◌==◌, if◌then◌else◌, length}
use Rattle.std.specs.List.{slice_split}
use Rattle.shared_definitions.specs.Ascii.{newline, space}

-- a line of a text, and whether a newline ends it
pub record Row : Type 0 where
  pub content : List ℕ
  pub is_ended : Bool

-- what stands after the last newline is a line where it has a byte
abbrev pub rows_of_parts : List (List ℕ) → List Row
rows_of_parts [] = []
rows_of_parts (last ∷ []) = if length last == 0 then [] else
    (record { content = last; is_ended = false } ∷ [])
rows_of_parts (part ∷ next ∷ parts) = record { content = part; is_ended = true }
    ∷ rows_of_parts (next ∷ parts)

unfoldable pub rows_of : List ℕ → List Row
rows_of text = rows_of_parts (slice_split (λ byte. byte == newline) text)

-- the words of a line, separated by one space
unfoldable pub words_of : List ℕ → List (List ℕ)
words_of content = slice_split (λ byte. byte == space) content
