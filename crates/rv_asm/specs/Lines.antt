-- The lines of a text: labels, statements and their places.
use Rattle.std.specs.Prelude.{ℕ, ◌+◌, Bool, true, false, List, [], ◌∷◌, length, Option, Some, None, ◌==◌, ◌&&◌, codes, if◌then◌else◌, option_map}
use Rattle.std.specs.Str.{bytes_eq}
use Rattle.shared_definitions.specs.Ascii.{colon, space}
use Rattle.ascii_text.specs.Cuts.{cut}
use Rattle.rv_asm.specs.declared.places.Place.{Place}
use Rattle.rv_asm.specs.Reading.{is_label}

-- a label, perhaps, and a statement, perhaps
pub record Line : Type 0 where
  pub label : Option (List ℕ)
  pub statement : Option (List ℕ)

-- whether a text ends where it was cut
abbrev pub ends : Option (List ℕ) → Bool
ends (Some []) = true
ends _ = false

-- what stands before the colon that ends a word, where it has a label's form
unfoldable pub label_of : List ℕ → Option (List ℕ)
label_of text = if ends (cut colon text).after
    && is_label (cut colon text).before then Some (cut colon text).before else None

-- after a label a statement stands after one space
abbrev pub line_with : Option (List ℕ) → List ℕ → Option (List ℕ) → Line
line_with (Some label) text rest = record { label = Some label; statement = rest }
line_with None text rest = record {
  label = None;
  statement = if length text == 0 then None
      else Some text;
}

unfoldable pub line_of : List ℕ → Line
line_of text = line_with (label_of (cut space text).before) text (cut space text).after

-- how many words a statement stands for, be it good or bad
unfoldable pub word_count : Option (List ℕ) → ℕ
word_count None = 0
word_count (Some text) = if bytes_eq (cut space text).before (codes "li") then 2 else 1

abbrev pub is_named : Option (List ℕ) → List ℕ → Bool
is_named None name = false
is_named (Some label) name = bytes_eq label name

-- the first line with this label, where the lines begin at a line and a place
unfoldable pub place_from : List (List ℕ) → ℕ → ℕ → List ℕ → Option Place
place_from [] line words name = None
place_from (text ∷ texts) line words name =
    if is_named (line_of text).label name then Some (record { line = line; words = words })
    else place_from texts (line + 1) (words + word_count (line_of text).statement) name

abbrev pub place_of : List (List ℕ) → List ℕ → Option Place
place_of texts = place_from texts 0 0

-- how many words stand before a label
abbrev pub words_at : (List ℕ → Option Place) → List ℕ → Option ℕ
words_at places name = option_map (λ place. place.words) (places name)
