-- An address as a word: four numbers to 255 with dots, a colon, and a port from 1 to 65535.
use Rattle.std.specs.Prelude.{ℕ, Bool, false, List, Option, Some, None, is_some, if◌then◌else◌, ◌&&◌}
use Rattle.ascii_text.specs.Cuts.{cut}
use Rattle.colo_words.specs.Words.{read_number}
use Rattle.shared_definitions.specs.Ascii.{colon}

abbrev pub dot : ℕ
dot = 46

abbrev pub is_octet : List ℕ → Bool
is_octet text = is_some (read_number 0 255 text)

abbrev pub is_port : List ℕ → Bool
is_port text = is_some (read_number 1 65535 text)

-- what stands after the first such byte, where P holds of what stands before it
abbrev pub after_part : ℕ → (List ℕ → Bool) → List ℕ → Option (List ℕ)
after_part at P text = if P (cut at text).before then (cut at text).after else None

-- P holds of the text, if there is one
abbrev pub of_rest : (List ℕ → Bool) → Option (List ℕ) → Bool
of_rest P None = false
of_rest P (Some rest) = P rest

-- an octet, a dot, and then such a text
abbrev pub dotted : (List ℕ → Bool) → List ℕ → Bool
dotted P text = of_rest P (after_part dot is_octet text)

abbrev pub is_host : List ℕ → Bool
is_host text = dotted (dotted (dotted is_octet)) text

abbrev pub is_address : List ℕ → Bool
is_address word = of_rest is_port (after_part colon is_host word)
