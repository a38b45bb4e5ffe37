-- Names and numbers as words.
use Rattle.std.specs.Prelude.{ℕ, Bool, false, not, ◌==◌, List, [], ◌∷◌, Option, Some, None, Result, Ok, Err, map, nat_le, if◌then◌else◌, string_bytes, String}
use Rattle.std.specs.declared.alloc.Global.{Global}
use Rattle.ascii_text.specs.Numbers.{decimal_within}
use Rattle.ascii_text.specs.declared.numbers.NumberFault.{NumberFault}
use Rattle.shared_definitions.specs.Ascii.{minus}

-- the bytes of each word
abbrev pub texts : List (String Global) → List (List ℕ)
texts words = map (λ word. string_bytes word) words

-- a name is a word that isn't empty and doesn't begin with `-`
abbrev pub is_name : List ℕ → Bool
is_name [] = false
is_name (first ∷ rest) = not (first == minus)

-- the number, where it is at least `least`
abbrev pub from_least : ℕ → Result ℕ NumberFault → Option ℕ
from_least least (Ok n) = if nat_le least n then Some n else None
from_least least (Err fault) = None

-- the decimal number from `least` to `most` that a word spells, without sign or needless zeros
abbrev pub read_number : ℕ → ℕ → List ℕ → Option ℕ
read_number least most word = from_least least (decimal_within most word)
