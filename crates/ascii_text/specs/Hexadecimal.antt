-- Numbers as hexadecimal digits, letters in upper case.
use Rattle.std.specs.Prelude.{ℕ, zero, suc, ◌/◌, ◌%◌, true, List, [], ◌∷◌, ◌++◌, map, ◌==◌, ◌≡◌, if◌then◌else◌}
use Rattle.std.specs.Fmt.{digit_glyph}
use Rattle.std.specs.Int.Digits.{digits_of}
use Rattle.shared_definitions.specs.Ascii.{digit_zero}

-- a digit
abbrev pub glyph : ℕ → ℕ
glyph digit = digit_glyph true digit

-- the number, without needless zeros
unfoldable pub hexadecimal : ℕ → List ℕ
hexadecimal n = if n == 0 then digit_zero ∷ [] else map glyph (digits_of 16 n)

-- the last `count` digits of the number, zeros among them
unfoldable pub hexadecimal_digits : ℕ → ℕ → List ℕ
hexadecimal_digits zero n = []
hexadecimal_digits (suc count) n = hexadecimal_digits count (n / 16) ++ glyph (n % 16) ∷ []
