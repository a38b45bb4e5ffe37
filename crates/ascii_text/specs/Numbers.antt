-- Numbers without a sign, as digits (decimal numbers as std's `decimal` writes them, without
-- needless zeros).
use Rattle.std.specs.Prelude.{ℕ, Bool, not, List, length, Result, Ok, Err, nat_lt, nat_le, ◌==◌, ◌&&◌, ◌||◌, if◌then◌else◌, slice_index}
use Rattle.std.specs.Char.{is_digit}
use Rattle.std.specs.List.{list_all}
use Rattle.std.specs.Str.Parse.{digits_value}
use Rattle.shared_definitions.specs.Ascii.{digit_zero}
use Rattle.ascii_text.specs.declared.numbers.NumberFault.{NumberFault}
use Rattle.ascii_text.specs.declared.numbers.NumberFault.TheVariants.{NoNumber, TooLarge}

-- one digit or more in the base, and nothing else
abbrev pub is_numeral : ℕ → List ℕ → Bool
is_numeral base text = nat_lt 0 (length text) && list_all (λ c. is_digit c base) text

-- no zero stands in front of other digits
abbrev pub needs_each_digit : List ℕ → Bool
needs_each_digit text = length text == 1 || not (slice_index text 0 == digit_zero)

-- decimal digits without needless zeros
abbrev pub is_decimal : List ℕ → Bool
is_decimal text = is_numeral 10 text && needs_each_digit text

-- the number, where it is at most `most`
abbrev pub within : ℕ → ℕ → Result ℕ NumberFault
within most n = if nat_le n most then Ok n else Err TooLarge

-- the number of at most `most` that a decimal text writes
abbrev pub decimal_within : ℕ → List ℕ → Result ℕ NumberFault
decimal_within most text = if is_decimal text then within most (digits_value 10 text)
    else Err NoNumber

-- the number of at most `most` that hexadecimal digits write, letters of either case, zeros in
-- front allowed
abbrev pub hexadecimal_within : ℕ → List ℕ → Result ℕ NumberFault
hexadecimal_within most text = if is_numeral 16 text then within most (digits_value 16 text)
    else Err NoNumber
