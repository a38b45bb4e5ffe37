-- The words of an assembly text: numbers, registers and labels.
use Rattle.std.specs.Prelude.{ℕ, ◌+◌, Bool, true, false, List, [], ◌∷◌, drop, Option, None, Result, Ok, Err, ◌==◌, ◌&&◌, ◌||◌, if◌then◌else◌, option_map, slice_index}
use Rattle.std.specs.Result.{result_ok}
use Rattle.std.specs.Char.{is_ascii_alphabetic, is_ascii_alphanumeric}
use Rattle.std.specs.List.{list_all}
use Rattle.shared_definitions.specs.Ascii.{minus, digit_zero, letter_a, letter_x, underscore}
use Rattle.ascii_text.specs.declared.numbers.NumberFault.{NumberFault}
use Rattle.ascii_text.specs.Numbers.{decimal_within, hexadecimal_within}
use Rattle.rv_asm.specs.declared.reading.Number.{Number}

abbrev pub with_sign : Bool → Result ℕ NumberFault → Result Number NumberFault
with_sign negative (Ok n) = Ok (record { negative = negative; magnitude = n })
with_sign negative (Err fault) = Err fault

-- a number from minus the first bound to the second: `-` and a decimal number, `0x` and hexadecimal
-- digits, or a decimal number
unfoldable pub number_within : ℕ → ℕ → List ℕ → Result Number NumberFault
number_within low high text =
    if slice_index text 0 == minus
    then with_sign true (decimal_within low (drop 1 text))
    else (if slice_index text 0 == digit_zero && slice_index text 1 == letter_x
    then with_sign false (hexadecimal_within high (drop 2 text))
    else with_sign false (decimal_within high text))

-- a register's number: `x0` to `x31` by number, and `a0` to `a7` for 10 to 17
unfoldable pub register_of : List ℕ → Option ℕ
register_of text =
    if slice_index text 0 == letter_x
    then result_ok (decimal_within 31 (drop 1 text))
    else (if slice_index text 0 == letter_a
    then option_map (λ n. 10 + n) (result_ok (decimal_within 7 (drop 1 text)))
    else None)

-- a letter, and then letters, digits and `_`
abbrev pub is_label_byte : ℕ → Bool
is_label_byte c = is_ascii_alphanumeric c || c == underscore

abbrev pub is_label : List ℕ → Bool
is_label [] = false
is_label (c ∷ cs) = is_ascii_alphabetic c && list_all is_label_byte cs
