-- The numbers that are drawn one after another, from 32 bits by three shifts (Marsaglia, Xorshift
-- RNGs, 2003).
use Rattle.std.specs.Prelude.{ℕ, zero, suc, ◌*◌, ◌/◌, ◌%◌, ◌^◌, bit_xor, List, map}
use Rattle.std.specs.List.{range_with_len}

-- a number of 32 bits, and itself moved up by n bits, or down
abbrev pub xor_up : ℕ → ℕ → ℕ
xor_up n x = bit_xor x (x * 2 ^ n % 2 ^ 32)

abbrev pub xor_down : ℕ → ℕ → ℕ
xor_down n x = bit_xor x (x / 2 ^ n)

-- the number that is drawn after this one
unfoldable pub draw : ℕ → ℕ
draw x = xor_up 5 (xor_down 17 (xor_up 13 x))

-- the number after k draws
abbrev pub drawn : ℕ → ℕ → ℕ
drawn zero number = number
drawn (suc k) number = draw (drawn k number)

-- the numbers of so many turns, one draw for each
abbrev pub draws : ℕ → ℕ → List ℕ
draws turns number = map (λ k. drawn k number) (range_with_len 1 turns)
