-- A number of 64 bits as two words of 32 bits.
use Rattle.std.specs.Prelude.{ℕ, ◌+◌, ◌*◌, ◌/◌, ◌%◌, ◌^◌}

-- the word of the lower 32 bits
abbrev pub low_half : ℕ → ℕ
low_half n = n % 2 ^ 32

-- the word of the upper 32 bits
abbrev pub high_half : ℕ → ℕ
high_half n = n / 2 ^ 32

-- the number with another lower word
abbrev pub with_low_half : ℕ → ℕ → ℕ
with_low_half n word = high_half n * 2 ^ 32 + word

-- the number with another upper word
abbrev pub with_high_half : ℕ → ℕ → ℕ
with_high_half n word = word * 2 ^ 32 + low_half n
