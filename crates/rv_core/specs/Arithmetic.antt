-- Arithmetic of words of 32 bits: what each operation of RV32I and RV32M gives.
-- RISC-V unprivileged, RV32I, 2.4 ("Integer Computational Instructions"), and M ("Multiplication
-- Operations", "Division Operations").
use Rattle.std.specs.Prelude.{ℕ, ◌+◌, ◌-◌, ◌*◌, ◌/◌, ◌%◌, ◌^◌, ◌==◌, Bool, if◌then◌else◌, nat_lt, ℤ, pos, ◌*ℤ◌, int_lt, int_div, int_rem}
use Rattle.std.specs.Int.{w32, cast_signed, cast_unsigned, int_shr}
use Rattle.rv_isa.specs.Fields.{signed}

-- a word as a number with a sign, in two's complement, and such a number as a word
abbrev pub signed_word : ℕ → ℤ
signed_word a = cast_signed w32 a

abbrev pub word_of : ℤ → ℕ
word_of z = cast_unsigned w32 z

-- the low k bits of a word, with copies of the highest of them, or zeros, above
abbrev pub sign_extended : ℕ → ℕ → ℕ
sign_extended k a = word_of (signed k (a % 2 ^ k))

abbrev pub zero_extended : ℕ → ℕ → ℕ
zero_extended k a = a % 2 ^ k

-- ---- 2.4: sums and differences modulo 2^32, comparisons, bits, and shifts by the low 5 bits

abbrev pub add : ℕ → ℕ → ℕ
add a b = (a + b) % 2 ^ 32

abbrev pub sub : ℕ → ℕ → ℕ
sub a b = (a + (2 ^ 32 - b)) % 2 ^ 32

-- whether a is less than b, as signed and as unsigned numbers
abbrev pub lt : ℕ → ℕ → Bool
lt a b = int_lt (signed_word a) (signed_word b)

abbrev pub ltu : ℕ → ℕ → Bool
ltu a b = nat_lt a b

-- the same as a word, 1 or 0
abbrev pub slt : ℕ → ℕ → ℕ
slt a b = if lt a b then 1 else 0

abbrev pub sltu : ℕ → ℕ → ℕ
sltu a b = if ltu a b then 1 else 0

abbrev pub sll : ℕ → ℕ → ℕ
sll a b = a * 2 ^ (b % 32) % 2 ^ 32

abbrev pub srl : ℕ → ℕ → ℕ
srl a b = a / 2 ^ (b % 32)

-- the sign's bit is copied into the bits above
abbrev pub sra : ℕ → ℕ → ℕ
sra a b = word_of (int_shr (signed_word a) (b % 32))

-- ---- M: the low and the high half of products, and division, which rounds toward zero

abbrev pub mul : ℕ → ℕ → ℕ
mul a b = a * b % 2 ^ 32

abbrev pub mulh : ℕ → ℕ → ℕ
mulh a b = word_of (int_shr (signed_word a *ℤ signed_word b) 32)

abbrev pub mulhsu : ℕ → ℕ → ℕ
mulhsu a b = word_of (int_shr (signed_word a *ℤ pos b) 32)

abbrev pub mulhu : ℕ → ℕ → ℕ
mulhu a b = a * b / 2 ^ 32

-- a divisor of 0 gives the quotient of all ones and the dividend as remainder; the least number by
-- -1 gives itself and 0
abbrev pub div : ℕ → ℕ → ℕ
div a b = if b == 0 then 2 ^ 32 - 1 else word_of (int_div (signed_word a) (signed_word b))

abbrev pub divu : ℕ → ℕ → ℕ
divu a b = if b == 0 then 2 ^ 32 - 1 else a / b

abbrev pub rem : ℕ → ℕ → ℕ
rem a b = if b == 0 then a else word_of (int_rem (signed_word a) (signed_word b))

abbrev pub remu : ℕ → ℕ → ℕ
remu a b = if b == 0 then a else a % b

-- ---- A ("Atomic Memory Operations"): the lesser and the greater of two words, as signed and as
-- unsigned numbers

abbrev pub min : ℕ → ℕ → ℕ
min a b = if lt b a then b else a

abbrev pub max : ℕ → ℕ → ℕ
max a b = if lt a b then b else a

abbrev pub minu : ℕ → ℕ → ℕ
minu a b = if ltu b a then b else a

abbrev pub maxu : ℕ → ℕ → ℕ
maxu a b = if ltu a b then b else a
