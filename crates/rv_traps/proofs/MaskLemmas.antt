-- What a mask leaves of a word.
use Rattle.std.proofs.Common.{◌≡◌, ℕ, ◌/◌, ◌%◌, ◌^◌, false, ap, arith}
use Rattle.std.specs.Prelude.{bit_and, ◌==◌}
use Rattle.std.proofs.lemmas.Nat.Bits.{bit_at_and, same_from_bits}
use Rattle.rv_traps.specs.CsrState.{is_set, mie_of, mtvec_of}

-- a mask taken twice
and_twice : (a m : ℕ) → bit_and (bit_and a m) m ≡ bit_and a m
and_twice a m = same_from_bits _ _ (λ i. omega (arith, bit_at_and a m i, bit_at_and (bit_and a m) m i))

pub mie_of_twice : (w : ℕ) → mie_of (mie_of w) ≡ mie_of w
mie_of_twice w = and_twice w 0x888

-- bit 1 of the mask is 0
zero_bit : (w : ℕ) → bit_and w 0xFFFFFFFD / 2 ^ 1 % 2 ≡ 0
zero_bit w = omega (arith, bit_at_and w 0xFFFFFFFD 1)

pub is_set_mtvec_of : (w : ℕ) → is_set 1 (mtvec_of w) ≡ false
is_set_mtvec_of w = ap (λ n. n == 1) (zero_bit w)
