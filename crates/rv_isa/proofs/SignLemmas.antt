-- A signed number as k bits of two's complement and back.
use Rattle.std.proofs.Common.{◌≡◌, ℕ, suc, ◌-◌, ◌*◌, ◌%◌, ◌<◌, ◌≤◌, ◌^◌, ℤ, pos, negsuc, ◌-ℤ◌, lt-ltb, le-ltb, inl, inr, ap, ◌∙◌, arith}
use Rattle.std.proofs.lemmas.Bool.{cond-true, cond-false, cases_lt}
use Rattle.std.proofs.lemmas.Int.{ints}
use Rattle.rv_isa.specs.Fields.{signed}
use Rattle.rv_isa.specs.Ranges.{IsSigned, IsOffset}
use Rattle.rv_isa.specs.Words.{unsigned}

-- a number without its sign bit, and one with it
pub signed_low : (k n : ℕ) → n < 2 ^ (k - 1) → signed k n ≡ pos n
signed_low k n l = cond-true _ _ _ (lt-ltb _ _ l)

pub signed_high : (k n : ℕ) → 2 ^ (k - 1) ≤ n → n < 2 ^ k → signed k n ≡ negsuc (2 ^ k - suc n)
signed_high k n h l =
    let below : pos n -ℤ pos (2 ^ k) ≡ negsuc (2 ^ k - suc n) = omega (arith, ints) in
    cond-false _ (pos n) (pos n -ℤ pos (2 ^ k)) (le-ltb _ _ h) ∙ below

pub unsigned-signed : (k n : ℕ) → n < 2 ^ k → unsigned k (signed k n) ≡ n
unsigned-signed k n l =
    elim (cases_lt n (2 ^ (k - 1))) [
      | inl h ↦ ap (unsigned k) (signed_low k n h)
      | inr h ↦ ap (unsigned k) (signed_high k n h l) ∙ omega arith
    ]

-- the bits of a number fit, and are that number's
pub unsigned_fits : (k : ℕ) (z : ℤ) → 2 ^ k ≡ 2 * 2 ^ (k - 1) → IsSigned k z → unsigned k z < 2 ^ k
unsigned_fits k (pos n) e h = omega (arith, ints)
unsigned_fits k (negsuc n) e h = omega (arith, ints)

pub signed-unsigned : (k : ℕ) (z : ℤ) → 2 ^ k ≡ 2 * 2 ^ (k - 1) → IsSigned k z → signed k (unsigned k z) ≡ z
signed-unsigned k (pos n) e h = signed_low k n (omega (arith, ints))
signed-unsigned k (negsuc n) e h =
    let low : 2 ^ (k - 1) ≤ 2 ^ k - suc n = omega (arith, ints) in
    let high : 2 ^ k - suc n < 2 ^ k = omega (arith, ints) in
    signed_high k (2 ^ k - suc n) low high ∙ ap negsuc (omega (arith, ints))

-- an even number has even bits
pub unsigned_even : (k : ℕ) (z : ℤ) → 2 ^ k ≡ 2 * 2 ^ (k - 1) → IsOffset k z → unsigned k z % 2 ≡ 0
unsigned_even k (pos n) e h = h.1
unsigned_even k (negsuc n) e h = omega (arith, ints)
