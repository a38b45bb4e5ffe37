-- Numbers that are read digit by digit.
use Rattle.std.proofs.Common.{◌≡◌, ℕ, ◌+◌, ◌*◌, ◌<◌, ◌≤◌, List, length, get_or, take, refl, Ok, Err, arith}
use Rattle.std.specs.Char.{digit_value}
use Rattle.std.specs.Str.Parse.{digits_value}
use Rattle.std.proofs.lemmas.Bool.{le-leb, lt-leb}
use Rattle.std.proofs.lemmas.Str.Parse.{digits_value-take-le}
use Rattle.std.proofs.lemmas.Int.Digits.{digits_value_more}
use Rattle.ascii_text.specs.Numbers.{within}
use Rattle.ascii_text.specs.declared.numbers.NumberFault.TheVariants.{TooLarge}

pub within_ok : (most n : ℕ) → n ≤ most → within most n ≡ Ok n
within_ok most n small = rw (le-leb n most small) refl

pub within_large : (most n : ℕ) → most < n → within most n ≡ Err TooLarge
within_large most n large = rw (lt-leb n most large) refl

-- a number that is too large stays so with more digits
pub still_large : (base most : ℕ) (digits : List ℕ) (i value : ℕ) → 1 ≤ base → i < length digits →
    value ≡ digits_value base (take i digits) → most < value * base + digit_value (get_or digits i 0)
    → within most (digits_value base digits) ≡ Err TooLarge
still_large base most digits i value low inside so_far large =
    within_large most (digits_value base digits) (omega (
      arith,
      digits_value-take-le base digits (i + 1) low,
      rw (← so_far) at (digits_value_more base digits i inside),
    ))

-- the value of one digit more
pub with_more : (base : ℕ) (digits : List ℕ) (i value digit number : ℕ) → i < length digits →
    value ≡ digits_value base (take i digits) → digit ≡ digit_value (get_or digits i 0) →
    number ≡ value * base + digit
    → number ≡ digits_value base (take (i + 1) digits)
with_more base digits i value digit number inside so_far this e =
    let more = digits_value_more base digits i inside in cc
