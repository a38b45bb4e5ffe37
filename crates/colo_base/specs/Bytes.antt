-- How a cursor goes over a string of bytes.
use Rattle.std.specs.Prelude.{◌≡◌, ℕ, ◌<◌, ◌≤◌, List, length, drop}

-- the next n bytes were there, and the cursor stands after them
pub record Passes (n : ℕ) (before after : List ℕ) : Type 0 where
  pub enough : n ≤ length before
  pub left : after ≡ drop n before

-- fewer than n bytes were there, and the cursor stays
pub record IsShort (n : ℕ) (before after : List ℕ) : Type 0 where
  pub fewer : length before < n
  pub left : after ≡ before
