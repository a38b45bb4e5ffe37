-- Which lengths a body may have, also where only the first bytes of the length are there.
use Rattle.std.specs.Prelude.{◌≡◌, ℕ, ◌+◌, ◌-◌, ◌*◌, ◌/◌, ◌%◌, ◌≤◌, Bool, ◌&&◌, nat_le, List, [], ◌∷◌, ◌++◌, length, drop}
use Rattle.std.specs.Int.{w32, from_be_bytes}
use Rattle.colo_wire.specs.declared.forms.Lengths.{Lengths}

-- a body may be so long
pub record AllowsLength (lengths : Lengths) (n : ℕ) : Type 0 where
  pub from : lengths.shortest ≤ n
  pub to : n ≤ lengths.longest
  pub stepped : (n - lengths.shortest) % lengths.step ≡ 0

-- the smallest and the greatest number of four bytes that begins with these
abbrev pub low_of : List ℕ → ℕ
low_of part = from_be_bytes w32 (part ++ drop (length part) (0 ∷ 0 ∷ 0 ∷ 0 ∷ []))

abbrev pub high_of : List ℕ → ℕ
high_of part = from_be_bytes w32 (part ++ drop (length part) (255 ∷ 255 ∷ 255 ∷ 255 ∷ []))

-- the smallest length from a number on that the steps reach
abbrev pub next_length : Lengths → ℕ → ℕ
next_length lengths low =
    lengths.shortest + ((low - lengths.shortest) + (lengths.step - 1)) / lengths.step * lengths.step

-- whether an allowed length begins with these bytes
unfoldable pub may_begin_length : Lengths → List ℕ → Bool
may_begin_length lengths part =
    nat_le (next_length lengths (low_of part)) (high_of part)
    && nat_le (next_length lengths (low_of part)) lengths.longest
