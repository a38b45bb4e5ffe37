-- What a clock means: the numbers that it gave.
use Rattle.std.specs.Prelude.{◌≡◌, ℕ, ◌-◌, ◌^◌, ◌<◌, Bool, IsTrue, List, [], ◌∷◌, ◌++◌, length}

-- a clock at one moment
pub record ClockState : Type 0 where
  -- whether the numbers that it gave can be observed
  pub observable : Bool
  -- the numbers that it gave, in order, where they can be observed
  pub given : List ℕ

-- one number was given; a list that can be observed has at most 2 ^ 64 - 1 numbers, and of one that
-- is full nothing is said
pub record Gives (old new : ClockState) (tick : ℕ) : Type 0 where
  pub observable : new.observable ≡ old.observable
  pub given : IsTrue old.observable → length old.given < 2 ^ 64 - 1
      → new.given ≡ old.given ++ tick ∷ []
