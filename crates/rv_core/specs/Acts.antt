-- What a bus means: it is a state, and what its calls answer and leave are functions of that state
-- and of the call's arguments.
use Rattle.std.specs.Prelude.{ℕ, Bool, Option}

-- the acts of a bus whose states are S: what a fetch of the word at an address answers, what a load
-- of so many bytes answers, whether a store of a value in so many bytes is taken, the state that it
-- leaves, and whether it may run out of memory
pub record Acts (S : Type 0) : Type 0 where
  pub fetched : S → ℕ → Option ℕ
  pub loaded : S → ℕ → ℕ → Option ℕ
  pub stores : S → ℕ → ℕ → ℕ → Bool
  pub stored : S → ℕ → ℕ → ℕ → S
  pub wants : S → ℕ → ℕ → ℕ → Bool
