-- What a sink means: the bytes put, and the puts that failed.
use Rattle.std.specs.Prelude.{◌≡◌, ℕ, ◌≤◌, Bool, IsTrue, List, ◌++◌}
use Rattle.std.specs.Io.{StartsWith}

-- a sink at one moment
pub record SinkState : Type 0 where
  -- whether the bytes put can be observed
  pub observable : Bool
  -- the bytes put, where they can be observed
  pub bytes : List ℕ
  -- how many puts failed
  pub faults : ℕ

-- the count doesn't fall, and whether the bytes can be observed stays
pub record SinkGoesOn (old new : SinkState) : Type 0 where
  pub observable : new.observable ≡ old.observable
  pub faults : old.faults ≤ new.faults

-- the bytes were put
abbrev pub Puts : SinkState → SinkState → List ℕ → Type 0
Puts old new put = IsTrue old.observable → new.bytes ≡ old.bytes ++ put

-- a prefix of the bytes was put
abbrev pub PutsPart : SinkState → SinkState → List ℕ → Type 0
PutsPart old new put =
    IsTrue old.observable → (part : List ℕ) × StartsWith put part × (new.bytes ≡ old.bytes ++ part)
