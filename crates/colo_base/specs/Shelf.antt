-- What a shelf means: files by name, and the calls on them that failed.
use Rattle.std.specs.Prelude.{◌≡◌, ℕ, ◌≤◌, Bool, IsTrue, List, [], ◌++◌, Option, Some, IsSomeAnd, unwrap_or, ◌⊎◌}
use Rattle.std.specs.Io.{StartsWith}

-- a shelf at one moment; a name is the bytes of its text, and so are the contents
pub record ShelfState : Type 0 where
  -- whether the contents can be observed
  pub observable : Bool
  -- the contents of each name, where they can be observed; None where there is no such file
  pub contents : List ℕ → Option (List ℕ)
  -- for each name, how many fetches failed
  pub fetch_faults : List ℕ → ℕ
  -- for each name, how many creates and appends failed
  pub write_faults : List ℕ → ℕ

-- the bytes that a name has; none where there is no such file
abbrev pub bytes_of : ShelfState → List ℕ → List ℕ
bytes_of shelf name = unwrap_or (shelf.contents name) []

-- no count falls, whether contents can be observed stays, and only names that P allows have other
-- contents
pub record ChangesOnly (P : List ℕ → Type 0) (old new : ShelfState) : Type 0 where
  pub observable : new.observable ≡ old.observable
  pub fetch_faults : (name : List ℕ) → old.fetch_faults name ≤ new.fetch_faults name
  pub write_faults : (name : List ℕ) → old.write_faults name ≤ new.write_faults name
  pub others : IsTrue old.observable → (name : List ℕ) → (P name → ⊥)
      → new.contents name ≡ old.contents name

-- no fetch failed
abbrev pub NoFetchFailed : ShelfState → ShelfState → Type 0
NoFetchFailed old new = (name : List ℕ) → new.fetch_faults name ≡ old.fetch_faults name

-- no create and no append failed
abbrev pub NoWriteFailed : ShelfState → ShelfState → Type 0
NoWriteFailed old new = (name : List ℕ) → new.write_faults name ≡ old.write_faults name

-- there is such a file, and its contents came after what was there before
abbrev pub Fetches : ShelfState → List ℕ → List ℕ → List ℕ → Type 0
Fetches shelf name before after =
    IsTrue shelf.observable → IsSomeAnd (shelf.contents name) (λ bytes. after ≡ before ++ bytes)

-- the name is a file without bytes
abbrev pub Empties : ShelfState → ShelfState → List ℕ → Type 0
Empties old new name = IsTrue old.observable → new.contents name ≡ Some []

-- the name is a file without bytes, or as it was
abbrev pub EmptiesOrKeeps : ShelfState → ShelfState → List ℕ → Type 0
EmptiesOrKeeps old new name =
    IsTrue old.observable → (new.contents name ≡ Some []) ⊎ (new.contents name ≡ old.contents name)

-- the bytes came after those of the name, which was created where it wasn't there
abbrev pub Adds : ShelfState → ShelfState → List ℕ → List ℕ → Type 0
Adds old new name bytes =
    IsTrue old.observable → new.contents name ≡ Some (bytes_of old name ++ bytes)

-- a prefix of the bytes came after those of the name, or the name is as it was
abbrev pub AddsPart : ShelfState → ShelfState → List ℕ → List ℕ → Type 0
AddsPart old new name bytes =
    IsTrue old.observable → (new.contents name ≡ old.contents name)
    ⊎ ((part : List ℕ) × StartsWith bytes part
    × (new.contents name ≡ Some (bytes_of old name ++ part)))
