-- The files that a task reads.
use Rattle.std.specs.Prelude.{◌≡◌, ℕ, IsTrue, IsSome, List, [], ◌∷◌, Some, None, ◌⊎◌}
use Rattle.colo_base.specs.Count.{Increased}
use Rattle.file_steps.specs.declared.fault.Fault.{Fault}
use Rattle.file_steps.specs.declared.fault.Fault.TheVariants.{Usage, Refused, Read, Write, NoMemory}
use Rattle.colo_base.specs.Shelf.{ShelfState, ChangesOnly, NoFetchFailed, NoWriteFailed}

-- the names have these bytes, where contents can be observed
abbrev pub AreRead : ShelfState → List (List ℕ) → List (List ℕ) → Type 0
AreRead shelf [] [] = Unit {0}
AreRead shelf [] (text ∷ texts) = ⊥
AreRead shelf (name ∷ names) [] = ⊥
AreRead shelf (name ∷ names) (text ∷ texts) =
    (IsTrue shelf.observable → shelf.contents name ≡ Some text) × AreRead shelf names texts

-- the names were fetched in this order up to one whose fetch failed: each before it is there
abbrev pub FetchFailed : List (List ℕ) → ShelfState → ShelfState → Type 0
FetchFailed [] old new = ⊥
FetchFailed (name ∷ names) old new =
    Increased (old.fetch_faults name) (new.fetch_faults name)
    ⊎ ((IsTrue old.observable → IsSome (old.contents name)) × FetchFailed names old new)

-- there is no file of one of these names
abbrev pub IsMissing : ShelfState → List (List ℕ) → Type 0
IsMissing shelf [] = ⊥
IsMissing shelf (name ∷ names) = (shelf.contents name ≡ None) ⊎ IsMissing shelf names

-- no file changed
abbrev pub KeepsFiles : ShelfState → ShelfState → Type 0
KeepsFiles old new = ChangesOnly (λ name. ⊥) old new

-- no file changed, and no call failed
pub record IsUntouched (old new : ShelfState) : Type 0 where
  pub files : KeepsFiles old new
  pub fetches : NoFetchFailed old new
  pub writes : NoWriteFailed old new

-- a fetch failed before any file was created
pub record FailsToRead (names : List (List ℕ)) (old new : ShelfState) : Type 0 where
  pub failed : FetchFailed names old new
  pub files : KeepsFiles old new
  pub writes : NoWriteFailed old new

-- how reading the files fails
abbrev pub ReadFails : List (List ℕ) → ShelfState → ShelfState → Fault → Type 0
ReadFails names old new Usage = ⊥
ReadFails names old new (Refused refusal) = ⊥
ReadFails names old new Read = FailsToRead names old new
ReadFails names old new Write = ⊥
ReadFails names old new NoMemory = KeepsFiles old new
