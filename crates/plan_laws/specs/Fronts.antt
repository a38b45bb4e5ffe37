-- What a front of a task's steps is: steps in a row, and steps of each of a list of things.
use Rattle.std.specs.Prelude.{◌≡◌, ℕ, IsTrue, List, [], ◌∷◌, ◌++◌, flat_map, ◌⊎◌}
use Rattle.file_steps.specs.Ending.{IsFileOf}
use Rattle.file_steps.specs.Steps.{CutOff, IsFront, Outside, Said, Step, create, creates}

-- work cut off where a file is created leaves every file as it was, but those created before it and
-- this one
abbrev pub LaterFilesStay : Type 0
LaterFilesStay =
    (out : List ℕ) (before : List (List ℕ)) (end : List ℕ) (more : List Step) (said : Said)
    (old new : Outside)
    → CutOff out (creates before ++ (create end ∷ more)) (create end ∷ more) said old new
    → IsTrue old.shelf.observable → (name : List ℕ)
    → (IsFileOf out (creates before ++ (create end ∷ [])) name → ⊥)
    → new.shelf.contents name ≡ old.shelf.contents name

-- all of the first steps were made, and a front of the others
pub record GoesPast (xs ys made rest : List Step) : Type 0 where
  pub later : List Step
  pub front : IsFront ys later rest
  pub made_is : made ≡ xs ++ later

-- a front of the first steps was made, and nothing of the others
pub record StaysBefore (xs ys made rest : List Step) : Type 0 where
  pub left : List Step
  pub front : IsFront xs made left
  pub rest_is : rest ≡ left ++ ys

-- steps are made in their order: what comes second begins where what comes first is whole
abbrev pub FrontsOfTwo : Type 0
FrontsOfTwo = (xs ys made rest : List Step) → IsFront (xs ++ ys) made rest
    → StaysBefore xs ys made rest ⊎ GoesPast xs ys made rest

-- a front of the steps of the first of these things
abbrev pub IsOfFirst : {T : Type 0} → (T → List Step) → List T → List Step → Type 0
IsOfFirst f [] part = part ≡ []
IsOfFirst f (x ∷ xs) part = (left : List Step) × IsFront (f x) part left

-- of things that have steps each, in their order: those of some things were made, a front of those
-- of the next, and nothing of the others
pub record AreInOrder {T : Type 0} (f : T → List Step) (xs : List T) (made : List Step)
    : Type 0 where
  pub whole : List T
  pub later : List T
  pub place : xs ≡ whole ++ later
  pub part : List Step
  pub next : IsOfFirst f later part
  pub made_is : made ≡ flat_map f whole ++ part
