-- The first test of a list that holds: how an ordered list of reasons to refuse something is read.
use Rattle.std.specs.Prelude.{ℕ, Bool, Option, Some, None, List, [], ◌∷◌, if◌then◌else◌}

-- a reason by its number, and whether it holds
abbrev pub Case : Type 0
Case = ℕ × Bool

-- the first reason that holds
abbrev pub first_of : {R : Type 0} → List (R × Bool) → Option R
first_of [] = None
first_of (test ∷ tests) = if test.1 then Some test.0 else first_of tests
