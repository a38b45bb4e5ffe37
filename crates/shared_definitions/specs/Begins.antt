-- A list that begins with another.
use Rattle.std.specs.Prelude.{◌≡◌, List, ◌++◌}

-- the new list is the old one and some more
abbrev pub Begins : {A : Type 0} → List A → List A → Type 0
Begins {A} old new = (more : List A) × (new ≡ old ++ more)
