-- A text cut in two where a byte first stands.
use Rattle.std.specs.Prelude.{ℕ, List, [], ◌∷◌, Option, Some, None, ◌==◌, if◌then◌else◌}

-- what stands before the first such byte, and what stands after it, if there is one
pub record Halves : Type 0 where
  pub before : List ℕ
  pub after : Option (List ℕ)

abbrev pub with_front : ℕ → Halves → Halves
with_front byte halves = record { before = byte ∷ halves.before; after = halves.after }

abbrev pub cut : ℕ → List ℕ → Halves
cut at [] = record { before = []; after = None }
cut at (byte ∷ bytes) = if byte == at then record { before = []; after = Some bytes }
    else with_front byte (cut at bytes)
