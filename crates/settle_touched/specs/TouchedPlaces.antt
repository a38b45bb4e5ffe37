-- Which places are to be settled.
use Rattle.std.specs.Prelude.{ℕ, Bool, ◌||◌}
use Rattle.settle_touched.specs.Places.{is_among}
use Rattle.settle_touched.specs.declared.touched.Touched.{Touched}
use Rattle.settle_touched.specs.declared.touched.Stale.{Stale}

-- a place is to be settled in the next event
abbrev pub is_touched : Touched → ℕ → Bool
is_touched t k = t.all || is_among k t.places.keys

-- a place was settled since the last turn, so the next turn settles it too
abbrev pub is_stale : Stale → ℕ → Bool
is_stale s k = s.all || is_among k s.places.items
