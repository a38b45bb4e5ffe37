-- The counts by which the outside shows its failures.
use Rattle.std.specs.Prelude.{ℕ, ◌+◌, ◌-◌, ◌^◌, ◌≤◌, min}

-- a count after one more: it ends at 2 ^ 64 - 1
abbrev pub incremented : ℕ → ℕ
incremented before = min (before + 1) (2 ^ 64 - 1)

-- a count went up by at least one; where it stands at its end afterwards it counts as increased
abbrev pub Increased : ℕ → ℕ → Type 0
Increased before now = incremented before ≤ now
