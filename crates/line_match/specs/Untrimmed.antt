-- An offset from which on nothing of a line is forgotten.
use Rattle.std.specs.Prelude.{◌≡◌, ℕ, ◌≤◌, true, is_some}
use Rattle.tcp_track.specs.LineFields.{LineFields}

-- a line with an opening is trimmed at most up to the offset
abbrev pub IsUntrimmed : LineFields → ℕ → Type 0
IsUntrimmed l offset = is_some l.opening ≡ true → l.base ≤ offset
