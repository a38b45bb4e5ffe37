-- Lists of bytes: what a slice of `u8` is in a clause.
use Rattle.std.specs.Prelude.{ℕ, ◌<◌, List, slice_index}

-- each number of the list is a byte
abbrev pub AreBytes : List ℕ → Type 0
AreBytes xs = (k : ℕ) → slice_index xs k < 256
