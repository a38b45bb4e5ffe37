-- A list of bytes with a part written over it.
use Rattle.std.specs.Prelude.{ℕ, ◌+◌, List, ◌++◌, length, take, drop}

-- the bytes with a part written over them from a place on
unfoldable pub overwrite : List ℕ → ℕ → List ℕ → List ℕ
overwrite bytes at part = take at bytes ++ part ++ drop (at + length part) bytes
