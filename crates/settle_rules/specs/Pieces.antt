-- A list cut into pieces of one length, of which the last may be shorter.
use Rattle.std.specs.Prelude.{ℕ, ◌+◌, ◌-◌, ◌*◌, ◌/◌, List, length, map, take, drop}
use Rattle.std.specs.List.{range_with_len}

-- how many pieces of a size n elements make
abbrev pub piece_count : ℕ → ℕ → ℕ
piece_count size n = (n + (size - 1)) / size

abbrev pub piece_at : {X : Type 0} → ℕ → List X → ℕ → List X
piece_at size xs k = take size (drop (size * k) xs)

abbrev pub pieces_of : {X : Type 0} → ℕ → List X → List (List X)
pieces_of size xs = map (piece_at size xs) (range_with_len 0 (piece_count size (length xs)))
