-- What is to come over a link in memory: pieces of bytes, each still to be taken. A piece without
-- bytes is a quiet answer.
use Rattle.std.specs.Prelude.{◌≡◌, ℕ, ◌≤◌, List, [], ◌∷◌, length, drop, if◌then◌else◌, ◌==◌}

-- the pieces still to come, where so many bytes of the first were taken
abbrev pub coming_of : ℕ → List (List ℕ) → List (List ℕ)
coming_of taken [] = []
coming_of taken (piece ∷ pieces) = drop taken piece ∷ pieces

-- what is to come after n bytes of the oldest piece
abbrev pub pass : ℕ → List (List ℕ) → List (List ℕ)
pass n [] = []
pass n (piece ∷ pieces) = if n == length piece then pieces else drop n piece ∷ pieces

-- no more bytes were taken of the first piece than it has, and none where there is no piece
abbrev pub IsWithin : ℕ → List (List ℕ) → Type 0
IsWithin taken [] = taken ≡ 0
IsWithin taken (piece ∷ pieces) = taken ≤ length piece
