-- The sizes of the parts of a guest's state.
use Rattle.std.specs.Prelude.{◌≡◌, ℕ, ◌≤◌, ◌%◌, List, length}
use Rattle.std.specs.List.{AllByRecursion}

-- each has so many bytes
abbrev pub HaveSize : ℕ → List (List ℕ) → Type 0
HaveSize size parts = AllByRecursion (λ (part : List ℕ). length part ≡ size) parts

-- 1 to 128 whole sectors
pub record IsDiskLength (n : ℕ) : Type 0 where
  pub from : 512 ≤ n
  pub to : n ≤ 65536
  pub whole : n % 512 ≡ 0
