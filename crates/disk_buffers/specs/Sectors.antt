-- A disk's bytes as sectors of 512 bytes (VIRTIO 1.1, 5.2).
use Rattle.std.specs.Prelude.{◌≡◌, ℕ, ◌%◌, ◌==◌, Bool, ◌&&◌, nat_le, nat_lt, List, length, All}
use Rattle.std.specs.List.{flat_map}

-- a disk has 1 to 32,768 sectors of 512 bytes
abbrev pub is_length : ℕ → Bool
is_length n = nat_lt 0 n && ((n % 512 == 0) && nat_le n 16777216)

-- the sectors are the bytes in order, each of 512
pub record AreSectors (bytes : List ℕ) (sectors : List (List ℕ)) : Type 0 where
  pub join : flat_map (λ sector. sector) sectors ≡ bytes
  pub sizes : All (λ sector. length sector ≡ 512) sectors
