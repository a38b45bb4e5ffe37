-- A disk as a list of sectors (VIRTIO 1.1, 5.2).
use Rattle.std.specs.Prelude.{ℕ, List, slice_set}

-- the sectors of a disk, each of 512 bytes
pub record DiskState : Type 0 where
  pub mine : List (List ℕ)

-- the disk with another sector
abbrev pub with_sector : DiskState → ℕ → List ℕ → DiskState
with_sector d k sector = record d { mine = slice_set d.mine k sector }
