-- Memory as a list of bytes from 0x80000000 on, its parts, and the numbers that a load reads and a
-- store writes there (RISC-V unprivileged, 1.4 "Memory" and 2.6 "Load and Store Instructions":
-- little-endian).
use Rattle.std.specs.Prelude.{ℕ, ◌+◌, ◌*◌, ◌^◌, nat_le, if◌then◌else◌, Option, Some, None, List, length, slice_range, replicate}
use Rattle.shared_definitions.specs.Memory.{place_of, is_inside, little_endian, little_endian_bytes}
use Rattle.shared_definitions.specs.Overwrite.{overwrite}

-- what a machine's memory holds: its bytes from 0x80000000 on
pub record Memory : Type 0 where
  pub bytes : List ℕ

-- so many mebibytes of zeros
unfoldable pub zeros : ℕ → List ℕ
zeros mebibytes = replicate (mebibytes * 2 ^ 20) 0

-- the bytes of a page
abbrev pub page_size : ℕ
page_size = 4096

-- the n bytes from an address on
abbrev pub part_at : List ℕ → ℕ → ℕ → List ℕ
part_at bytes address n = slice_range bytes (place_of address) (place_of address + n)

-- the same, where all of them are in memory
abbrev pub find_part : List ℕ → ℕ → ℕ → Option (List ℕ)
find_part bytes address n =
    if is_inside (length bytes) address n then Some (part_at bytes address n) else None

-- the bytes of page k, where there is one
abbrev pub find_page : List ℕ → ℕ → Option (List ℕ)
find_page bytes k =
    if nat_le ((k + 1) * page_size) (length bytes)
    then Some (slice_range bytes (k * page_size) ((k + 1) * page_size)) else None

-- memory with a part written over the bytes from an address on
abbrev pub with_part : Memory → ℕ → List ℕ → Memory
with_part memory address part = record { bytes = overwrite memory.bytes (place_of address) part }

-- the number of n bytes at an address, where all of them are in memory
unfoldable pub number_at : List ℕ → ℕ → ℕ → Option ℕ
number_at bytes address n =
    if is_inside (length bytes) address n then Some (little_endian (part_at bytes address n))
    else None

-- memory with the lowest n bytes of a number at an address, where all of them are in memory; else
-- as it was
unfoldable pub with_number : Memory → ℕ → ℕ → ℕ → Memory
with_number memory address n value =
    if is_inside (length memory.bytes) address n
    then with_part memory address (little_endian_bytes n value) else memory
