-- Memory by addresses: it begins at 0x80000000, and a number of several bytes is little-endian
-- (RISC-V unprivileged, 1.4 "Memory").
use Rattle.std.specs.Prelude.{ℕ, ◌+◌, ◌-◌, ◌*◌, ◌==◌, ◌&&◌, ◌||◌, nat_le, Bool, List, [], ◌∷◌}
use Rattle.std.specs.Int.{bytes_low_first}

-- the address of memory's first byte
abbrev pub ram_base : ℕ
ram_base = 0x80000000

-- the place in memory of an address
abbrev pub place_of : ℕ → ℕ
place_of address = address - ram_base

-- whether the n bytes from an address on are all in memory of this size; a part of no byte may have
-- any address
abbrev pub is_inside : ℕ → ℕ → ℕ → Bool
is_inside size address n =
    (n == 0) || (nat_le ram_base address && nat_le (address + n) (ram_base + size))

-- the number that little-endian bytes spell
abbrev pub little_endian : List ℕ → ℕ
little_endian [] = 0
little_endian (byte ∷ bytes) = byte + 256 * little_endian bytes

-- the lowest n bytes of a number, little-endian
abbrev pub little_endian_bytes : ℕ → ℕ → List ℕ
little_endian_bytes n value = bytes_low_first 0 n value
