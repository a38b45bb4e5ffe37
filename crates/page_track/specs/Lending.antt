-- What memory becomes after a part of it was lent.
use Rattle.std.specs.Prelude.{ℕ, List, length, take}
use Rattle.std.specs.Borrow.{Lends, MutBor, Fml, Array, u8}
use Rattle.page_track.specs.Memory.{Memory, with_part}
use Rattle.page_track.specs.contracts.ram.Ram.{the_row}

-- memory with a part written over the bytes from an address on, cut at its end
abbrev pub with_lent : Memory → ℕ → List ℕ → Memory
with_lent memory address part =
    record { bytes = take (length memory.bytes) (with_part memory address part).bytes }

-- memory ends with the last bytes behind the part written over those from the address on, and no
-- other byte changed
abbrev pub LendsPart : MutBor Memory → ℕ → MutBor (List ℕ) → Fml
LendsPart ram address part = Lends the_row (Array u8 0) ram part (with_lent ram.now address)
