-- What the bytes of memory at boot are, place by place: the later of two segments over one place
-- wins (Tool Interface Standard, Executable and Linking Format 1.2, book I, "Program Header").
use Rattle.std.specs.Prelude.{◌≡◌, ℕ, ◌+◌, ◌-◌, ◌<◌, ◌&&◌, nat_lt, nat_le, Bool, if◌then◌else◌, Option, Some, None, List, [], ◌∷◌, get_or}
use Rattle.std.specs.Option.{option_or, option_map_or}
use Rattle.shared_definitions.specs.Memory.{place_of}
use Rattle.elf_load.specs.declared.header.ProgramHeader.{ProgramHeader}
use Rattle.elf_load.specs.Elf.{segments}
use Rattle.elf_load.specs.Boot.{elf_case, boot_memory}

-- whether a segment has a byte at a place of memory
abbrev pub covers : ℕ → ProgramHeader → Bool
covers place segment =
    nat_le (place_of segment.p_paddr) place
    && nat_lt place (place_of segment.p_paddr + segment.p_memsz)

-- that byte: one of the file, or 0 after those
abbrev pub byte_of : List ℕ → ℕ → ProgramHeader → ℕ
byte_of bytes place segment =
    let k = place - place_of segment.p_paddr in
    if nat_lt k segment.p_filesz then get_or bytes (segment.p_offset + k) 0 else 0

-- the last segment of a list that covers a place
unfoldable pub last_covering : ℕ → List ProgramHeader → Option ProgramHeader
last_covering place [] = None
last_covering place (segment ∷ rest) =
    option_or (last_covering place rest) (if covers place segment then Some segment else None)

-- each byte of memory at boot is that of the last segment that covers its place, and 0 where none
-- does
abbrev pub LastSegmentWins : Type 0
LastSegmentWins = (size : ℕ) (bytes : List ℕ) → elf_case size bytes ≡ None → (place : ℕ)
    → place < size →
    get_or (boot_memory size bytes) place 0
    ≡ option_map_or (byte_of bytes place) (last_covering place (segments bytes)) 0
