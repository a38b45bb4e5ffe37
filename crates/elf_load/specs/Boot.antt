-- What the machine's memory holds at boot, and why an image is refused: Tool Interface Standard,
-- Executable and Linking Format 1.2, book I, "ELF Header" and "Program Header", with p_paddr as a
-- segment's place. Memory begins at 0x80000000.
use Rattle.std.specs.Prelude.{ℕ, ◌+◌, ◌-◌, ◌*◌, ◌%◌, ◌==◌, Bool, not, ◌&&◌, ◌||◌, nat_lt, nat_eq, Option, List, [], ◌∷◌, ◌++◌, length, replicate, fold, slice_index, slice_range}
use Rattle.std.specs.List.{list_any, list_all, starts_with}
use Rattle.shared_definitions.specs.FirstOf.{Case, first_of}
use Rattle.shared_definitions.specs.Memory.{place_of, is_inside}
use Rattle.shared_definitions.specs.Overwrite.{overwrite}
use Rattle.elf_load.specs.declared.header.ProgramHeader.{ProgramHeader}
use Rattle.elf_load.specs.Elf.{half_at, entry_of, table_place, table_count, segments}

-- whether a segment of a file of n bytes has more bytes there than in memory, or bytes past the
-- file's end
abbrev pub overruns : ℕ → ProgramHeader → Bool
overruns n segment = nat_lt segment.p_memsz segment.p_filesz
    || (nat_lt 0 segment.p_filesz && nat_lt n (segment.p_offset + segment.p_filesz))

-- whether a segment has bytes that are not in memory
abbrev pub lies_outside : ℕ → ProgramHeader → Bool
lies_outside size segment = not (is_inside size segment.p_paddr segment.p_memsz)

-- whether a segment has no byte in memory
abbrev pub is_empty : ProgramHeader → Bool
is_empty segment = segment.p_memsz == 0

-- whether a program can begin at an address: it is in memory of this size, and a multiple of 4
abbrev pub can_start : ℕ → ℕ → Bool
can_start size address = is_inside size address 1 && (address % 4 == 0)

-- the cases of the file header and the place of the program header table; beside each stands what
-- fails
abbrev pub file_cases : List ℕ → List Case
file_cases bytes =
    (1, nat_lt (length bytes) 52)  -- a file header has 52 bytes
    ∷ (
      2,
      not (starts_with nat_eq bytes
          (0x7F ∷ 0x45 ∷ 0x4C ∷ 0x46 ∷ [])),
    )  -- EI_MAG0 to EI_MAG3: 7F, E, L, F
    ∷ (3, not (slice_index bytes 4 == 1))  -- EI_CLASS: ELFCLASS32
    ∷ (4, not (slice_index bytes 5 == 1))  -- EI_DATA: ELFDATA2LSB
    ∷ (5, not (half_at bytes 16 == 2))  -- e_type: ET_EXEC
    ∷ (6, not (half_at bytes 18 == 243))  -- e_machine: EM_RISCV
    ∷ (7, not (half_at bytes 42 == 32))  -- e_phentsize
    ∷ (
      8,
      nat_lt (length bytes)
          (table_place bytes + 32 * table_count bytes),
    )  -- the table is in the file
    ∷ []

-- the cases of the segments and the entry, for memory of this size
abbrev pub segment_cases : ℕ → List ℕ → List Case
segment_cases size bytes = (
  9,
  list_any (overruns (length bytes))
      (segments bytes),
)  -- the bytes of each segment are in the file, and fit
    ∷ (10, list_any (lies_outside size) (segments bytes))  -- each segment is in memory
    ∷ (11, list_all is_empty (segments bytes))  -- some segment has bytes in memory
    ∷ (12, not (can_start size (entry_of bytes)))  -- e_entry is in memory, and a multiple of 4
    ∷ []

-- the first case that holds of an image, for memory of this size
unfoldable pub elf_case : ℕ → List ℕ → Option ℕ
elf_case size bytes = first_of (file_cases bytes ++ segment_cases size bytes)

-- what a segment holds: its bytes of the file, then zeros
abbrev pub content : List ℕ → ProgramHeader → List ℕ
content bytes segment = slice_range bytes segment.p_offset (segment.p_offset + segment.p_filesz)
    ++ replicate (segment.p_memsz - segment.p_filesz) 0

-- memory with a segment at its physical address
unfoldable pub place_segment : List ℕ → List ℕ → ProgramHeader → List ℕ
place_segment bytes memory segment =
    overwrite memory (place_of segment.p_paddr) (content bytes segment)

-- memory of this size at boot: zeros, and each segment in its order
unfoldable pub boot_memory : ℕ → List ℕ → List ℕ
boot_memory size bytes = fold (place_segment bytes) (replicate size 0) (segments bytes)
