-- An ELF32 file as a loader reads it: Tool Interface Standard, Executable and Linking Format 1.2,
-- book I, "ELF Header" and "Program Header" (System V gABI, chapters 4 and 5). Numbers are
-- little-endian (ELFDATA2LSB).
use Rattle.std.specs.Prelude.{ℕ, ◌+◌, ◌*◌, ◌==◌, ◌≤◌, Bool, List, length, drop, map, filter}
use Rattle.std.specs.List.{range_with_len}
use Rattle.byteorder.specs.Endian.{little_number}
use Rattle.elf_load.specs.declared.header.ProgramHeader.{ProgramHeader}

-- the Elf32_Half at a place: 2 bytes, little-endian
unfoldable pub half_at : List ℕ → ℕ → ℕ
half_at bytes at = little_number 2 (drop at bytes)

-- the Elf32_Word, Elf32_Addr or Elf32_Off at a place: 4 bytes, little-endian
unfoldable pub word_at : List ℕ → ℕ → ℕ
word_at bytes at = little_number 4 (drop at bytes)

-- e_entry, the address at which the program begins
unfoldable pub entry_of : List ℕ → ℕ
entry_of bytes = word_at bytes 24

-- e_phoff, the place of the program header table
abbrev pub table_place : List ℕ → ℕ
table_place bytes = word_at bytes 28

-- e_phnum, the number of its entries
abbrev pub table_count : List ℕ → ℕ
table_count bytes = half_at bytes 44

-- the table is in the file
abbrev pub HasTable : List ℕ → Type 0
HasTable bytes = table_place bytes + 32 * table_count bytes ≤ length bytes

-- the Elf32_Phdr at a place: p_type, p_offset, p_paddr, p_filesz and p_memsz
unfoldable pub header_at : List ℕ → ℕ → ProgramHeader
header_at bytes at = record {
  p_type = word_at bytes at;
  p_offset = word_at bytes (at + 4);
  p_paddr = word_at bytes (at + 12);
  p_filesz = word_at bytes (at + 16);
  p_memsz = word_at bytes (at + 20);
}

-- the program header table: entries of 32 bytes, in their order
unfoldable pub headers : List ℕ → List ProgramHeader
headers bytes =
    map (λ k. header_at bytes (table_place bytes + 32 * k)) (range_with_len 0 (table_count bytes))

-- whether an entry is a segment to be loaded, PT_LOAD
abbrev pub is_load : ProgramHeader → Bool
is_load header = header.p_type == 1

-- the segments to be loaded, in the order of the table
unfoldable pub segments : List ℕ → List ProgramHeader
segments bytes = filter is_load (headers bytes)
