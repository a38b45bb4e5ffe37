-- An image as an ELF file of one segment: Tool Interface Standard, Executable and Linking Format
-- 1.2, book I, "ELF Header" and "Program Header".
use Rattle.std.specs.Prelude.{ℕ, ◌*◌, List, [], ◌∷◌, ◌++◌, length, Option, Some, None, codes, if◌then◌else◌, option_map}
use Rattle.std.specs.Int.{w32, to_le_bytes}
use Rattle.std.specs.List.{flat_map}
use Rattle.std.specs.Str.{bytes_eq}
use Rattle.colo_guests.specs.declared.words.TheConstants.{MUTE, ECHO, CLOCKED, DISK_LOG}

-- the file header: 32 bits, little-endian, executable, RISC-V; the program begins at 0x80000000,
-- and one program header stands after it
abbrev pub file_header : List ℕ
file_header =
    0x7F ∷ 0x45 ∷ 0x4C ∷ 0x46 ∷ 1 ∷ 1 ∷ 1 ∷ 0 ∷ 0 ∷ 0 ∷ 0 ∷ 0 ∷ 0 ∷ 0 ∷ 0 ∷ 0 ∷  -- e_ident
    2 ∷ 0 ∷ 243 ∷ 0 ∷ 1 ∷ 0 ∷ 0 ∷ 0 ∷  -- e_type, e_machine, e_version
    0 ∷ 0 ∷ 0 ∷ 0x80 ∷ 52 ∷ 0 ∷ 0 ∷ 0 ∷ 0 ∷ 0 ∷ 0 ∷ 0 ∷  -- e_entry, e_phoff, e_shoff
    0 ∷ 0 ∷ 0 ∷ 0 ∷ 52 ∷ 0 ∷ 32 ∷ 0 ∷ 1 ∷ 0 ∷  -- e_flags, e_ehsize, e_phentsize, e_phnum
    0 ∷ 0 ∷ 0 ∷ 0 ∷ 0 ∷ 0 ∷ []  -- e_shentsize, e_shnum, e_shstrndx

-- what stands in the program header before and after the sizes: a segment to be loaded at
-- 0x80000000, from byte 84 on, which may be read, written and executed
abbrev pub segment_place : List ℕ
segment_place = 1 ∷ 0 ∷ 0 ∷ 0 ∷ 84 ∷ 0 ∷ 0 ∷ 0 ∷ 0 ∷ 0 ∷ 0 ∷ 0x80 ∷ 0 ∷ 0 ∷ 0 ∷ 0x80 ∷ []

abbrev pub segment_flags : List ℕ
segment_flags = 7 ∷ 0 ∷ 0 ∷ 0 ∷ 4 ∷ 0 ∷ 0 ∷ 0 ∷ []

-- the sizes of the segment in the file and in memory
abbrev pub size_bytes : List ℕ → List ℕ
size_bytes words = to_le_bytes w32 (4 * length words)

-- the file: the headers, and the words, each little-endian
abbrev pub elf_file : List ℕ → List ℕ
elf_file words =
    file_header ++ (segment_place ++ (size_bytes words ++ (size_bytes words
    ++ (segment_flags ++ flat_map (to_le_bytes w32) words))))

-- the words of a guest, by its name
unfoldable pub words_of : List ℕ → Option (List ℕ)
words_of name =
    if bytes_eq name (codes "mute") then Some MUTE
    else (if bytes_eq name (codes "echo") then Some ECHO
    else (if bytes_eq name (codes "clocked") then Some CLOCKED
    else (if bytes_eq name (codes "disk_log") then Some DISK_LOG else None)))

-- the file of a guest, by its name
abbrev pub image : List ℕ → Option (List ℕ)
image name = option_map elf_file (words_of name)
