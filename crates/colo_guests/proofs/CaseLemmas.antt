-- No case of the loader holds of an image.
use Rattle.std.proofs.Common.{◌≡◌, ℕ, ◌+◌, ◌*◌, ◌^◌, ◌<◌, ◌≤◌, true, List, [], ◌∷◌, length, None, nat_le, refl, ap, ◌∙◌, arith}
use Rattle.std.specs.Int.{w32, to_le_bytes}
use Rattle.std.specs.List.{flat_map}
use Rattle.std.proofs.lemmas.Bool.{lt-ltb, le-ltb, ne_eqb}
use Rattle.std.proofs.lemmas.Bool.Decides.{nat_tests}
use Rattle.std.proofs.lemmas.List.{length-append}
use Rattle.elf_load.specs.declared.header.ProgramHeader.{ProgramHeader}
use Rattle.elf_load.specs.Elf.{half_at, word_at, entry_of, header_at, headers, segments}
use Rattle.elf_load.specs.Boot.{elf_case}
use Rattle.colo_guests.specs.Images.{elf_file}

pub length_words : (words : List ℕ) → length (flat_map (to_le_bytes w32) words) ≡ 4 * length words
length_words [] = refl
length_words (word ∷ words) = omega (
  arith,
  length-append (to_le_bytes w32 word) (flat_map (to_le_bytes w32) words),
  length_words words,
)

pub length_file : (words : List ℕ) → length (elf_file words) ≡ 84 + 4 * length words
length_file words = omega (arith, length_words words)

-- the sizes of the segment
file_size : (words : List ℕ) → length words < 16384 → word_at (elf_file words) 68 ≡ 4 * length words
unfolding word_at
file_size words small = omega arith

memory_size : (words : List ℕ) → length words < 16384 → word_at (elf_file words) 72 ≡ 4 * length words
unfolding word_at
memory_size words small = omega arith

abbrev segment_of : ℕ → ℕ → ProgramHeader
segment_of in_file in_memory = record {
  p_type = 1;
  p_offset = 84;
  p_paddr = 0x80000000;
  p_filesz = in_file;
  p_memsz = in_memory;
}

segments_by : (words : List ℕ) → segments (elf_file words) ≡ segment_of (word_at (elf_file words) 68) (word_at
    (elf_file words) 72) ∷ []
unfolding segments headers header_at word_at half_at
segments_by words = refl

segments_are : (words : List ℕ) → length words < 16384 → segments (elf_file words)
    ≡ segment_of (4 * length words) (4 * length words) ∷ []
segments_are words small = segments_by words ∙ (ap (λ (n : ℕ). segment_of n (word_at (elf_file words) 72) ∷ [])
    (file_size words small) ∙ ap (λ (n : ℕ). segment_of (4 * length words) n ∷ []) (memory_size words small))

-- what ends in memory
fits : (end size : ℕ) → end ≤ size → nat_le (0x80000000 + end) (0x80000000 + size) ≡ true
fits end size h = grind (arith, nat_tests)

pub no_case : (words : List ℕ) (size : ℕ) → 0 < length words → length words < 16384 → 2 ^ 20 ≤ size →
    elf_case size (elf_file words) ≡ None
unfolding elf_case half_at word_at entry_of
no_case words size some small room =
    rw (
      length_file words,
      segments_are words small,
      le-ltb (84 + 4 * length words) 52 (omega arith),
      le-ltb (84 + 4 * length words) 84 (omega arith),
      le-ltb (4 * length words) (4 * length words) (omega arith),
      lt-ltb 0 (4 * length words) (omega arith),
      le-ltb (84 + 4 * length words) (84 + 4 * length words) (omega arith),
      ne_eqb (4 * length words) 0 (omega arith),
      fits (4 * length words) size (omega arith),
      fits 1 size (omega arith),
    ) refl
