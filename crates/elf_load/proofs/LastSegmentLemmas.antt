-- Each byte of memory at boot is that of the last segment that covers its place.
use Rattle.std.proofs.Common.{◌≡◌, ℕ, zero, suc, ◌+◌, ◌-◌, ◌<◌, ◌≤◌, ◌&&◌, ◌||◌, Bool, true, false, cond, Option, Some, None, List, [], ◌∷◌, ◌++◌, length, get_or, replicate, refl, ap, sym, ◌∙◌, subst, arith, ⊎_elim, length-append}
use Rattle.std.specs.Prelude.{nat_lt, nat_le}
use Rattle.std.specs.List.{list_any, fold, slice_range}
use Rattle.std.specs.Option.{option_or, option_map_or}
use Rattle.std.proofs.lemmas.Bool.{cases_lt, lt-ltb, le-ltb, le-leb, lt-leb}
use Rattle.std.proofs.lemmas.Bool.Decides.{nat_tests}
use Rattle.std.proofs.lemmas.List.{length-replicate, get_or-replicate, get_or_append_left, get_or-append_right}
use Rattle.std.proofs.lemmas.Grind.{common_steps}
use Rattle.shared_definitions.specs.Memory.{ram_base, place_of, is_inside}
use Rattle.shared_definitions.specs.Overwrite.{overwrite}
use Rattle.shared_definitions.proofs.OverwriteLemmas.{length-overwrite, overwrite_before, overwrite_within, overwrite_after}
use Rattle.shared_definitions.proofs.RangeLemmas.{get_or-range, length-range}
use Rattle.elf_load.specs.declared.header.ProgramHeader.{ProgramHeader}
use Rattle.elf_load.specs.Elf.{segments}
use Rattle.elf_load.specs.Boot.{elf_case, boot_memory, overruns, lies_outside, content, place_segment}
use Rattle.elf_load.specs.LastSegment.{covers, byte_of, last_covering, LastSegmentWins}
use Rattle.elf_load.proofs.CaseLemmas.{segments_fit}
use Rattle.elf_load.proofs.PlaceLemmas.{place_nothing}

-- a test that no element of a list passes isn't passed by the first, nor by any of the rest
none_first : (p : ProgramHeader → Bool) (s : ProgramHeader) (rest : List ProgramHeader)
    → list_any p (s ∷ rest) ≡ false → (p s ≡ false) × (list_any p rest ≡ false)
none_first p s rest none =
    elim (p s) as (λ b. (b || list_any p rest) ≡ false → (b ≡ false) × (list_any p rest ≡ false)) [
      | true ↦ λ e. absurd (cc)
      | false ↦ λ e. (refl, e)
    ] none

few : (bytes : List ℕ) (from n : ℕ) → n ≡ 0 → length (slice_range bytes from (from + n)) ≡ n
few bytes from n e =
    let none : from + n - from ≡ 0 = omega arith in
    rw (none, e) refl

-- what a segment has in the file is as long as its header tells
length-content : (bytes : List ℕ) (s : ProgramHeader) → overruns (length bytes) s ≡ false
    → length (slice_range bytes s.p_offset (s.p_offset + s.p_filesz)) ≡ s.p_filesz
length-content bytes s fits =
    ⊎_elim
    (λ (some : 0 < s.p_filesz).
    let inside : s.p_offset + s.p_filesz ≤ length bytes = grind (arith, common_steps) in
    length-range bytes s.p_offset (s.p_offset + s.p_filesz) (omega arith) inside ∙ omega arith)
    (λ (none : s.p_filesz ≤ 0). few bytes s.p_offset s.p_filesz (omega arith))
    (cases_lt 0 s.p_filesz)

-- the byte of what a segment holds
content_at : (bytes : List ℕ) (s : ProgramHeader) (k : ℕ) → overruns (length bytes) s ≡ false → k < s.p_memsz
    → get_or (content bytes s) k 0 ≡ cond (nat_lt k s.p_filesz) (get_or bytes (s.p_offset + k) 0) 0
content_at bytes s k fits within =
    let part : List ℕ = slice_range bytes s.p_offset (s.p_offset + s.p_filesz) in
    let zeros : List ℕ = replicate (s.p_memsz - s.p_filesz) 0 in
    let size : length part ≡ s.p_filesz = length-content bytes s fits in
    ⊎_elim
    (λ (file : k < s.p_filesz).
    get_or_append_left part zeros 0 k (omega (arith, size))
    ∙ (get_or-range bytes s.p_offset (s.p_offset + s.p_filesz) k (omega arith)
    ∙ sym (rw (lt-ltb k s.p_filesz file) refl)))
    (λ (after : s.p_filesz ≤ k).
    get_or-append_right part zeros s.p_filesz k 0 size after
    ∙ (get_or-replicate (s.p_memsz - s.p_filesz) (k - s.p_filesz) 0 0 (omega arith)
    ∙ sym (rw (le-ltb k s.p_filesz after) refl)))
    (cases_lt k s.p_filesz)

-- a segment in memory, where it has a byte
pub record Fits (bytes memory : List ℕ) (s : ProgramHeader) : Type 0 where
  pub start : ram_base ≤ s.p_paddr
  pub end : place_of s.p_paddr + s.p_memsz ≤ length memory
  pub size : length (content bytes s) ≡ s.p_memsz

fits_in : (bytes memory : List ℕ) (s : ProgramHeader) → overruns (length bytes) s ≡ false
    → lies_outside (length memory) s ≡ false → 0 < s.p_memsz → Fits bytes memory s
fits_in bytes memory s fits inside some =
    let start : ram_base ≤ s.p_paddr = grind (arith, nat_tests) in
    let end : s.p_paddr + s.p_memsz ≤ ram_base + length memory = grind (arith, nat_tests) in
    let few : s.p_filesz ≤ s.p_memsz = grind (arith, common_steps) in
    let part : List ℕ = slice_range bytes s.p_offset (s.p_offset + s.p_filesz) in
    let empty : ℕ = 0 in
    record {
      start = start;
      end = omega arith;
      size = omega (
        arith,
        length-append part (replicate (s.p_memsz - s.p_filesz) empty),
        length-content bytes s fits,
        length-replicate (s.p_memsz - s.p_filesz) empty,
      );
    }

-- memory with a segment is as long, and has the segment's bytes where it covers a place
pub record Places (bytes memory : List ℕ) (s : ProgramHeader) (place : ℕ) : Type 0 where
  pub size : length (place_segment bytes memory s) ≡ length memory
  pub byte : get_or (place_segment bytes memory s) place 0
      ≡ cond (covers place s) (byte_of bytes place s) (get_or memory place 0)

places_some : (bytes memory : List ℕ) (s : ProgramHeader) (place : ℕ) → overruns (length bytes) s ≡ false
    → Fits bytes memory s → Places bytes memory s place
unfolding place_segment
places_some bytes memory s place fits f =
    let at : ℕ = place_of s.p_paddr in
    let room : at + length (content bytes s) ≤ length memory = omega (arith, f.end, f.size) in
    record {
      size = length-overwrite memory at (content bytes s) room;
      byte = ⊎_elim
          (λ (before : place < at).
          overwrite_before memory at (content bytes s) place room before
          ∙ sym (rw (lt-leb at place before) refl))
          (λ (from : at ≤ place).
          ⊎_elim
          (λ (within : place < at + s.p_memsz).
          overwrite_within memory at (content bytes s) place room from (omega (arith, f.size))
          ∙ (content_at bytes s (place - at) fits (omega arith)
          ∙ sym (rw (le-leb at place from, lt-ltb place (at + s.p_memsz) within) refl)))
          (λ (after : at + s.p_memsz ≤ place).
          overwrite_after memory at (content bytes s) place room (omega (arith, f.size))
          ∙ sym (rw (le-leb at place from, le-ltb place (at + s.p_memsz) after) refl))
          (cases_lt place (at + s.p_memsz)))
          (cases_lt place at);
    }

covers_nothing : (place at n : ℕ) → n ≡ 0 → (nat_le at place && nat_lt place (at + n)) ≡ false
covers_nothing place at n e = grind (arith, nat_tests)

places : (bytes memory : List ℕ) (s : ProgramHeader) (place : ℕ) → overruns (length bytes) s ≡ false
    → lies_outside (length memory) s ≡ false → Places bytes memory s place
places bytes memory s place fits inside =
    ⊎_elim
    (λ (some : 0 < s.p_memsz). places_some bytes memory s place fits (fits_in bytes memory s fits inside some))
    (λ (none : s.p_memsz ≤ 0).
    let empty : s.p_memsz ≡ 0 = omega arith in
    let same : memory ≡ place_segment bytes memory s = place_nothing bytes memory s empty fits in
    record {
      size = ap length (sym same);
      byte = ap (λ (m : List ℕ). get_or m place 0) (sym same)
          ∙ sym (rw (covers_nothing place (place_of s.p_paddr) s.p_memsz empty) refl);
    })
    (cases_lt 0 s.p_memsz)

-- the choice of the last
choose : (f : ProgramHeader → ℕ) (o : Option ProgramHeader) (b : Bool) (s : ProgramHeader) (d : ℕ)
    → option_map_or f o (cond b (f s) d) ≡ option_map_or f (option_or o (cond b (Some s) None)) d
choose f None true s d = refl
choose f None false s d = refl
choose f (Some x) b s d = refl

by_segments : (bytes memory : List ℕ) (ss : List ProgramHeader) (place : ℕ)
    → list_any (overruns (length bytes)) ss ≡ false → list_any (lies_outside (length memory)) ss ≡ false
    → get_or (fold (place_segment bytes) memory ss) place 0
    ≡ option_map_or (byte_of bytes place) (last_covering place ss) (get_or memory place 0)
unfolding last_covering
by_segments bytes memory [] place fits inside = refl
by_segments bytes memory (s ∷ ss) place fits inside =
    let f = none_first (overruns (length bytes)) s ss fits in
    let i = none_first (lies_outside (length memory)) s ss inside in
    let p : Places bytes memory s place = places bytes memory s place f.0 i.0 in
    by_segments bytes (place_segment bytes memory s) ss place f.1
    (subst (λ (n : ℕ). list_any (lies_outside n) ss ≡ false) (sym p.size) i.1)
    ∙ (ap (λ (d : ℕ). option_map_or (byte_of bytes place) (last_covering place ss) d) p.byte
    ∙ choose (byte_of bytes place) (last_covering place ss) (covers place s) s (get_or memory place 0))

pub last_segment_wins_lem : LastSegmentWins
unfolding boot_memory
last_segment_wins_lem size bytes none place within =
    let fit = segments_fit size bytes none in
    let long : length (replicate size 0) ≡ size = length-replicate size 0 in
    by_segments bytes (replicate size 0) (segments bytes) place fit.0
    (subst (λ (n : ℕ). list_any (lies_outside n) (segments bytes) ≡ false) (sym long) fit.1)
    ∙ ap (λ (d : ℕ). option_map_or (byte_of bytes place) (last_covering place (segments bytes)) d)
    (get_or-replicate size place 0 0 within)
