-- Memory after two writes, one after the other.
use Rattle.std.proofs.Common.{◌≡◌, ℕ, ◌+◌, ◌-◌, ◌≤◌, true, false, List, [], ◌∷◌, ◌++◌, length, take, drop, replicate, slice_range, refl, ap, sym, ◌∙◌, arith, length-append, take-append-drop, append-nil}
use Rattle.std.specs.List.{fold}
use Rattle.std.proofs.lemmas.Grind.{fold-append, common_steps}
use Rattle.std.proofs.lemmas.List.{length-replicate, append_assoc}
use Rattle.std.proofs.lemmas.Slice.{put_mid-paste}
use Rattle.std.proofs.lemmas.List.Edits.{paste-paste, paste_all}
use Rattle.elf_load.specs.declared.header.ProgramHeader.{ProgramHeader}
use Rattle.elf_load.specs.Boot.{place_segment, content, overruns}
use Rattle.shared_definitions.specs.Overwrite.{overwrite}
use Rattle.shared_definitions.specs.Memory.{place_of}
use Rattle.elf_load.specs.Elf.{is_load}
use Rattle.elf_load.proofs.TableLemmas.{entry_at, segments_up_to, up_to_loaded, up_to_skipped}
use lib.Seq.{paste}
use borrow.Rule.Slice.PartMut.{put_mid}

-- xs and ys written one after the other, from place a on
pub two_writes : (memory xs ys : List ℕ) (a n m k : ℕ) → length xs ≡ n → length ys ≡ m → m ≡ k → a ≤ length memory
    → put_mid (a + n) k (put_mid a n memory xs) ys ≡ take a memory ++ ((xs ++ ys) ++ drop (a + (n + m)) memory)
two_writes memory xs ys a n m k len_x len_y same le =
    put_mid-paste (a + n) k (put_mid a n memory xs) ys ys m refl same (sym len_y)
    ∙ ap (λ z. paste z (a + n) ys m) (put_mid-paste a n memory xs xs n refl refl (sym len_x))
    ∙ paste-paste memory a xs ys n m (sym len_x) (sym len_y) le
    ∙ paste_all memory a (xs ++ ys) (n + m) (omega (arith, length-append xs ys))

-- a segment's bytes of the file, then zeros
pub place_segment_is : (bytes memory : List ℕ) (s : ProgramHeader) (xs ys : List ℕ) (at n j k : ℕ)
    → at ≡ place_of s.p_paddr → n ≡ s.p_filesz → j ≡ n → k ≡ s.p_memsz - s.p_filesz
    → xs ≡ slice_range bytes s.p_offset (s.p_offset + s.p_filesz) → length xs ≡ n → ys ≡ replicate k 0
    → at ≤ length memory
    → put_mid (at + n) k (put_mid at j memory xs) ys ≡ place_segment bytes memory s
unfolding place_segment overwrite
place_segment_is bytes memory s xs ys at n j k at_is n_is j_is k_is xs_is len ys_is inside =
    let size : length (xs ++ ys) ≡ n + k =
    omega (arith, length-append xs ys, ap length ys_is ∙ length-replicate k 0) in
    let held : xs ++ ys ≡ content bytes s =
    ap (λ z. z ++ ys) xs_is
    ∙ ap (λ z. slice_range bytes s.p_offset (s.p_offset + s.p_filesz) ++ z) (ys_is ∙ ap (λ i. replicate i 0) k_is) in
    ap (λ i. put_mid (at + n) k (put_mid at i memory xs) ys) j_is
    ∙ two_writes memory xs ys at n k k len (ap length ys_is ∙ length-replicate k 0) refl inside
    ∙ ap (λ i. take at memory ++ ((xs ++ ys) ++ drop (at + i) memory)) (sym size)
    ∙ ap (λ z. take at memory ++ (z ++ drop (at + length z) memory)) held
    ∙ ap (λ i. take i memory ++ (content bytes s ++ drop (i + length (content bytes s)) memory)) at_is
    ∙ sym (append_assoc (take (place_of s.p_paddr) memory) (content bytes s) _)

-- a segment without a byte changes nothing
content_none : (bytes : List ℕ) (from n m : ℕ) → n ≡ 0 → m ≡ 0 →
    slice_range bytes from (from + n) ++ replicate m 0 ≡ []
content_none bytes from n m e f =
    let none : from + n - from ≡ 0 = omega arith in
    rw (f, none) refl

overwrite_nothing : (memory part : List ℕ) (at : ℕ) → part ≡ [] → memory ≡ overwrite memory at part
unfolding overwrite
overwrite_nothing memory part at e =
    let same : at + length part ≡ at = omega (arith, ap length e) in
    rw (same, e) (sym (ap (λ z. z ++ drop at memory) (append-nil (take at memory)) ∙ take-append-drop at memory))

pub place_nothing : (bytes memory : List ℕ) (s : ProgramHeader) → s.p_memsz ≡ 0 → overruns (length bytes) s ≡ false
    → memory ≡ place_segment bytes memory s
unfolding place_segment
place_nothing bytes memory s none fits =
    let few : s.p_filesz ≤ s.p_memsz = grind (arith, common_steps) in
    overwrite_nothing memory (content bytes s) (place_of s.p_paddr)
    (content_none bytes s.p_offset s.p_filesz (s.p_memsz - s.p_filesz) (omega arith) (omega arith))

-- one more segment
pub place_loaded : (bytes memory : List ℕ) (k : ℕ) {now more : List ℕ} (h : ProgramHeader)
    → now ≡ fold (place_segment bytes) memory (segments_up_to bytes k) → h ≡ entry_at bytes k → true ≡ is_load h
    → more ≡ place_segment bytes now h → more ≡ fold (place_segment bytes) memory (segments_up_to bytes (k + 1))
place_loaded bytes memory k h now_is at loaded more_is =
    more_is ∙ ap (λ m. place_segment bytes m h) now_is
    ∙ sym (ap (fold (place_segment bytes) memory) (up_to_loaded bytes k h at loaded)
    ∙ fold-append (place_segment bytes) memory (segments_up_to bytes k) (h ∷ []))

pub place_skipped : (bytes memory : List ℕ) (k : ℕ) {now more : List ℕ} (h : ProgramHeader)
    → now ≡ fold (place_segment bytes) memory (segments_up_to bytes k) → h ≡ entry_at bytes k → false ≡ is_load h
    → more ≡ now → more ≡ fold (place_segment bytes) memory (segments_up_to bytes (k + 1))
place_skipped bytes memory k h now_is at skipped more_is =
    more_is ∙ now_is ∙ sym (ap (fold (place_segment bytes) memory) (up_to_skipped bytes k h at skipped))
