-- Memory as pages: each page is a part of memory, all of them are memory, and a page that is
-- written is a page that is set.
use Rattle.std.proofs.Common.{◌≡◌, ℕ, zero, suc, ◌+◌, ◌*◌, ◌/◌, ◌%◌, ◌-◌, ◌<◌, ◌≤◌, Some, None, List, [], ◌∷◌, ◌++◌, length, take, drop, refl, sym, ap, ◌∙◌, arith, ⊎_elim, append_assoc, append-nil, length-append, length-drop}
use Rattle.std.proofs.lemmas.Bool.{cases_lt, le-leb, lt-leb}
use Rattle.std.proofs.lemmas.Grind.{common_steps}
use Rattle.std.proofs.lemmas.List.{take-append-drop, take-append-le, drop-append-le, drop-drop, drop-take, drop_all, length-take}
use Rattle.std.proofs.lemmas.Option.{slice_get_past}
use Rattle.std.proofs.Math.Seq.{take-append_seam, drop-append_seam}
use Rattle.std.specs.List.{flat_map}
use Rattle.std.specs.Prelude.{slice_get, slice_set}
use Rattle.shared_definitions.proofs.OverwriteLemmas.{length-overwrite}
use Rattle.shared_definitions.specs.Overwrite.{overwrite}
use Rattle.page_track.specs.Memory.{Memory, page_size, find_page}
use Rattle.guest_machine.specs.Guest.{first_pages, memory_of, pages_of}

length-first : (n : ℕ) (b : List ℕ) → length (first_pages n b) ≡ n
unfolding first_pages
length-first zero b = refl
length-first (suc n) b = ap suc (length-first n (drop page_size b))

pub length_pages : (b : List ℕ) → length (pages_of b) ≡ length b / page_size
unfolding pages_of
length_pages b = length-first (length b / page_size) b

-- ---- one page

first_at : (n k : ℕ) (b : List ℕ) → k < n
    → slice_get (first_pages n b) k ≡ Some (take page_size (drop (k * page_size) b))
unfolding first_pages
first_at zero k b lt = absurd (omega arith)
first_at (suc n) zero b lt = refl
first_at (suc n) (suc k) b lt =
    let place : page_size + k * page_size ≡ suc k * page_size = omega arith in
    first_at n k (drop page_size b) (omega arith)
    ∙ ap (λ (x : List ℕ). Some (take page_size x)) (drop-drop (k * page_size) page_size b
    ∙ ap (λ (m : ℕ). drop m b) place)

found_page : (b : List ℕ) (k : ℕ) → (k + 1) * page_size ≤ length b
    → find_page b k ≡ Some (take page_size (drop (k * page_size) b))
found_page b k h =
    let len : (k + 1) * page_size - k * page_size ≡ page_size = omega arith in
    rw (le-leb ((k + 1) * page_size) (length b) h)
    (ap (λ (m : ℕ). Some (take m (drop (k * page_size) b))) len)

no_page : (b : List ℕ) (k : ℕ) → length b < (k + 1) * page_size → find_page b k ≡ None
no_page b k h = rw (lt-leb ((k + 1) * page_size) (length b) h) refl

-- a page is found exactly where the list has it
pub page_is : (b : List ℕ) (k : ℕ) → find_page b k ≡ slice_get (pages_of b) k
unfolding pages_of
page_is b k =
    let n = length b / page_size in
    ⊎_elim
    (λ (lt : k < n).
    found_page b k (omega arith) ∙ sym (first_at n k b lt))
    (λ (ge : n ≤ k).
    no_page b k (omega arith) ∙ sym (slice_get_past (first_pages n b) k (omega (arith, length-first n b))))
    (cases_lt k n)

-- ---- all pages

joined_first : (n : ℕ) (b : List ℕ)
    → flat_map (λ page. page) (first_pages n b) ++ drop (n * page_size) b ≡ b
unfolding first_pages
joined_first zero b = refl
joined_first (suc n) b =
    let rest = drop page_size b in
    let front = take page_size b in
    let pages = flat_map (λ page. page) (first_pages n rest) in
    let place : page_size + n * page_size ≡ suc n * page_size = omega arith in
    append_assoc front pages (drop (suc n * page_size) b)
    ∙ (ap (λ (m : ℕ). front ++ (pages ++ drop m b)) (sym place)
    ∙ (ap (λ (x : List ℕ). front ++ (pages ++ x)) (sym (drop-drop (n * page_size) page_size b))
    ∙ (ap (λ (x : List ℕ). front ++ x) (joined_first n rest) ∙ take-append-drop page_size b)))

pub pages_are_memory : (m : Memory) → length m.bytes % page_size ≡ 0 → memory_of (pages_of m.bytes) ≡ m
unfolding memory_of pages_of
pages_are_memory m h =
    let b = m.bytes in
    let n = length b / page_size in
    let pages = flat_map (λ page. page) (first_pages n b) in
    let whole : length b ≤ n * page_size = omega arith in
    let of : List ℕ → Memory = λ x. record { bytes = x } in
    ap of (sym (append-nil pages)
    ∙ (ap (λ (x : List ℕ). pages ++ x) (sym (drop_all (n * page_size) b whole)) ∙ joined_first n b))

-- ---- a page that is written

take-take : (n m : ℕ) (b : List ℕ) → take n (take (n + m) b) ≡ take n b
take-take zero m b = refl
take-take (suc n) m [] = grind (arith, common_steps)
take-take (suc n) m (x ∷ b) =
    let more : suc n + m ≡ suc (n + m) = omega arith in
    ap (λ (j : ℕ). take (suc n) (take j (x ∷ b))) more ∙ ap (λ (r : List ℕ). x ∷ r) (take-take n m b)

overwrite_front : (b part : List ℕ) (n m : ℕ) → n ≤ length b → take n (overwrite b (n + m) part) ≡ take n b
unfolding overwrite
overwrite_front b part n m h =
    let front = take (n + m) b in
    let rest = drop (n + m + length part) b in
    let long : n ≤ length front = omega (arith, length-take (n + m) b) in
    let longer : n ≤ length (front ++ part) = omega (arith, length-append front part) in
    take-append-le n (front ++ part) rest longer
    ∙ (take-append-le n front part long ∙ (take-take n m b))

overwrite_rest : (b part : List ℕ) (n m : ℕ) → n ≤ length b
    → drop n (overwrite b (n + m) part) ≡ overwrite (drop n b) m part
unfolding overwrite
overwrite_rest b part n m h =
    let front = take (n + m) b in
    let rest = drop (n + m + length part) b in
    let long : n ≤ length front = omega (arith, length-take (n + m) b) in
    let longer : n ≤ length (front ++ part) = omega (arith, length-append front part) in
    let place : n + m + length part ≡ n + (m + length part) = omega arith in
    drop-append-le n (front ++ part) rest longer
    ∙ (ap (λ (x : List ℕ). x ++ rest) (drop-append-le n front part long)
    ∙ (ap (λ (x : List ℕ). (x ++ part) ++ rest) (drop-take n m b)
    ∙ ap (λ (x : List ℕ). (take m (drop n b) ++ part) ++ x)
    (ap (λ (j : ℕ). drop j b) place ∙ sym (drop-drop (m + length part) n b))))

overwrite_start : (b page : List ℕ) → overwrite b 0 page ≡ page ++ drop (length page) b
unfolding overwrite
overwrite_start b page = let none : 0 + length page ≡ length page = omega arith in
    ap (λ (j : ℕ). page ++ drop j b) none

at_start_take : (b page : List ℕ) → length page ≡ page_size → take page_size (overwrite b 0 page) ≡ page
at_start_take b page e =
    ap (take page_size) (overwrite_start b page)
    ∙ (ap (λ (n : ℕ). take n (page ++ drop (length page) b)) (sym e)
    ∙ take-append_seam page (drop (length page) b))

at_start_drop : (b page : List ℕ) → length page ≡ page_size
    → drop page_size (overwrite b 0 page) ≡ drop page_size b
at_start_drop b page e =
    ap (drop page_size) (overwrite_start b page)
    ∙ (ap (λ (n : ℕ). drop n (page ++ drop (length page) b)) (sym e)
    ∙ (drop-append_seam page (drop (length page) b) ∙ ap (λ (n : ℕ). drop n b) e))

set_first : (n k : ℕ) (b page : List ℕ) → k < n → n * page_size ≤ length b → length page ≡ page_size
    → first_pages n (overwrite b (k * page_size) page) ≡ slice_set (first_pages n b) k page
unfolding first_pages
set_first zero k b page lt h e = absurd (omega arith)
set_first (suc n) zero b page lt h e =
    first_of_two page (overwrite b 0 page) (drop page_size b)
    (at_start_take b page e) (at_start_drop b page e) n
  where
    first_of_two : (x whole rest : List ℕ) → take page_size whole ≡ x → drop page_size whole ≡ rest
        → (n : ℕ) → take page_size whole ∷ first_pages n (drop page_size whole) ≡ x ∷ first_pages n rest
    first_of_two x whole rest p q n = rw (p, q) refl
set_first (suc n) (suc k) b page lt h e =
    let place : suc k * page_size ≡ page_size + k * page_size = omega arith in
    let fits : page_size ≤ length b = omega arith in
    ap (λ (j : ℕ). first_pages (suc n) (overwrite b j page)) place
    ∙ (ap (λ (x : List ℕ). x ∷ first_pages n (drop page_size (overwrite b (page_size + k * page_size) page)))
    (overwrite_front b page page_size (k * page_size) fits)
    ∙ (ap (λ (x : List ℕ). take page_size b ∷ first_pages n x) (overwrite_rest b page page_size (k * page_size) fits)
    ∙ ap (λ (x : List (List ℕ)). take page_size b ∷ x)
    (set_first n k (drop page_size b) page (omega arith) (omega (arith, length-drop page_size b)) e)))

pub set_past : (xs : List (List ℕ)) (k : ℕ) (x : List ℕ) → length xs ≤ k → slice_set xs k x ≡ xs
set_past [] k x h = refl
set_past (y ∷ xs) zero x h = absurd (omega arith)
set_past (y ∷ xs) (suc k) x h = ap (λ (r : List (List ℕ)). y ∷ r) (set_past xs k x (omega arith))

-- the pages after a page was written, or where there is no such page
pub pages_set : (b page : List ℕ) (k : ℕ) → (k + 1) * page_size ≤ length b → length page ≡ page_size
    → pages_of (overwrite b (k * page_size) page) ≡ slice_set (pages_of b) k page
unfolding pages_of
pages_set b page k h e =
    let n = length b / page_size in
    let fits : k * page_size + length page ≤ length b = omega arith in
    ap (λ (size : ℕ). first_pages (size / page_size) (overwrite b (k * page_size) page))
    (length-overwrite b (k * page_size) page fits)
    ∙ set_first n k b page (omega arith) (omega arith) e

pub pages_same : (b page : List ℕ) (k : ℕ) → length b / page_size ≤ k → slice_set (pages_of b) k page ≡ pages_of b
pages_same b page k h = set_past (pages_of b) k page (omega (arith, length_pages b))

-- all of a list that is written over is what was written
pub take_whole : (b part : List ℕ) → length part ≡ length b → take (length b) (overwrite b 0 part) ≡ part
take_whole b part e =
    ap (take (length b)) (overwrite_start b part)
    ∙ (ap (λ (n : ℕ). take n (part ++ drop (length part) b)) (sym e)
    ∙ take-append_seam part (drop (length part) b))
