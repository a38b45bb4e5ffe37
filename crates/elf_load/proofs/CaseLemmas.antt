-- The first case that holds, from what the tests of the file and of the segments found.
use Rattle.std.proofs.Common.{◌≡◌, ℕ, Bool, true, false, not, cond, Option, Some, None, List, [], ◌∷◌, ◌++◌, length, refl, ◌∙◌}
use Rattle.std.specs.List.{list_any, list_all}
use Rattle.elf_load.specs.Elf.{segments, entry_of}
use Rattle.elf_load.specs.Boot.{file_cases, segment_cases, elf_case, overruns, lies_outside, is_empty, can_start}
use Rattle.shared_definitions.specs.FirstOf.{Case, first_of}

first_of_front : (xs ys : List Case) (n : ℕ) → first_of xs ≡ Some n → first_of (xs ++ ys) ≡ Some n
first_of_front [] ys n e = cc
first_of_front ((m, true) ∷ xs) ys n e = e
first_of_front ((m, false) ∷ xs) ys n e = first_of_front xs ys n e

first_of_back : (xs ys : List Case) → first_of xs ≡ None → first_of (xs ++ ys) ≡ first_of ys
first_of_back [] ys e = refl
first_of_back ((m, true) ∷ xs) ys e = cc
first_of_back ((m, false) ∷ xs) ys e = first_of_back xs ys e

-- a case of the file header comes first
pub case_of_file : (size : ℕ) (bytes : List ℕ) (n : ℕ) → first_of (file_cases bytes) ≡ Some n
    → elf_case size bytes ≡ Some n
unfolding elf_case
case_of_file size bytes n e = first_of_front (file_cases bytes) (segment_cases size bytes) n e

-- else the first of the others
pub case_of_segments : (size : ℕ) (bytes : List ℕ) (r : Option ℕ) → first_of (file_cases bytes) ≡ None
    → first_of (segment_cases size bytes) ≡ r → elf_case size bytes ≡ r
unfolding elf_case
case_of_segments size bytes r e f = first_of_back (file_cases bytes) (segment_cases size bytes) e ∙ f

-- where the segments can be loaded, the entry decides
pub case_of_entry : (size : ℕ) (bytes : List ℕ) (b : Bool) → first_of (file_cases bytes) ≡ None
    → list_any (overruns (length bytes)) (segments bytes) ≡ false
    → list_any (lies_outside size) (segments bytes) ≡ false
    → list_all is_empty (segments bytes) ≡ false
    → b ≡ can_start size (entry_of bytes)
    → elf_case size bytes ≡ cond b None (Some 12)
case_of_entry size bytes true e fits inside some start =
    case_of_segments size bytes _ e (rw (fits, inside, some, ← start) refl)
case_of_entry size bytes false e fits inside some start =
    case_of_segments size bytes _ e (rw (fits, inside, some, ← start) refl)

-- where no case holds, none of a list does
no_case : (n : ℕ) (b : Bool) (cases : List Case) → first_of ((n, b) ∷ cases) ≡ None
    → (b ≡ false) × (first_of cases ≡ None)
no_case n true cases e = absurd (cc)
no_case n false cases e = (refl, e)

none_of_back : (xs ys : List Case) → first_of (xs ++ ys) ≡ None → first_of ys ≡ None
none_of_back [] ys e = e
none_of_back ((n, b) ∷ xs) ys e = none_of_back xs ys (no_case n b (xs ++ ys) e).1

first_two : (n m : ℕ) (b c : Bool) (cases : List Case) → first_of ((n, b) ∷ (m, c) ∷ cases) ≡ None
    → (b ≡ false) × (c ≡ false)
first_two n m b c cases e =
    let one : (b ≡ false) × (first_of ((m, c) ∷ cases) ≡ None) = no_case n b ((m, c) ∷ cases) e in
    (one.0, (no_case m c cases one.1).0)

-- no segment overruns or lies outside where no case holds
pub segments_fit : (size : ℕ) (bytes : List ℕ) → elf_case size bytes ≡ None
    → (list_any (overruns (length bytes)) (segments bytes) ≡ false)
    × (list_any (lies_outside size) (segments bytes) ≡ false)
unfolding elf_case
segments_fit size bytes e =
    let rest : List Case =
    (11, list_all is_empty (segments bytes)) ∷ (12, not (can_start size (entry_of bytes))) ∷ [] in
    first_two 9 10 (list_any (overruns (length bytes)) (segments bytes)) (list_any (lies_outside size)
    (segments bytes))
    rest
    (none_of_back (file_cases bytes) (segment_cases size bytes) e)
