-- Reads of bytes over which a part was written.
use Rattle.std.proofs.Common.{◌≡◌, ℕ, ◌+◌, ◌-◌, ◌<◌, ◌≤◌, List, ◌++◌, length, get_or, take, drop, ap, sym, ◌∙◌, arith, length-append, length-drop, ⊎_elim}
use Rattle.std.proofs.lemmas.Bool.{cases_lt}
use Rattle.std.proofs.lemmas.List.{length-take, get_or-take, get_or-drop, get_or_append_left, get_or-append_right, ext_get_or}
use Rattle.std.specs.List.{slice_range}
use Rattle.shared_definitions.specs.Overwrite.{overwrite}
use Rattle.shared_definitions.proofs.RangeLemmas.{range_is}

pub length-overwrite : (b : List ℕ) (at : ℕ) (part : List ℕ) → at + length part ≤ length b →
    length (overwrite b at part) ≡ length b
unfolding overwrite
length-overwrite b at part h =
    omega (
      arith,
      length-append (take at b ++ part) (drop (at + length part) b),
      length-append (take at b) part,
      length-take at b,
      length-drop (at + length part) b,
    )

-- the length of what stands before the part's end
front_len : (b : List ℕ) (at : ℕ) (part : List ℕ) → at + length part ≤ length b →
    length (take at b ++ part) ≡ at + length part
front_len b at part h = omega (arith, length-append (take at b) part, length-take at b)

pub overwrite_before : (b : List ℕ) (at : ℕ) (part : List ℕ) (i : ℕ) → at + length part ≤ length b → i < at →
    get_or (overwrite b at part) i 0 ≡ get_or b i 0
unfolding overwrite
overwrite_before b at part i h lt =
    get_or_append_left (take at b ++ part) (drop (at + length part) b) 0 i (omega (arith, front_len b at part h))
    ∙ (get_or_append_left (take at b) part 0 i (omega (arith, length-take at b)) ∙ get_or-take at b i 0 lt)

pub overwrite_within : (b : List ℕ) (at : ℕ) (part : List ℕ) (i : ℕ) → at + length part ≤ length b → at ≤ i →
    i < at + length part → get_or (overwrite b at part) i 0 ≡ get_or part (i - at) 0
unfolding overwrite
overwrite_within b at part i h ge lt =
    get_or_append_left (take at b ++ part) (drop (at + length part) b) 0 i (omega (arith, front_len b at part h))
    ∙ get_or-append_right (take at b) part at i 0 (omega (arith, length-take at b)) ge

pub overwrite_after : (b : List ℕ) (at : ℕ) (part : List ℕ) (i : ℕ) → at + length part ≤ length b →
    at + length part ≤ i → get_or (overwrite b at part) i 0 ≡ get_or b i 0
unfolding overwrite
overwrite_after b at part i h ge =
    let place : at + length part + (i - (at + length part)) ≡ i = omega arith in
    get_or-append_right (take at b ++ part) (drop (at + length part) b) (at + length part) i 0
    (front_len b at part h) ge
    ∙ (get_or-drop (at + length part) b (i - (at + length part)) 0 ∙ ap (λ (j : ℕ). get_or b j 0) place)

pub overwrite_range : (b : List ℕ) (at : ℕ) (part : List ℕ) (j : ℕ) → at + length part ≤ length b →
    j ≡ at + length part → slice_range (overwrite b at part) at j ≡ part
overwrite_range b at part j h e =
    let len = length-overwrite b at part h in
    range_is (overwrite b at part) at j part e (omega arith)
    (λ k lt.
    let place : at + k - at ≡ k = omega arith in
    overwrite_within b at part (at + k) h (omega arith) (omega arith) ∙ ap (λ (n : ℕ). get_or part n 0) place)

pub overwrite_twice : (b : List ℕ) (at : ℕ) (x y : List ℕ) → length x ≡ length y → at + length y ≤ length b →
    overwrite (overwrite b at x) at y ≡ overwrite b at y
overwrite_twice b at x y e h =
    let once = length-overwrite b at x (omega arith) in
    let twice = length-overwrite (overwrite b at x) at y (omega arith) in
    let last = length-overwrite b at y h in
    ext_get_or 0 (overwrite (overwrite b at x) at y) (overwrite b at y) (omega arith)
    (λ i lt.
    ⊎_elim
    (λ (before : i < at).
    overwrite_before (overwrite b at x) at y i (omega arith) before
    ∙ (overwrite_before b at x i (omega arith) before ∙ sym (overwrite_before b at y i h before)))
    (λ (from : at ≤ i).
    ⊎_elim
    (λ (inside : i < at + length y).
    overwrite_within (overwrite b at x) at y i (omega arith) from inside
    ∙ sym (overwrite_within b at y i h from inside))
    (λ (behind : at + length y ≤ i).
    overwrite_after (overwrite b at x) at y i (omega arith) behind
    ∙ (overwrite_after b at x i (omega arith) (omega arith) ∙ sym (overwrite_after b at y i h behind)))
    (cases_lt i (at + length y)))
    (cases_lt i at))
