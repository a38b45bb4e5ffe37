-- Bytes after a part of them was lent, and the part itself.
use Rattle.std.proofs.Common.{◌≡◌, ◌⊎◌, ℕ, ◌+◌, ◌-◌, ◌<◌, ◌≤◌, min, true, List, [], ◌∷◌, ◌++◌, length, take, drop, slice_range, refl, ap, sym, ◌∙◌, inl, inr, arith, ⊎_elim, append_assoc, append-nil, add-zero, length-append, length-drop, take-append-drop}
use Rattle.std.proofs.lemmas.Bool.{cases_lt, or_cases, and_parts, leb-true, eqb-true}
use Rattle.std.proofs.lemmas.List.{length-take, take-append-le, take_all, take_at, drop-drop}
use Rattle.shared_definitions.specs.Memory.{ram_base, place_of, is_inside}
use Rattle.shared_definitions.specs.Overwrite.{overwrite}
use Rattle.shared_definitions.proofs.OverwriteLemmas.{length-overwrite}
use Rattle.page_track.specs.Memory.{part_at}

-- the bytes with a part in the place of as many, as a `Vec` writes it
abbrev pub refill : List ℕ → ℕ → List ℕ → List ℕ
refill b at part = take at b ++ (part ++ drop (length part) (drop at b))

refill_is : (b : List ℕ) (at : ℕ) (part : List ℕ) → refill b at part ≡ overwrite b at part
unfolding overwrite
refill_is b at part = rw drop-drop (sym (append_assoc (take at b) part (drop (at + length part) b)))

refill_long : (b : List ℕ) (at : ℕ) (part : List ℕ) → at ≤ length b → length b ≤ length (refill b at part)
refill_long b at part h =
    omega (
      arith,
      length-append (take at b) (part ++ drop (length part) (drop at b)),
      length-append part (drop (length part) (drop at b)),
      length-take at b,
      length-drop (length part) (drop at b),
      length-drop at b,
    )

-- a part that is written past the end is cut off
past_end : (b rest : List ℕ) (at : ℕ) (part : List ℕ) → length b ≤ at → take (length b) (overwrite b at part) ≡ b
unfolding overwrite
past_end b rest at part h =
    rw (take_all at b h, append_assoc) (take_at b (part ++ drop (at + length part) b) (length b) refl)

-- what a `Vec` holds after a range of it was lent, which begins at a place or at the end
pub refilled : (b rest : List ℕ) (place at : ℕ) (part : List ℕ) → at ≡ min place (length b) →
    take (length b) (refill b at part ++ rest) ≡ take (length b) (overwrite b place part)
refilled b rest place at part e =
    take-append-le (length b) (refill b at part) rest (refill_long b at part (omega arith))
    ∙ (ap (take (length b)) (refill_is b at part)
    ∙ ⊎_elim
    (λ (before : place < length b). let same : at ≡ place = omega arith in rw same refl)
    (λ (past : length b ≤ place). past_end b rest at part (omega arith) ∙ sym (past_end b rest place part past))
    (cases_lt place (length b)))

-- a part that is inside memory is empty, or begins there and ends there
pub inside : (size address n : ℕ) → is_inside size address n ≡ true →
    (n ≡ 0) ⊎ ((ram_base ≤ address) × (address + n ≤ ram_base + size))
inside size address n h =
    ⊎_elim (λ none. inl (eqb-true n 0 none))
    (λ some. let parts = and_parts _ _ some in inr (leb-true _ _ parts.0, leb-true _ _ parts.1))
    (or_cases _ _ h)

-- its place, where it begins at its place or at memory's end
pub part_from : (b : List ℕ) (address n at : ℕ) → is_inside (length b) address n ≡ true →
    at ≡ min (place_of address) (length b) → slice_range b at (at + n) ≡ part_at b address n
part_from b address n at h e =
    ⊎_elim (λ (none : n ≡ 0). let l : at + n - at ≡ 0 = omega arith in
    let r : place_of address + n - place_of address ≡ 0 = omega arith in rw (l, r) refl)
    (λ (some : (ram_base ≤ address) × (address + n ≤ ram_base + length b)).
    let same : at ≡ place_of address = omega (arith, some.0, some.1) in rw same refl)
    (inside (length b) address n h)

-- no byte written changes nothing
pub write_none : (b : List ℕ) (at : ℕ) → overwrite b at [] ≡ b
unfolding overwrite
write_none b at = simp (append-nil, add-zero) (take-append-drop at b)

-- a write that is inside memory isn't cut
pub write_whole : (b : List ℕ) (address : ℕ) (part : List ℕ) → is_inside (length b) address (length part) ≡ true →
    take (length b) (overwrite b (place_of address) part) ≡ overwrite b (place_of address) part
write_whole b address [] h = ap (take (length b)) (write_none b (place_of address))
    ∙ take_all (length b) b (omega arith) ∙ sym (write_none b (place_of address))
write_whole b address (x ∷ part) h =
    ⊎_elim (λ (none : length (x ∷ part) ≡ 0). absurd (omega arith))
    (λ (some : (ram_base ≤ address) × (address + length (x ∷ part) ≤ ram_base + length b)).
    let len = length-overwrite b (place_of address) (x ∷ part) (omega (arith, some.0, some.1)) in
    take_all (length b) (overwrite b (place_of address) (x ∷ part)) (omega arith))
    (inside (length b) address (length (x ∷ part)) h)
