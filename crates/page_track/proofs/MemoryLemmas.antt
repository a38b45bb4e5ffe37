-- The size of memory, which no write changes.
use Rattle.std.proofs.Common.{◌≡◌, ℕ, ◌+◌, ◌*◌, ◌^◌, ◌≤◌, true, List, [], ◌∷◌, length, ap, arith, ⊎_elim}
use Rattle.std.proofs.lemmas.List.{length-replicate}
use Rattle.shared_definitions.specs.Memory.{ram_base, place_of, is_inside}
use Rattle.shared_definitions.proofs.OverwriteLemmas.{length-overwrite}
use Rattle.page_track.specs.Memory.{Memory, zeros, with_part}
use Rattle.page_track.proofs.LendingLemmas.{inside, write_none}

pub length-zeros : (mebibytes : ℕ) → length (zeros mebibytes) ≡ mebibytes * 2 ^ 20
unfolding zeros
length-zeros mebibytes = length-replicate (mebibytes * 2 ^ 20) 0

pub length-with_part : (memory : Memory) (address : ℕ) (part : List ℕ) →
    is_inside (length memory.bytes) address (length part) ≡ true →
    length (with_part memory address part).bytes ≡ length memory.bytes
length-with_part memory address [] h = ap length (write_none memory.bytes (place_of address))
length-with_part memory address (x ∷ part) h =
    ⊎_elim (λ (none : length (x ∷ part) ≡ 0). absurd (omega arith))
    (λ (some : (ram_base ≤ address) × (address + length (x ∷ part) ≤ ram_base + length memory.bytes)).
    length-overwrite memory.bytes (place_of address) (x ∷ part) (omega (arith, some.0, some.1)))
    (inside (length memory.bytes) address (length (x ∷ part)) h)
