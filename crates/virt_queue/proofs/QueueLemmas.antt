-- The numbers that a queue may have.
use Rattle.std.proofs.Common.{◌≡◌, ℕ, ◌<◌, ◌≤◌, zero, suc, true, List, [], ◌∷◌, refl, arith, ⊎_elim}
use Rattle.std.proofs.lemmas.Bool.{false≢true, eqb-true, leb-true, or_cases, and_parts}
use Rattle.std.specs.List.{list_any, list_all}
use Rattle.std.specs.Prelude.{nat_eq, nat_le}
use Rattle.virt_queue.specs.Queue.{queue_sizes, is_queue_size}

-- a number that is in a list is at most what each of the list is
in_list-le : (n most : ℕ) (xs : List ℕ) → list_all (λ x. nat_le x most) xs ≡ true → list_any (nat_eq n) xs ≡ true →
    n ≤ most
in_list-le n most [] all any = absurd (false≢true any)
in_list-le n most (x ∷ xs) all any =
    let parts = and_parts (nat_le x most) (list_all (λ y. nat_le y most) xs) all in
    ⊎_elim (λ (here : nat_eq n x ≡ true). omega (arith, eqb-true n x here, leb-true x most parts.0))
    (λ (there : list_any (nat_eq n) xs ≡ true). in_list-le n most xs parts.1 there)
    (or_cases (nat_eq n x) (list_any (nat_eq n) xs) any)

pub queue_size-le : (n : ℕ) → is_queue_size n ≡ true → n ≤ 256
queue_size-le n h = in_list-le n 256 queue_sizes refl h

pub queue_size-positive : (n : ℕ) → is_queue_size n ≡ true → 0 < n
queue_size-positive zero h = absurd (false≢true h)
queue_size-positive (suc n) h = omega arith
