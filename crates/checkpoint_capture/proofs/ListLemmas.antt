-- Lists of parts, one part more at a time.
use Rattle.std.proofs.Common.{◌≡◌, ℕ, ◌+◌, ◌*◌, ◌<◌, List, [], ◌∷◌, ◌++◌, length, map, take, get_or, refl, ap, sym, ◌∙◌, subst, arith}
use Rattle.std.specs.List.{AllByRecursion, concat, enumerate_from}
use Rattle.std.proofs.lemmas.List.{map-append, length-append, take_more}
use Rattle.shared_definitions.proofs.FactLemmas.{◌&◌}
use Rattle.checkpoint_capture.specs.Sizes.{HaveSize}

-- all of a list, and of the elements of another after it
pub all_append : {X : Type 0} (P : X → Type 0) (xs ys : List X) → AllByRecursion P xs → AllByRecursion P ys →
    AllByRecursion P (xs ++ ys)
all_append P [] ys all more = more
all_append P (x ∷ xs) ys all more = all.0 & all_append P xs ys all.1 more

-- the next of a list, with its index
pub enumerate_one : {X : Type 0} (n : ℕ) (xs : List X) (x : X) →
    enumerate_from n (xs ++ x ∷ []) ≡ enumerate_from n xs ++ (n + length xs, x) ∷ []
enumerate_one n [] x =
    let e : n ≡ n + 0 = omega arith in ap (λ m. (m, x) ∷ []) e
enumerate_one n (y ∷ xs) x =
    let e : (n + 1) + length xs ≡ n + length (y ∷ xs) = omega arith in
    ap (λ r. (n, y) ∷ r) (enumerate_one (n + 1) xs x ∙ ap (λ m. enumerate_from (n + 1) xs ++ (m, x) ∷ []) e)

pub map_enumerate_one : {X Y : Type 0} (f : ℕ × X → Y) (xs : List X) (x : X) (k : ℕ) → length xs ≡ k →
    map f (enumerate_from 0 (xs ++ x ∷ [])) ≡ map f (enumerate_from 0 xs) ++ f (k, x) ∷ []
map_enumerate_one f xs x k e =
    let at : 0 + length xs ≡ k = omega (arith, e) in
    ap (λ es. map f es) (enumerate_one 0 xs x) ∙ (map-append f (enumerate_from 0 xs) ((0 + length xs, x) ∷ []) ∙
    ap (λ m. map f (enumerate_from 0 xs) ++ f (m, x) ∷ []) at)

-- the bytes of sectors
pub length_sectors : (sectors : List (List ℕ)) → HaveSize 512 sectors →
    length (concat sectors) ≡ 512 * length sectors
length_sectors [] sizes = refl
length_sectors (x ∷ xs) sizes = omega (arith, length-append x (concat xs), sizes.0, length_sectors xs sizes.1)

-- one part more has the size
pub size_more : (size : ℕ) (parts : List (List ℕ)) (k : ℕ) → k < length parts → HaveSize size (take k parts) →
    length (get_or parts k []) ≡ size → HaveSize size (take (k + 1) parts)
size_more size parts k within sizes more =
    subst (HaveSize size) (sym (take_more parts k [] within))
    (all_append (λ (part : List ℕ). length part ≡ size) (take k parts) (get_or parts k [] ∷ []) sizes (more & tt))
