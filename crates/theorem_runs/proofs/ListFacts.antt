-- Lists: what holds of each element, and how an equation of two lists comes apart.
use Rattle.std.proofs.Common.{◌≡◌, Bool, List, [], ◌∷◌, ◌++◌, map, ap, true, false}
use Rattle.std.specs.List.{AllByRecursion, flat_map}
use Rattle.std.specs.Prelude.{if◌then◌else◌}

abbrev head_or : {X : Type 0} → X → List X → X
head_or x [] = x
head_or x (y ∷ ys) = y

abbrev tail_of : {X : Type 0} → List X → List X
tail_of [] = []
tail_of (x ∷ xs) = xs

pub heads_same : {X : Type 0} (x y : X) (xs ys : List X) → x ∷ xs ≡ y ∷ ys → x ≡ y
heads_same x y xs ys e = ap (λ zs. head_or x zs) e

pub tails_same : {X : Type 0} (x y : X) (xs ys : List X) → x ∷ xs ≡ y ∷ ys → xs ≡ ys
tails_same x y xs ys e = ap (λ zs. tail_of zs) e

pub all_append : {X : Type 0} (P : X → Type 0) (xs ys : List X) → AllByRecursion P xs → AllByRecursion P ys
    → AllByRecursion P (xs ++ ys)
all_append P [] ys h g = g
all_append P (x ∷ xs) ys h g = (h.0, all_append P xs ys h.1 g)

pub all_map : {X Y : Type 0} (P : Y → Type 0) (f : X → Y) (xs : List X) → ((x : X) → P (f x))
    → AllByRecursion P (map f xs)
all_map P f [] h = tt
all_map P f (x ∷ xs) h = (h x, all_map P f xs h)

pub all_flat_map : {X Y : Type 0} (P : Y → Type 0) (f : X → List Y) (xs : List X)
    → ((x : X) → AllByRecursion P (f x)) → AllByRecursion P (flat_map f xs)
all_flat_map P f [] h = tt
all_flat_map P f (x ∷ xs) h = all_append P (f x) (flat_map f xs) (h x) (all_flat_map P f xs h)

pub all_weaken : {X : Type 0} (P Q : X → Type 0) (xs : List X) → ((x : X) → P x → Q x) → AllByRecursion P xs
    → AllByRecursion Q xs
all_weaken P Q [] f h = tt
all_weaken P Q (x ∷ xs) f h = (f x h.0, all_weaken P Q xs f h.1)

pub all_if : {X : Type 0} (P : X → Type 0) (b : Bool) (xs ys : List X) → AllByRecursion P xs → AllByRecursion P ys
    → AllByRecursion P (if b then xs else ys)
all_if P true xs ys h g = h
all_if P false xs ys h g = g
