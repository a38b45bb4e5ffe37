-- What is found in a list after a change, and incarnations compared by their values.
use Rattle.std.proofs.Common.{◌≡◌, Bool, true, false, ◌&&◌, ◌||◌, ◌==◌, cond, List, [], ◌∷◌, ◌++◌, map, filter, find, Option, None, Some, is_some, if◌then◌else◌, refl, sym, ap, subst, ◌∙◌, true≢false}
use Rattle.std.specs.List.{list_any}
use Rattle.std.specs.Option.{option_map}
use Rattle.std.proofs.lemmas.Bool.{and_parts, eqb-true, eq-eqb}
use Rattle.std.proofs.lemmas.List.Folds.{list_any-append}
use Rattle.tcp_track.specs.Segments.{same_tuple}
use Rattle.tcp_track.specs.Tracking.{same_incarnation, insert_incarnation}
use Rattle.tcp_track.specs.declared.openings.Incarnation.{Incarnation}
use Rattle.tcp_track.proofs.TupleLemmas.{same_tuple-refl, same_tuple-eq}

-- LISTS

-- the first of two that is there
abbrev pub found_first : {X : Type 0} → Option X → Option X → Option X
found_first None other = other
found_first (Some x) other = Some x

pub found_first-none : {X : Type 0} (o : Option X) → found_first o None ≡ o
found_first-none None = refl
found_first-none (Some x) = refl

pub find-push : {X : Type 0} (p : X → Bool) (xs : List X) (y : X) →
    find p (xs ++ y ∷ []) ≡ found_first (find p xs) (cond (p y) (Some y) None)
find-push p [] y = refl
find-push p (x ∷ xs) y = by (p x) (find-push p xs y)
  where
    by : (b : Bool) → find p (xs ++ y ∷ []) ≡ found_first (find p xs) (cond (p y) (Some y) None) →
        cond b (Some x) (find p (xs ++ y ∷ [])) ≡ found_first (cond b (Some x) (find p xs)) (cond (p y) (Some y) None)
    by true more = refl
    by false more = more

-- a filter that treats alike all that is looked for
pub find-filter : {X : Type 0} (p q : X → Bool) (b : Bool) → ((x : X) → p x ≡ true → q x ≡ b) → (xs : List X) →
    find p (filter q xs) ≡ cond b (find p xs) None
find-filter p q true h [] = refl
find-filter p q false h [] = refl
find-filter p q b h (x ∷ xs) = by (p x) refl (q x) refl (find-filter p q b h xs)
  where
    hit : (c : Bool) → p x ≡ true → q x ≡ c → b ≡ c → find p (filter q xs) ≡ cond c (find p xs) None →
        find p (cond c (x ∷ filter q xs) (filter q xs)) ≡ cond c (Some x) None
    hit true e f g more = ap (λ (u : Bool). cond u (Some x) (find p (filter q xs))) e
    hit false e f g more = more

    by : (u : Bool) → p x ≡ u → (v : Bool) → q x ≡ v → find p (filter q xs) ≡ cond b (find p xs) None →
        find p (cond v (x ∷ filter q xs) (filter q xs)) ≡ cond b (cond u (Some x) (find p xs)) None
    by true e v f more =
        let same : b ≡ v = sym (h x e) ∙ f in
        subst (λ (c : Bool). find p (cond v (x ∷ filter q xs) (filter q xs)) ≡ cond c (Some x) None) (sym same)
        (hit v e f same (subst (λ (c : Bool). find p (filter q xs) ≡ cond c (find p xs) None) same more))
    by false e true f more = ap (λ (u : Bool). cond u (Some x) (find p (filter q xs))) e ∙ more
    by false e false f more = more

pub any-filter : {X : Type 0} (p q : X → Bool) (b : Bool) → ((x : X) → p x ≡ true → q x ≡ b) → (xs : List X) →
    list_any p (filter q xs) ≡ (b && list_any p xs)
any-filter p q true h [] = refl
any-filter p q false h [] = refl
any-filter p q b h (x ∷ xs) = by (p x) refl (q x) refl (any-filter p q b h xs)
  where
    hit : (c : Bool) → p x ≡ true → list_any p (filter q xs) ≡ (c && list_any p xs) →
        list_any p (cond c (x ∷ filter q xs) (filter q xs)) ≡ (c && true)
    hit true e more = ap (λ (u : Bool). u || list_any p (filter q xs)) e
    hit false e more = more

    by : (u : Bool) → p x ≡ u → (v : Bool) → q x ≡ v → list_any p (filter q xs) ≡ (b && list_any p xs) →
        list_any p (cond v (x ∷ filter q xs) (filter q xs)) ≡ (b && (u || list_any p xs))
    by true e v f more =
        let same : b ≡ v = sym (h x e) ∙ f in
        subst (λ (c : Bool). list_any p (cond v (x ∷ filter q xs) (filter q xs)) ≡ (c && true)) (sym same)
        (hit v e (subst (λ (c : Bool). list_any p (filter q xs) ≡ (c && list_any p xs)) same more))
    by false e true f more = ap (λ (u : Bool). u || list_any p (filter q xs)) e ∙ more
    by false e false f more = more

pub find-map : {X : Type 0} (p : X → Bool) (f : X → X) → ((x : X) → p (f x) ≡ p x) → (xs : List X) →
    find p (map f xs) ≡ option_map f (find p xs)
find-map p f h [] = refl
find-map p f h (x ∷ xs) =
    ap (λ (b : Bool). cond b (Some (f x)) (find p (map f xs))) (h x) ∙ by (p x) (find-map p f h xs)
  where
    by : (b : Bool) → find p (map f xs) ≡ option_map f (find p xs) →
        cond b (Some (f x)) (find p (map f xs)) ≡ option_map f (cond b (Some x) (find p xs))
    by true more = refl
    by false more = more

pub find-same : {X : Type 0} (p q : X → Bool) → ((x : X) → p x ≡ q x) → (xs : List X) → find p xs ≡ find q xs
find-same p q h [] = refl
find-same p q h (x ∷ xs) =
    ap (λ (b : Bool). cond b (Some x) (find p xs)) (h x)
    ∙ ap (λ (o : Option _). cond (q x) (Some x) o) (find-same p q h xs)

pub any-find : {X : Type 0} (p : X → Bool) (xs : List X) → list_any p xs ≡ is_some (find p xs)
any-find p [] = refl
any-find p (x ∷ xs) = by (p x) (any-find p xs)
  where
    by : (b : Bool) → list_any p xs ≡ is_some (find p xs) →
        (b || list_any p xs) ≡ is_some (cond b (Some x) (find p xs))
    by true more = refl
    by false more = more

some-same : {X : Type 0} (x y : X) → Some x ≡ Some y → x ≡ y
some-same x y e = cc

pub find-holds : {X : Type 0} (p : X → Bool) (xs : List X) (y : X) → find p xs ≡ Some y → p y ≡ true
find-holds p [] y e = absurd (true≢false (sym (ap is_some e)))
find-holds p (x ∷ xs) y e = by (p x) refl e (find-holds p xs y)
  where
    by : (b : Bool) → p x ≡ b → cond b (Some x) (find p xs) ≡ Some y → (find p xs ≡ Some y → p y ≡ true) →
        p y ≡ true
    by true h e more = subst (λ z. p z ≡ true) (some-same x y e) h
    by false h e more = more e

-- INCARNATIONS

pub same_incarnation-eq : (a b : Incarnation) → same_incarnation a b ≡ true → a ≡ b
same_incarnation-eq a b h =
    let parts = and_parts (same_tuple a.tuple b.tuple) (a.client == b.client) h in
    let tuple = same_tuple-eq a.tuple b.tuple parts.0 in
    let client = eqb-true a.client b.client parts.1 in
    λ i. record { tuple = tuple i; client = client i }

pub same_incarnation-refl : (a : Incarnation) → same_incarnation a a ≡ true
same_incarnation-refl a = rw (same_tuple-refl a.tuple, eq-eqb a.client a.client refl) refl

pub same_incarnation-comm : (a b : Incarnation) → same_incarnation a b ≡ same_incarnation b a
same_incarnation-comm a b = by (same_incarnation a b) (same_incarnation b a) refl refl
  where
    turned : (a b : Incarnation) → same_incarnation a b ≡ true → same_incarnation b a ≡ true
    turned a b h = subst (λ (c : Incarnation). same_incarnation c a ≡ true) (same_incarnation-eq a b h)
        (same_incarnation-refl a)

    by : (x y : Bool) → same_incarnation a b ≡ x → same_incarnation b a ≡ y → x ≡ y
    by true true p q = refl
    by true false p q = absurd (true≢false (sym (turned a b p) ∙ q))
    by false true p q = absurd (true≢false (sym (turned b a q) ∙ p))
    by false false p q = refl

or-turned : (a b : Bool) → (a || (b || false)) ≡ (b || a)
or-turned true true = refl
or-turned true false = refl
or-turned false true = refl
or-turned false false = refl

-- an incarnation that was inserted is there, and each other as before
pub any-insert : (i j : Incarnation) (is : List Incarnation) →
    list_any (same_incarnation i) (insert_incarnation is j)
    ≡ (same_incarnation i j || list_any (same_incarnation i) is)
any-insert i j is = by (list_any (same_incarnation j) is) refl
  where
    there : (b : Bool) → same_incarnation i j ≡ b → list_any (same_incarnation j) is ≡ true →
        list_any (same_incarnation i) is ≡ (b || list_any (same_incarnation i) is)
    there true e h = subst (λ (k : Incarnation). list_any (same_incarnation k) is ≡ true)
        (sym (same_incarnation-eq i j e)) h
    there false e h = refl

    by : (b : Bool) → list_any (same_incarnation j) is ≡ b →
        list_any (same_incarnation i) (if b then is else is ++ j ∷ [])
        ≡ (same_incarnation i j || list_any (same_incarnation i) is)
    by true h = there (same_incarnation i j) refl h
    by false h = list_any-append (same_incarnation i) is (j ∷ [])
        ∙ or-turned (list_any (same_incarnation i) is) (same_incarnation i j)
