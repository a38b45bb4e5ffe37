-- Of bytes that may stand at places, the first ones may too, and zeros may follow.
use Rattle.std.proofs.Common.{◌≡◌, ℕ, zero, suc, ◌+◌, ◌-◌, Bool, true, false, cond, ◌||◌, eqb, ltb, List, [], ◌∷◌, ◌++◌, length, get_or, take, drop, replicate, refl, sym, ap, ◌∙◌, inl, inr, arith}
use Rattle.std.proofs.Math.Seq.{take-append-add, drop-append-add}
use Rattle.std.proofs.lemmas.Bool.{cases_lt, eqb-true, and_parts, and_from, or_right}
use Rattle.std.proofs.lemmas.List.{append-nil, take-take, take_all, take-append-le, drop-append-le, drop-take, drop_all, length-take}
use Rattle.std.proofs.lemmas.List.Folds.{list_all-append}
use Rattle.colo_wire.specs.Places.{width, has_flag, are_line_flags, is_zero, may_stand, flags_after, follows}
use Rattle.colo_wire.specs.declared.forms.Place.{Place}
use Rattle.colo_wire.specs.declared.forms.Place.TheVariants.{Any, Seen, Flags, Marked, Offset}

-- ---- parts of lists

pub take_nothing : (n : ℕ) → take n (let x : List ℕ = [] in x) ≡ []
take_nothing zero = refl
take_nothing (suc n) = refl

drop_nothing : (n : ℕ) → drop n (let x : List ℕ = [] in x) ≡ []
drop_nothing zero = refl
drop_nothing (suc n) = refl

pub take_swap : (w n : ℕ) (b : List ℕ) → take w (take n b) ≡ take n (take w b)
take_swap w n b =
    elim (cases_lt w n) [
      | inl lt ↦ take-take w n b (omega arith) ∙ sym (take_all n (take w b) (omega (arith, length-take w b)))
      | inr le ↦ take_all w (take n b) (omega (arith, length-take n b)) ∙ sym (take-take n w b le)
    ]

pub drop_take : (w n : ℕ) (b : List ℕ) → drop w (take n b) ≡ take (n - w) (drop w b)
drop_take w n b =
    elim (cases_lt w n) [
      | inl lt ↦
          let e : n ≡ w + (n - w) = omega arith in
          ap (λ (k : ℕ). drop w (take k b)) e ∙ drop-take w (n - w) b
      | inr le ↦
          let e : n - w ≡ 0 = omega arith in
          drop_all w (take n b) (omega (arith, length-take n b)) ∙ ap (λ (k : ℕ). take k (drop w b)) (sym e)
    ]

take_over : (w : ℕ) (b z : List ℕ) → take w (b ++ z) ≡ take w b ++ take (w - length b) z
take_over w b z =
    elim (cases_lt w (length b)) [
      | inl lt ↦
          let e : w - length b ≡ 0 = omega arith in
          take-append-le w b z (omega arith) ∙ sym (ap (λ (k : ℕ). take w b ++ take k z) e ∙ append-nil (take w b))
      | inr le ↦
          let e : w ≡ length b + (w - length b) = omega arith in
          ap (λ (k : ℕ). take k (b ++ z)) e ∙ take-append-add b z (w - length b)
          ∙ ap (λ (x : List ℕ). x ++ take (w - length b) z) (sym (take_all w b le))
    ]

drop_over : (w : ℕ) (b z : List ℕ) → drop w (b ++ z) ≡ drop w b ++ drop (w - length b) z
drop_over w b z =
    elim (cases_lt w (length b)) [
      | inl lt ↦
          let e : w - length b ≡ 0 = omega arith in
          drop-append-le w b z (omega arith) ∙ sym (ap (λ (k : ℕ). drop w b ++ drop k z) e)
      | inr le ↦
          let e : w ≡ length b + (w - length b) = omega arith in
          ap (λ (k : ℕ). drop k (b ++ z)) e ∙ drop-append-add b z (w - length b)
          ∙ ap (λ (x : List ℕ). x ++ drop (w - length b) z) (sym (drop_all w b le))
    ]

-- ---- zeros

zero_take : (n : ℕ) (x : List ℕ) → is_zero x ≡ true → is_zero (take n x) ≡ true
zero_take zero x h = refl
zero_take (suc n) [] h = refl
zero_take (suc n) (b ∷ x) h =
    let p = and_parts (eqb b 0) (is_zero x) h in
    and_from (eqb b 0) (is_zero (take n x)) p.0 (zero_take n x p.1)

zero_drop : (n : ℕ) (x : List ℕ) → is_zero x ≡ true → is_zero (drop n x) ≡ true
zero_drop zero x h = h
zero_drop (suc n) [] h = refl
zero_drop (suc n) (b ∷ x) h = zero_drop n x (and_parts (eqb b 0) (is_zero x) h).1

zero_join : (x z : List ℕ) → is_zero x ≡ true → is_zero z ≡ true → is_zero (x ++ z) ≡ true
zero_join x z h k = list_all-append (λ b. eqb b 0) x z ∙ and_from (is_zero x) (is_zero z) h k

pub zeros : (n : ℕ) → is_zero (replicate n 0) ≡ true
zeros zero = refl
zeros (suc n) = zeros n

-- the first byte of the first ones, and before zeros
pub first_take : (n : ℕ) (x : List ℕ) → get_or (take (suc n) x) 0 0 ≡ get_or x 0 0
first_take n [] = refl
first_take n (b ∷ x) = refl

first_join : (x z : List ℕ) → is_zero z ≡ true → get_or (x ++ z) 0 0 ≡ get_or x 0 0
first_join [] [] h = refl
first_join [] (b ∷ z) h = eqb-true b 0 (and_parts (eqb b 0) (is_zero z) h).0
first_join (b ∷ x) z h = refl

-- ---- one place

nothing_stands : (p : Place) (flags : ℕ) → may_stand p flags [] ≡ true
nothing_stands (Any n) flags = refl
nothing_stands Seen flags = refl
nothing_stands Flags flags = refl
nothing_stands (Marked flag n) flags = or_right (has_flag flag flags) true refl
nothing_stands (Offset flag) flags =
    elim (has_flag flag flags) as (λ v. cond v true true ≡ true) [ true ↦ refl | false ↦ refl ]

-- what is asked of the first byte alone
first_of_some : (n : ℕ) (x : List ℕ) (p : ℕ → Bool) → p 0 ≡ true → p (get_or x 0 0) ≡ true →
    p (get_or (take n x) 0 0) ≡ true
first_of_some zero x p z h = z
first_of_some (suc n) x p z h = ap p (first_take n x) ∙ h

marked_take : (n : ℕ) (f : Bool) (x : List ℕ) → (f || is_zero x) ≡ true → (f || is_zero (take n x)) ≡ true
marked_take n true x h = refl
marked_take n false x h = zero_take n x h

offset_take : (n : ℕ) (f : Bool) (x : List ℕ) → cond f (ltb (get_or x 0 0) 128) (is_zero x) ≡ true →
    cond f (ltb (get_or (take n x) 0 0) 128) (is_zero (take n x)) ≡ true
offset_take n true x h = first_of_some n x (λ b. ltb b 128) refl h
offset_take n false x h = zero_take n x h

stands_take : (p : Place) (flags n : ℕ) (x : List ℕ) → may_stand p flags x ≡ true →
    may_stand p flags (take n x) ≡ true
stands_take (Any w) flags n x h = refl
stands_take Seen flags n x h = first_of_some n x (λ b. ltb b 2) refl h
stands_take Flags flags n x h = first_of_some n x are_line_flags refl h
stands_take (Marked flag w) flags n x h = marked_take n (has_flag flag flags) x h
stands_take (Offset flag) flags n x h = offset_take n (has_flag flag flags) x h

marked_join : (f : Bool) (x z : List ℕ) → is_zero z ≡ true → (f || is_zero x) ≡ true → (f || is_zero (x ++ z)) ≡ true
marked_join true x z k h = refl
marked_join false x z k h = zero_join x z h k

offset_join : (f : Bool) (x z : List ℕ) → is_zero z ≡ true → cond f (ltb (get_or x 0 0) 128) (is_zero x) ≡ true →
    cond f (ltb (get_or (x ++ z) 0 0) 128) (is_zero (x ++ z)) ≡ true
offset_join true x z k h = ap (λ b. ltb b 128) (first_join x z k) ∙ h
offset_join false x z k h = zero_join x z h k

stands_join : (p : Place) (flags : ℕ) (x z : List ℕ) → is_zero z ≡ true → may_stand p flags x ≡ true →
    may_stand p flags (x ++ z) ≡ true
stands_join (Any w) flags x z k h = refl
stands_join Seen flags x z k h = ap (λ b. ltb b 2) (first_join x z k) ∙ h
stands_join Flags flags x z k h = ap are_line_flags (first_join x z k) ∙ h
stands_join (Marked flag w) flags x z k h = marked_join (has_flag flag flags) x z k h
stands_join (Offset flag) flags x z k h = offset_join (has_flag flag flags) x z k h

flags_take : (p : Place) (flags n : ℕ) (x : List ℕ) → flags_after p flags (take (suc n) x) ≡ flags_after p flags x
flags_take (Any w) flags n x = refl
flags_take Seen flags n x = first_take n x
flags_take Flags flags n x = first_take n x
flags_take (Marked flag w) flags n x = refl
flags_take (Offset flag) flags n x = refl

flags_join : (p : Place) (flags : ℕ) (x z : List ℕ) → is_zero z ≡ true →
    flags_after p flags (x ++ z) ≡ flags_after p flags x
flags_join (Any w) flags x z k = refl
flags_join Seen flags x z k = first_join x z k
flags_join Flags flags x z k = first_join x z k
flags_join (Marked flag w) flags x z k = refl
flags_join (Offset flag) flags x z k = refl

-- ---- all places

pub nothing_follows : (ps : List Place) (flags : ℕ) → follows ps flags [] ≡ true
nothing_follows [] flags = refl
nothing_follows (p ∷ ps) flags =
    rw (take_nothing (width p), drop_nothing (width p), nothing_stands p flags)
    (nothing_follows ps (flags_after p flags []))

pub follows_take : (ps : List Place) (flags n : ℕ) (b : List ℕ) → follows ps flags b ≡ true →
    follows ps flags (take n b) ≡ true
follows_take ps flags zero b h = nothing_follows ps flags
follows_take [] flags (suc n) b h = refl
follows_take (p ∷ ps) flags (suc n) b h =
    let x = take (width p) b in
    let parts = and_parts (may_stand p flags x) (follows ps (flags_after p flags x) (drop (width p) b)) h in
    let here : may_stand p flags (take (width p) (take (suc n) b)) ≡ true =
    ap (may_stand p flags) (take_swap (width p) (suc n) b) ∙ stands_take p flags (suc n) x parts.0 in
    let same : flags_after p flags (take (width p) (take (suc n) b)) ≡ flags_after p flags x =
    ap (flags_after p flags) (take_swap (width p) (suc n) b) ∙ flags_take p flags n x in
    let rest = follows_take ps (flags_after p flags x) (suc n - width p) (drop (width p) b) parts.1 in
    and_from _ _ here (ap (λ (f : ℕ). follows ps f (drop (width p) (take (suc n) b))) same
    ∙ ap (follows ps (flags_after p flags x)) (drop_take (width p) (suc n) b) ∙ rest)

pub follows_join : (ps : List Place) (flags : ℕ) (b z : List ℕ) → is_zero z ≡ true → follows ps flags b ≡ true →
    follows ps flags (b ++ z) ≡ true
follows_join [] flags b z k h = refl
follows_join (p ∷ ps) flags b z k h =
    let x = take (width p) b in
    let y = take (width p - length b) z in
    let parts = and_parts (may_stand p flags x) (follows ps (flags_after p flags x) (drop (width p) b)) h in
    let zero_y = zero_take (width p - length b) z k in
    let here : may_stand p flags (take (width p) (b ++ z)) ≡ true =
    ap (may_stand p flags) (take_over (width p) b z) ∙ stands_join p flags x y zero_y parts.0 in
    let same : flags_after p flags (take (width p) (b ++ z)) ≡ flags_after p flags x =
    ap (flags_after p flags) (take_over (width p) b z) ∙ flags_join p flags x y zero_y in
    let rest = follows_join ps (flags_after p flags x) (drop (width p) b) (drop (width p - length b) z)
    (zero_drop (width p - length b) z k) parts.1 in
    and_from _ _ here (ap (λ (f : ℕ). follows ps f (drop (width p) (b ++ z))) same
    ∙ ap (follows ps (flags_after p flags x)) (drop_over (width p) b z) ∙ rest)
