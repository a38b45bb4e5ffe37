-- The first element that passes a test, and whether one does.
use Rattle.std.proofs.Common.{◌≡◌, suc, Bool, true, false, cond, List, [], ◌∷◌, Some, None, refl, sym, ap, ◌∙◌, inl, inr, arith}
use Rattle.std.specs.List.{Contains, find, list_any}
use Rattle.std.proofs.lemmas.Bool.{cases_Bool, or_from}
use Rattle.std.proofs.lemmas.List.Folds.{list_any_at}

pub contains_first : {X : Type 0} (x : X) (xs : List X) → Contains (x ∷ xs) x
contains_first x xs = (0, omega arith, refl)

pub contains_later : {X : Type 0} (y x : X) (xs : List X) → Contains xs x → Contains (y ∷ xs) x
contains_later y x xs c = (suc c.0, omega (arith, c.1), c.2)

pub found : {X : Type 0} (p : X → Bool) (xs : List X) (x : X) → find p xs ≡ Some x → (p x ≡ true) × Contains xs x
found p [] x e = absurd (none_some e)
  where
    none_some : None ≡ Some x → ⊥
    none_some h = cc
found p (y ∷ xs) x e =
    elim (cases_Bool (p y)) [
      | inl t ↦
          let h : Some y ≡ Some x = sym (ap (λ (b : Bool). cond b (Some y) (find p xs)) t) ∙ e in
          let same : y ≡ x = cc in
          (sym (ap p same) ∙ t, (0, omega arith, same))
      | inr f ↦
          let h : find p xs ≡ Some x = sym (ap (λ (b : Bool). cond b (Some y) (find p xs)) f) ∙ e in
          let r = found p xs x h in
          (r.0, contains_later y x xs r.1)
    ]

pub not_found : {X : Type 0} (p : X → Bool) (xs : List X) → find p xs ≡ None → list_any p xs ≡ false
not_found p [] e = refl
not_found p (y ∷ xs) e =
    elim (cases_Bool (p y)) [
      | inl t ↦ let h : Some y ≡ None = sym (ap (λ (b : Bool). cond b (Some y) (find p xs)) t) ∙ e in cc
      | inr f ↦ or_from (p y) (list_any p xs) f (not_found p xs (sym (ap (λ (b : Bool). cond b (Some y)
          (find p xs)) f) ∙ e))
    ]

pub some_passes : {X : Type 0} (p : X → Bool) (xs : List X) (x : X) → Contains xs x → p x ≡ true → list_any p xs ≡ true
some_passes p xs x c e = list_any_at p xs c.0 x c.1 (ap p c.2 ∙ e)
