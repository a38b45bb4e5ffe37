-- What steps leave alone.
use Rattle.std.proofs.Common.{◌≡◌, ℕ, Bool, true, false, IsTrue, List, [], ◌∷◌, ◌++◌, Option, Some, None, inl, inr, refl, sym, ap, ◌∙◌, subst, if◌then◌else◌}
use Rattle.std.specs.Str.{bytes_eq}
use Rattle.std.specs.Cmp.Lexicographic.{same_text, other_text}
use Rattle.colo_base.specs.Shelf.{ChangesOnly}
use Rattle.file_steps.specs.Ending.{IsFileOf}
use Rattle.file_steps.specs.Steps.{Step, create, append, connect, hear, read_clock, send, Said, Outside, Files, files_of, after_step, after_steps, Carried, IsPartOf, IsFront}

steps_keep : (out : List ℕ) (f : Files) (steps : List Step) (end : List ℕ) → (IsFileOf out steps (out ++ end) → ⊥)
    → after_steps f steps end ≡ f end
steps_keep out f [] end other = refl
steps_keep out f (create e ∷ steps) end other =
    steps_keep out (after_step f (create e)) steps end (λ later. other (inr later)) ∙ by (bytes_eq end e) refl
  where
    by : (t : Bool) → bytes_eq end e ≡ t → (if bytes_eq end e then Some [] else f end) ≡ f end
    by true is = absurd (other (inl (ap (λ x. out ++ x) (same_text end e (sym is)))))
    by false is = rw is refl
steps_keep out f (append e bytes ∷ steps) end other =
    steps_keep out (after_step f (append e bytes)) steps end (λ later. other (inr later)) ∙ by (bytes_eq end e) refl
  where
    by : (t : Bool) → bytes_eq end e ≡ t → after_step f (append e bytes) end ≡ f end
    by true is = absurd (other (inl (ap (λ x. out ++ x) (same_text end e (sym is)))))
    by false is = rw is refl
steps_keep out f (connect address ∷ steps) end other = steps_keep out f steps end other
steps_keep out f (hear room ∷ steps) end other = steps_keep out f steps end other
steps_keep out f (read_clock ∷ steps) end other = steps_keep out f steps end other
steps_keep out f (send bytes ∷ steps) end other = steps_keep out f steps end other

-- ---- a name begins with OUT, or it doesn't

strip : List ℕ → List ℕ → Option (List ℕ)
strip [] name = Some name
strip (x ∷ out) [] = None
strip (x ∷ out) (y ∷ name) = if bytes_eq (x ∷ []) (y ∷ []) then strip out name else None

strip_named : (out end : List ℕ) → strip out (out ++ end) ≡ Some end
unfolding strip
strip_named [] end = refl
strip_named (x ∷ out) end = go (bytes_eq (x ∷ []) (x ∷ [])) refl (strip_named out end)
  where
    go : (t : Bool) → bytes_eq (x ∷ []) (x ∷ []) ≡ t → strip out (out ++ end) ≡ Some end
        → (if bytes_eq (x ∷ []) (x ∷ []) then strip out (out ++ end) else None) ≡ Some end
    go true e rest = rw e rest
    go false e rest = absurd (other_text (x ∷ []) (x ∷ []) (sym e) refl)

is_named : (out name end : List ℕ) → strip out name ≡ Some end → name ≡ out ++ end
unfolding strip
is_named [] name end e = let p : Some name ≡ Some end = e in cc
is_named (x ∷ out) [] end e = let p : None ≡ Some end = e in cc
is_named (x ∷ out) (y ∷ name) end e = go (bytes_eq (x ∷ []) (y ∷ [])) refl e (is_named out name end)
  where
    go : (t : Bool) → bytes_eq (x ∷ []) (y ∷ []) ≡ t → (if bytes_eq (x ∷ []) (y ∷ []) then strip out name else None)
        ≡ Some end → (strip out name ≡ Some end → name ≡ out ++ end) → y ∷ name ≡ x ∷ (out ++ end)
    go true same p f =
        let rest = f (let q : strip out name ≡ Some end = rw same at p in q) in
        ap (λ l. l ++ name) (sym (same_text (x ∷ []) (y ∷ []) (sym same))) ∙ ap (λ l. x ∷ l) rest
    go false same p f = let q : None ≡ Some end = rw same at p in cc

-- no other file changes
pub only_written : (out : List ℕ) (steps : List Step) (said : Said) (old new : Outside)
    → Carried out steps said old new → ChangesOnly (IsFileOf out steps) old.shelf new.shelf
only_written out steps said old new c = record {
  observable = c.change.observable;
  fetch_faults = c.change.fetch_faults;
  write_faults = c.change.write_faults;
  others = λ seen name other. by seen name other (strip out name) refl;
}
  where
    by : IsTrue old.shelf.observable → (name : List ℕ) → (IsFileOf out steps name → ⊥) → (o : Option (List ℕ))
        → strip out name ≡ o → new.shelf.contents name ≡ old.shelf.contents name
    by seen name other None e =
        c.change.others seen name
        (λ (end, is). let p : None ≡ Some end = sym e ∙ (ap (strip out) is ∙ strip_named out end) in cc)
    by seen name other (Some end) e =
        let is = is_named out name end e in
        let apart : IsFileOf out steps (out ++ end) → ⊥ = subst (λ (n : List ℕ). IsFileOf out steps n → ⊥) is other in
        subst (λ (n : List ℕ). new.shelf.contents n ≡ old.shelf.contents n) (sym is)
        (c.files seen end ∙ steps_keep out (files_of old.shelf out) steps end apart)

-- ---- of a part of steps

files_front : (out name : List ℕ) (xs ys zs : List Step) → (IsFileOf out ys name → IsFileOf out zs name)
    → IsFileOf out (xs ++ ys) name → IsFileOf out (xs ++ zs) name
files_front out name [] ys zs f p = f p
files_front out name (create e ∷ xs) ys zs f (inl is) = inl is
files_front out name (create e ∷ xs) ys zs f (inr p) = inr (files_front out name xs ys zs f p)
files_front out name (append e bytes ∷ xs) ys zs f (inl is) = inl is
files_front out name (append e bytes ∷ xs) ys zs f (inr p) = inr (files_front out name xs ys zs f p)
files_front out name (connect address ∷ xs) ys zs f p = files_front out name xs ys zs f p
files_front out name (hear room ∷ xs) ys zs f p = files_front out name xs ys zs f p
files_front out name (read_clock ∷ xs) ys zs f p = files_front out name xs ys zs f p
files_front out name (send bytes ∷ xs) ys zs f p = files_front out name xs ys zs f p

no_file : (out name : List ℕ) (steps part : List Step) → part ≡ [] → IsFileOf out part name → IsFileOf out steps name
no_file out name steps part none p = absurd (subst (λ (l : List Step). IsFileOf out l name) none p)

files_part : (out name : List ℕ) (rest part : List Step) → IsPartOf rest part → IsFileOf out part name
    → IsFileOf out rest name
files_part out name [] part next p = no_file out name [] part next p
files_part out name (create e ∷ rest) part (inl none) p = no_file out name (create e ∷ rest) part none p
files_part out name (create e ∷ rest) part (inr one) p =
    at (subst (λ (l : List Step). IsFileOf out l name) one p)
  where
    at : IsFileOf out (create e ∷ []) name → IsFileOf out (create e ∷ rest) name
    at (inl is) = inl is
    at (inr none) = absurd none
files_part out name (append e bytes ∷ rest) part (inl none) p = no_file out name (append e bytes ∷ rest) part none p
files_part out name (append e bytes ∷ rest) part (inr (front, begins, one)) p =
    at (subst (λ (l : List Step). IsFileOf out l name) one p)
  where
    at : IsFileOf out (append e front ∷ []) name → IsFileOf out (append e bytes ∷ rest) name
    at (inl is) = inl is
    at (inr none) = absurd none
files_part out name (connect address ∷ rest) part none p = no_file out name (connect address ∷ rest) part none p
files_part out name (hear room ∷ rest) part none p = no_file out name (hear room ∷ rest) part none p
files_part out name (read_clock ∷ rest) part none p = no_file out name (read_clock ∷ rest) part none p
files_part out name (send bytes ∷ rest) part (inl none) p = no_file out name (send bytes ∷ rest) part none p
files_part out name (send bytes ∷ rest) part (inr (front, begins, one)) p =
    absurd (subst (λ (l : List Step). IsFileOf out l name) one p)

-- the files of what was made are files of the steps
pub files_of_front : (out name : List ℕ) (steps made rest : List Step) → IsFront steps made rest
    → IsFileOf out made name → IsFileOf out steps name
files_of_front out name steps made rest f p =
    subst (λ (l : List Step). IsFileOf out l name) (sym f.place)
    (files_front out name f.done f.part rest (files_part out name rest f.part f.next)
    (subst (λ (l : List Step). IsFileOf out l name) f.made_is p))
