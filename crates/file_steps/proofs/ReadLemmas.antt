-- Files read one after the other.
use Rattle.std.proofs.Common.{◌≡◌, ℕ, ◌+◌, ◌<◌, IsTrue, IsSome, List, [], ◌∷◌, ◌++◌, Option, Some, inl, inr, refl, sym, ap, ◌∙◌, subst, take, drop, length, get_or, map}
use Rattle.colo_base.specs.Count.{Increased}
use Rattle.colo_base.specs.Shelf.{ShelfState}
use Rattle.colo_base.proofs.StateLemmas.{changes_none, changes_then, increased_before}
use Rattle.file_steps.specs.declared.fault.Fault.{Fault}
use Rattle.file_steps.specs.declared.fault.Fault.TheVariants.{Usage, Refused, Read, Write, NoMemory}
use Rattle.file_steps.specs.Reading.{AreRead, FetchFailed, IsUntouched, ReadFails}
use Rattle.std.proofs.lemmas.List.{map-append, take_more, drop_more, take-append-drop}

pub untouched_none : (s : ShelfState) → IsUntouched s s
untouched_none s = record { files = changes_none (λ name. ⊥) s; fetches = λ name. refl; writes = λ name. refl }

pub untouched_then : (a b c : ShelfState) → IsUntouched a b → IsUntouched b c → IsUntouched a c
untouched_then a b c first second = record {
  files = changes_then (λ name. ⊥) a b c first.files second.files;
  fetches = λ name. second.fetches name ∙ first.fetches name;
  writes = λ name. second.writes name ∙ first.writes name;
}

are_more : (s : ShelfState) (names texts : List (List ℕ)) (name text : List ℕ) → AreRead s names texts
    → (IsTrue s.observable → s.contents name ≡ Some text) → AreRead s (names ++ name ∷ []) (texts ++ text ∷ [])
are_more s [] [] name text are is = (is, tt)
are_more s [] (t ∷ texts) name text are is = absurd are
are_more s (n ∷ names) [] name text are is = absurd are
are_more s (n ∷ names) (t ∷ texts) name text are is = (are.0, are_more s names texts name text are.1 is)

some : (o : Option (List ℕ)) (bytes : List ℕ) → o ≡ Some bytes → IsSome o
some o bytes e = rw e refl

fetch_more : (a b : ShelfState) (names texts rest : List (List ℕ)) (name : List ℕ) → AreRead a names texts
    → Increased (a.fetch_faults name) (b.fetch_faults name) → FetchFailed (names ++ (name ∷ rest)) a b
fetch_more a b [] texts rest name are rose = inl rose
fetch_more a b (n ∷ names) [] rest name are rose = absurd are
fetch_more a b (n ∷ names) (t ∷ texts) rest name are rose =
    inr (λ seen. some (a.contents n) t (are.0 seen), fetch_more a b names texts rest name are.1 rose)

module _ {T : Type 0} (f : T → List ℕ) (xs : List T) (k : ℕ) (x : T) (is : x ≡ get_or xs k x) (inside : k < length xs)
    (a b c : ShelfState) (texts : List (List ℕ)) (are : AreRead a (map f (take k xs)) texts)
    (kept : IsUntouched a b) where
  more : map f (take (k + 1) xs) ≡ map f (take k xs) ++ f x ∷ []
  more =
      ap (λ l. map f l) (take_more xs k x inside)
      ∙ (map-append f (take k xs) (get_or xs k x ∷ []) ∙ ap (λ y. map f (take k xs) ++ f y ∷ []) (sym is))

  split : map f xs ≡ map f (take k xs) ++ (f x ∷ map f (drop (k + 1) xs))
  split =
      ap (λ l. map f l) (sym (take-append-drop k xs) ∙ ap (λ l. take k xs ++ l) (drop_more xs k x inside))
      ∙ (map-append f (take k xs) (get_or xs k x ∷ drop (k + 1) xs)
      ∙ ap (λ y. map f (take k xs) ++ (f y ∷ map f (drop (k + 1) xs))) (sym is))

  -- this file was read too
  pub read_next : (now : List (List ℕ)) → (text : List ℕ) × (now ≡ texts ++ text ∷ [])
      × (IsTrue b.observable → b.contents (f x) ≡ Some text) → IsUntouched b c
      → AreRead a (map f (take (k + 1) xs)) now × IsUntouched a c
  read_next now (text, now_is, has) then = (
    subst (λ (l : List (List ℕ)). AreRead a l now) (sym more)
        (subst (λ (l : List (List ℕ)). AreRead a (map f (take k xs) ++ f x ∷ []) l) (sym now_is)
        (are_more a (map f (take k xs)) texts (f x) text are
        (λ seen. sym (kept.files.others seen (f x) (λ none. none)) ∙ has (kept.files.observable ∙ seen)))),
    untouched_then a b c kept then,
  )

  -- or its fetch failed, or memory was refused
  pub read_fails : (fault : Fault) → ReadFails (f x ∷ []) b c fault → ReadFails (map f xs) a c fault
  read_fails Usage none = none
  read_fails (Refused refusal) none = none
  read_fails Read failed = record {
    failed = subst (λ (l : List (List ℕ)). FetchFailed l a c) (sym split) (fetch_more a c (map f (take k xs)) texts
        (map f (drop (k + 1) xs)) (f x) are (rose failed.failed));
    files = changes_then (λ name. ⊥) a b c kept.files failed.files;
    writes = λ name. failed.writes name ∙ kept.writes name;
  }
    where
      rose : FetchFailed (f x ∷ []) b c → Increased (a.fetch_faults (f x)) (c.fetch_faults (f x))
      rose (inl up) =
          increased_before (a.fetch_faults (f x)) (b.fetch_faults (f x)) (c.fetch_faults (f x))
          (kept.files.fetch_faults (f x)) up
      rose (inr (there, none)) = absurd none
  read_fails Write none = none
  read_fails NoMemory files = changes_then (λ name. ⊥) a b c kept.files files
