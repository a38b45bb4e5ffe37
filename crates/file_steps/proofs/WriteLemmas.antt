-- Steps on files in a row, whatever the link and the clock are.
use Rattle.std.proofs.Common.{◌≡◌, ℕ, ◌+◌, ◌<◌, ◌≤◌, List, [], ◌∷◌, ◌++◌, refl, sym, ap, ◌∙◌, subst, take, drop, length, get_or, flat_map, Result, Ok, Err, OnOk, IfErr, true, false, ◌==◌, zero, suc, arith}
use Rattle.std.proofs.lemmas.List.{append-nil, take_more, take_all, drop_more, take-append-drop}
use Rattle.std.proofs.lemmas.List.Concat.{flat_map-append}
use Rattle.colo_base.specs.Shelf.{ShelfState}
use Rattle.file_steps.specs.declared.fault.Fault.{Fault}
use Rattle.file_steps.specs.declared.fault.Fault.TheVariants.{NoMemory}
use Rattle.file_steps.specs.Steps.{Step, append, append_step, nothing, outside, Writes, FailsToWrite}
use Rattle.file_steps.proofs.PartLemmas.{done_none, done_then, fails_front, fails_then, no_memory}

pub writes_none : (out : List ℕ) (s : ShelfState) → Writes out [] s s
writes_none out s = λ l k. done_none out (outside s l k)

pub writes_then : (out : List ℕ) (xs ys : List Step) (a b c : ShelfState) → Writes out xs a b → Writes out ys b c
    → Writes out (xs ++ ys) a c
writes_then out xs ys a b c first second = λ l k.
    done_then out xs ys nothing nothing (outside a l k) (outside b l k) (outside c l k) (first l k) (second l k)

-- what was written, and then a failure
pub write_fails_then : (out : List ℕ) (xs ys : List Step) (a b c : ShelfState) (fault : Fault) → Writes out xs a b
    → FailsToWrite out ys b c fault → FailsToWrite out (xs ++ ys) a c fault
write_fails_then out xs ys a b c fault first fails = λ l k.
    fails_then out xs ys nothing nothing (outside a l k) (outside b l k) (outside c l k) fault (first l k) (fails l k)

-- a failure, and what was to come
pub write_fails_front : (out : List ℕ) (xs ys : List Step) (a b : ShelfState) (fault : Fault)
    → FailsToWrite out xs a b fault → FailsToWrite out (xs ++ ys) a b fault
write_fails_front out xs ys a b fault fails = λ l k.
    fails_front out xs ys nothing (outside a l k) (outside b l k) fault (fails l k)

-- memory was refused before the first of the steps
pub write_no_memory : (out : List ℕ) (steps : List Step) (s : ShelfState) → FailsToWrite out steps s s NoMemory
write_no_memory out steps s = λ l k. no_memory out steps (outside s l k)

-- ---- a last call, whose answer is the whole's

module _ (r : Result Unit Fault) (out : List ℕ) (xs ys : List Step) (a b c : ShelfState)
    (first : Writes out xs a b) where
  pub ok_then : OnOk r (Writes out ys b c) → OnOk r (Writes out (xs ++ ys) a c)
  ok_then done = by r done
    where
      by : (r : Result Unit Fault) → OnOk r (Writes out ys b c) → OnOk r (Writes out (xs ++ ys) a c)
      by (Ok x) done = writes_then out xs ys a b c first done
      by (Err fault) done = tt

  pub err_then : IfErr r (FailsToWrite out ys b c) → IfErr r (FailsToWrite out (xs ++ ys) a c)
  err_then fails = by r fails
    where
      by : (r : Result Unit Fault) → IfErr r (FailsToWrite out ys b c) → IfErr r (FailsToWrite out (xs ++ ys) a c)
      by (Ok x) fails = tt
      by (Err fault) fails = write_fails_then out xs ys a b c fault first fails

-- ---- steps of each of a list of things

module _ {T : Type 0} (out : List ℕ) (f : T → List Step) (xs : List T) (k : ℕ) (x : T) (is : x ≡ get_or xs k x)
    (a b c : ShelfState) (inside : k < length xs) (made : Writes out (flat_map f (take k xs)) a b) where
  more : flat_map f (take (k + 1) xs) ≡ flat_map f (take k xs) ++ f x
  more =
      ap (λ l. flat_map f l) (take_more xs k x inside)
      ∙ (flat_map-append f (take k xs) (get_or xs k x ∷ [])
      ∙ ap (λ l. flat_map f (take k xs) ++ l) (append-nil (f (get_or xs k x)) ∙ ap f (sym is)))

  split : flat_map f xs ≡ flat_map f (take k xs) ++ (f x ++ flat_map f (drop (k + 1) xs))
  split =
      ap (λ l. flat_map f l) (sym (take-append-drop k xs) ∙ ap (λ l. take k xs ++ l) (drop_more xs k x inside))
      ∙ (flat_map-append f (take k xs) (get_or xs k x ∷ drop (k + 1) xs)
      ∙ ap (λ y. flat_map f (take k xs) ++ (f y ++ flat_map f (drop (k + 1) xs))) (sym is))

  pub each_next : Writes out (f x) b c → Writes out (flat_map f (take (k + 1) xs)) a c
  each_next next =
      subst (λ (steps : List Step). Writes out steps a c) (sym more)
      (writes_then out (flat_map f (take k xs)) (f x) a b c made next)

  pub each_fails : (fault : Fault) → FailsToWrite out (f x) b c fault → FailsToWrite out (flat_map f xs) a c fault
  each_fails fault fails =
      subst (λ (steps : List Step). FailsToWrite out steps a c fault) (sym split)
      (write_fails_then out (flat_map f (take k xs)) (f x ++ flat_map f (drop (k + 1) xs)) a b c fault made
      (write_fails_front out (f x) (flat_map f (drop (k + 1) xs)) b c fault fails))

pub each_all : {T : Type 0} (out : List ℕ) (f : T → List Step) (xs : List T) (k : ℕ) (a b : ShelfState)
    → length xs ≤ k → Writes out (flat_map f (take k xs)) a b → Writes out (flat_map f xs) a b
each_all {T} out f xs k a b enough made =
    subst (λ (l : List T). Writes out (flat_map f l) a b) (take_all k xs enough) made

-- what stands at a place doesn't depend on what stands past the end
pub at_place : {T : Type 0} (xs : List T) (k : ℕ) (d e : T) → k < length xs → get_or xs k d ≡ get_or xs k e
at_place [] k d e inside = absurd (omega arith)
at_place (x ∷ xs) zero d e inside = refl
at_place (x ∷ xs) (suc k) d e inside = at_place xs k d e (omega arith)

-- ---- an append of nothing is no step

pub append_some : (end bytes : List ℕ) → (length bytes == 0) ≡ false → append end bytes ∷ [] ≡ append_step end bytes
append_some end [] e = let p : true ≡ false = e in cc
append_some end (byte ∷ bytes) e = refl
