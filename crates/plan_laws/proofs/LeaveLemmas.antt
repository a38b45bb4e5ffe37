-- What steps that create no file leave: each file is followed by what is appended to it.
use Rattle.std.proofs.Common.{◌≡◌, ℕ, Bool, true, false, List, [], ◌∷◌, ◌++◌, Option, Some, unwrap_or, flat_map, if◌then◌else◌, refl, sym, ap, ◌∙◌, append_assoc}
use Rattle.std.specs.Str.{bytes_eq}
use Rattle.std.proofs.lemmas.List.{append-nil}
use Rattle.std.proofs.lemmas.List.Concat.{flat_map-append}
use Rattle.std.proofs.lemmas.List.Sums.{fold-append}
use Rattle.file_steps.specs.Steps.{Files, Step, after_step, after_steps, append, append_step, connect, create, hear, read_clock, send}

-- ---- what is appended to a file

abbrev pub appended_by : List ℕ → Step → List ℕ
appended_by end (append e bytes) = if bytes_eq end e then bytes else []
appended_by end _ = []

abbrev pub appended : List ℕ → List Step → List ℕ
appended end steps = flat_map (appended_by end) steps

abbrev pub CreatesNone : List Step → Type 0
CreatesNone [] = Unit {0}
CreatesNone (create end ∷ steps) = ⊥
CreatesNone (s ∷ steps) = CreatesNone steps

-- a file that is there is followed by it
pub after_appends : (files : Files) (steps : List Step) (end bytes : List ℕ) → CreatesNone steps
    → files end ≡ Some bytes → after_steps files steps end ≡ Some (bytes ++ appended end steps)
after_appends files [] end bytes none is = is ∙ ap (λ (l : List ℕ). Some l) (sym (append-nil bytes))
after_appends files (create e ∷ steps) end bytes none is = absurd none
after_appends files (append e more ∷ steps) end bytes none is =
    go (bytes_eq end e) refl
    (λ b there. after_appends (after_step files (append e more)) steps end b none there)
  where
    go : (t : Bool) → bytes_eq end e ≡ t
        → ((b : List ℕ) → after_step files (append e more) end ≡ Some b
        → after_steps (after_step files (append e more)) steps end ≡ Some (b ++ appended end steps))
        → after_steps files (append e more ∷ steps) end ≡ Some (bytes ++ appended end (append e more ∷ steps))
    go true same rest =
        let there : after_step files (append e more) end ≡ Some (bytes ++ more) =
        rw same (ap (λ (o : Option (List ℕ)). Some (unwrap_or o [] ++ more)) is) in
        rest (bytes ++ more) there
        ∙ rw same (ap (λ (l : List ℕ). Some l) (append_assoc bytes more (appended end steps)))
    go false same rest =
        let there : after_step files (append e more) end ≡ Some bytes = rw same is in
        rest bytes there ∙ rw same refl
after_appends files (connect address ∷ steps) end bytes none is = after_appends files steps end bytes none is
after_appends files (hear room ∷ steps) end bytes none is = after_appends files steps end bytes none is
after_appends files (read_clock ∷ steps) end bytes none is = after_appends files steps end bytes none is
after_appends files (send more ∷ steps) end bytes none is = after_appends files steps end bytes none is

-- ---- of steps in a row

pub none_then : (xs ys : List Step) → CreatesNone xs → CreatesNone ys → CreatesNone (xs ++ ys)
none_then [] ys a b = b
none_then (create end ∷ xs) ys a b = absurd a
none_then (append end bytes ∷ xs) ys a b = none_then xs ys a b
none_then (connect address ∷ xs) ys a b = none_then xs ys a b
none_then (hear room ∷ xs) ys a b = none_then xs ys a b
none_then (read_clock ∷ xs) ys a b = none_then xs ys a b
none_then (send bytes ∷ xs) ys a b = none_then xs ys a b

pub none_each : {T : Type 0} (f : T → List Step) (xs : List T) → ((x : T) → CreatesNone (f x))
    → CreatesNone (flat_map f xs)
none_each f [] none = tt
none_each f (x ∷ xs) none = none_then (f x) (flat_map f xs) (none x) (none_each f xs none)

pub none_append : (end bytes : List ℕ) → CreatesNone (append_step end bytes)
none_append end [] = tt
none_append end (byte ∷ bytes) = tt

pub appended_then : (end : List ℕ) (xs ys : List Step) → appended end (xs ++ ys) ≡ appended end xs ++ appended end ys
appended_then end xs ys = flat_map-append (appended_by end) xs ys

pub appended_each : {T : Type 0} (end : List ℕ) (f : T → List Step) (g : T → List ℕ) (xs : List T)
    → ((x : T) → appended end (f x) ≡ g x) → appended end (flat_map f xs) ≡ flat_map g xs
appended_each end f g [] same = refl
appended_each end f g (x ∷ xs) same =
    appended_then end (f x) (flat_map f xs)
    ∙ (ap (λ (l : List ℕ). l ++ appended end (flat_map f xs)) (same x)
    ∙ ap (λ (l : List ℕ). g x ++ l) (appended_each end f g xs same))

pub appended_one : (end e bytes : List ℕ)
    → appended end (append_step e bytes) ≡ (if bytes_eq end e then bytes else [])
appended_one end e [] = by (bytes_eq end e) []
  where
    by : (t : Bool) (none : List ℕ) → none ≡ (if t then none else none)
    by true none = refl
    by false none = refl
appended_one end e (byte ∷ bytes) = append-nil (if bytes_eq end e then byte ∷ bytes else [])

-- after what was created
pub after_creates : (files : Files) (xs ys : List Step) (end : List ℕ) → CreatesNone ys
    → after_steps files xs end ≡ Some [] → after_steps files (xs ++ ys) end ≡ Some (appended end ys)
after_creates files xs ys end none is =
    ap (λ (f : Files). f end) (fold-append after_step files xs ys)
    ∙ after_appends (after_steps files xs) ys end [] none is
