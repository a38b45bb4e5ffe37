-- The values of a table, changed one after the other from the first on.
use Rattle.std.proofs.Common.{◌≡◌, ℕ, zero, suc, List, [], ◌∷◌, length, map, slice_get, Some, refl, sym, ap}
use Rattle.std.specs.Map.{values_of}
use Rattle.indexmap.specs.IndexMap.{set_value_at}
use Rattle.inet_frame.specs.declared.tuple.Tuple.{Tuple}
use Rattle.tcp_track.specs.declared.table.Entry.{Entry}

-- the first k values are changed
abbrev pub change_first : {X : Type 0} → (X → X) → ℕ → List (Tuple × X) → List (Tuple × X)
change_first f zero es = es
change_first f (suc k) [] = []
change_first f (suc k) (e ∷ es) = (e.0, f e.1) ∷ change_first f k es

pub length-change_first : {X : Type 0} (f : X → X) (k : ℕ) (es : List (Tuple × X)) →
    length (change_first f k es) ≡ length es
length-change_first f zero es = refl
length-change_first f (suc k) [] = refl
length-change_first f (suc k) (e ∷ es) = ap suc (length-change_first f k es)

pub change_first-all : {X : Type 0} (f : X → X) (es : List (Tuple × X)) →
    change_first f (length es) es ≡ map (λ (e : Tuple × X). (e.0, f e.1)) es
change_first-all f [] = refl
change_first-all {X = X} f (e ∷ es) = ap (λ (xs : List (Tuple × X)). (e.0, f e.1) ∷ xs) (change_first-all f es)

-- the value after those that are changed is set
pub change_first-suc : {X : Type 0} (f : X → X) (k : ℕ) (es : List (Tuple × X)) (x : X) →
    slice_get (values_of (change_first f k es)) k ≡ Some x →
    set_value_at (change_first f k es) k (f x) ≡ change_first f (suc k) es
change_first-suc f zero [] x h = refl
change_first-suc {X = X} f zero (e ∷ es) x h =
    let same : e.1 ≡ x = cc in ap (λ (y : X). (e.0, f y) ∷ es) (sym same)
change_first-suc f (suc k) [] x h = refl
change_first-suc {X = X} f (suc k) (e ∷ es) x h =
    ap (λ (xs : List (Tuple × X)). (e.0, f e.1) ∷ xs) (change_first-suc f k es x h)

-- the value of a tuple at a commit
abbrev pub note_commit : Entry → Entry
note_commit x = record x { at_commit = x.line.opening }
