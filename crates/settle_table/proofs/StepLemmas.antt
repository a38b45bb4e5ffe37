-- Steps of loops over a list.
use Rattle.std.proofs.Common.{◌≡◌, ℕ, ◌+◌, ◌<◌, ◌≤◌, zero, suc, Bool, true, false, cond, List, [], ◌∷◌, length, take, drop, slice_get, fold, find, Option, None, Some, refl, sym, ap, ◌∙◌, arith, add-one}
use Rattle.std.specs.Map.{keys_of}
use Rattle.std.specs.Option.{option_map}
use Rattle.inet_frame.specs.declared.tuple.Tuple.{Tuple}
use Rattle.tcp_track.specs.declared.table.Entry.{Entry}

pub fold_step : {X Y : Type 0} (f : Y → X → Y) (a : Y) (xs : List X) (k : ℕ) (x : X) → slice_get xs k ≡ Some x →
    fold f a (take (suc k) xs) ≡ f (fold f a (take k xs)) x
fold_step f a [] k x e = cc
fold_step f a (y ∷ xs) zero x e = let same : y ≡ x = cc in ap (f a) same
fold_step f a (y ∷ xs) (suc k) x e = fold_step f (f a y) xs k x e

pub drop_step : {X : Type 0} (xs : List X) (k : ℕ) (x : X) → slice_get xs k ≡ Some x →
    drop k xs ≡ x ∷ drop (suc k) xs
drop_step [] k x e = cc
drop_step (y ∷ xs) zero x e = let same : y ≡ x = cc in ap (λ z. z ∷ xs) same
drop_step (y ∷ xs) (suc k) x e = drop_step xs k x e

pub take_all : {X : Type 0} (xs : List X) (k : ℕ) → length xs ≤ k → take k xs ≡ xs
take_all [] zero h = refl
take_all [] (suc k) h = refl
take_all (x ∷ xs) zero h = absurd (omega (arith, h))
take_all (x ∷ xs) (suc k) h = ap (λ ys. x ∷ ys) (take_all xs k (omega (arith, h)))

pub drop_all : {X : Type 0} (xs : List X) (k : ℕ) → length xs ≤ k → drop k xs ≡ []
drop_all [] zero h = refl
drop_all [] (suc k) h = refl
drop_all (x ∷ xs) zero h = absurd (omega (arith, h))
drop_all (x ∷ xs) (suc k) h = drop_all xs k (omega (arith, h))

-- the key of an entry stands at its place among the keys
pub key_at : (es : List (Tuple × Entry)) (k : ℕ) (t : Tuple) → option_map (λ e. e.0) (slice_get es k) ≡ Some t →
    slice_get (keys_of es) k ≡ Some t
key_at [] k t h = h
key_at (e ∷ es) zero t h = h
key_at (e ∷ es) (suc k) t h = key_at es k t h

pub no_key : (es : List (Tuple × Entry)) (k : ℕ) → k < length es → option_map (λ e. e.0) (slice_get es k) ≡ None → ⊥
no_key [] k h n = omega (arith, h)
no_key (e ∷ es) zero h n = cc
no_key (e ∷ es) (suc k) h n = no_key es k (omega (arith, h)) n

pub length-keys : (es : List (Tuple × Entry)) → length (keys_of es) ≡ length es
length-keys [] = refl
length-keys (e ∷ es) = ap suc (length-keys es)
