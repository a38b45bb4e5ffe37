-- Frames that are added to a list.
use Rattle.std.proofs.Common.{◌≡◌, ℕ, ◌+◌, suc, Bool, true, false, ◌==◌, List, [], ◌∷◌, ◌++◌, length, map, append_assoc, refl, sym, ap, ◌∙◌, arith, length-append}
use Rattle.std.proofs.lemmas.Bool.{eqb-true, eq-eqb}
use Rattle.std.proofs.lemmas.List.{map-append}
use Rattle.settle_rules.specs.Release.{Released, released_frame}
use Rattle.settle_rules.specs.Settle.{is_empty}
use Rattle.shared_definitions.specs.Begins.{Begins}

-- nothing was added exactly where the list is as long as before
pub nothing_added : (old : List (List ℕ)) (xs : List Released) (new : List (List ℕ)) →
    new ≡ old ++ map released_frame xs → (length new == length old) ≡ is_empty xs
nothing_added old [] new e = eq-eqb (length new) (length old) (omega (
  arith,
  ap length e,
  length-append old (map released_frame []),
))
nothing_added old (x ∷ xs) new e = by (length new == length old) refl
  where
    by : (b : Bool) → (length new == length old) ≡ b → b ≡ false
    by true p = absurd (omega (
      arith,
      eqb-true (length new) (length old) p,
      ap length e,
      length-append old (map released_frame (x ∷ xs)),
    ))
    by false p = refl

-- two lists added one after the other
pub added_twice : (old mid new : List (List ℕ)) (xs ys : List Released) → mid ≡ old ++ map released_frame xs →
    new ≡ mid ++ map released_frame ys → new ≡ old ++ map released_frame (xs ++ ys)
added_twice old mid new xs ys e f = f ∙ (ap (λ (zs : List (List ℕ)). zs ++ map released_frame ys) e
    ∙ (append_assoc old (map released_frame xs) (map released_frame ys)
    ∙ ap (λ (zs : List (List ℕ)). old ++ zs) (sym (map-append released_frame xs ys))))

pub begins_more : (old mid new : List (List ℕ)) (xs : List Released) → mid ≡ old ++ map released_frame xs →
    Begins mid new → Begins old new
begins_more old mid new xs e h = (
  map released_frame xs ++ h.0,
  h.1 ∙ (ap (λ (zs : List (List ℕ)). zs ++ h.0) e ∙ append_assoc old (map released_frame xs) h.0),
)

pub begins_same : (old new : List (List ℕ)) → new ≡ old → Begins old new
begins_same old new e = ([], e ∙ sym (append_nil old))
  where
    append_nil : (xs : List (List ℕ)) → xs ++ [] ≡ xs
    append_nil [] = refl
    append_nil (x ∷ xs) = ap (λ (ys : List (List ℕ)). x ∷ ys) (append_nil xs)
