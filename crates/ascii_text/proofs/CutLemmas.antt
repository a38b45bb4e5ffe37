-- Where a text is cut.
use Rattle.std.proofs.Common.{◌≡◌, ◌≢◌, ℕ, zero, suc, ◌<◌, List, [], ◌∷◌, ◌++◌, All, length, get_or, take, drop, Option, Some, None, MatchOption, eq-eqb, refl, sym, ap, ◌∙◌, inl, inr, arith}
use Rattle.std.proofs.lemmas.Bool.{ne_eqb, cases_eq}
use Rattle.std.proofs.lemmas.List.Elements.{All-nil, All-cons}
use Rattle.ascii_text.specs.Cuts.{Halves, cut, with_front}

-- the byte at index i is the first
pub cut_at : (c : ℕ) (xs : List ℕ) (i : ℕ) → ((k : ℕ) → k < i → get_or xs k 0 ≡ c → ⊥) → i < length xs →
    get_or xs i 0 ≡ c → cut c xs ≡ record { before = take i xs; after = Some (drop (suc i) xs) }
cut_at c [] i none inside here = absurd (omega arith)
cut_at c (x ∷ xs) zero none inside here = rw (eq-eqb x c here) refl
cut_at c (x ∷ xs) (suc i) none inside here =
    let other : (x ≡ c → ⊥) = none 0 (omega arith) in
    let rest = cut_at c xs i (λ k lt e. none (suc k) (omega arith) e) (omega arith) here in
    rw (ne_eqb x c other, rest) refl

-- there is no such byte
pub cut_none : (c : ℕ) (xs : List ℕ) → ((k : ℕ) → k < length xs → get_or xs k 0 ≡ c → ⊥) →
    cut c xs ≡ record { before = xs; after = None }
cut_none c [] none = refl
cut_none c (x ∷ xs) none =
    let other : (x ≡ c → ⊥) = none 0 (omega arith) in
    let rest = cut_none c xs (λ k lt e. none (suc k) (omega arith) e) in
    rw (ne_eqb x c other, rest) refl

-- what comes before the first such byte, by whether the text begins with it
cut_here : (c x : ℕ) (xs : List ℕ) → x ≡ c → cut c (x ∷ xs) ≡ record { before = []; after = Some xs }
cut_here c x xs e = rw (eq-eqb x c e) refl

cut_later : (c x : ℕ) (xs : List ℕ) → (x ≡ c → ⊥) → cut c (x ∷ xs) ≡ with_front x (cut c xs)
cut_later c x xs ne = rw (ne_eqb x c ne) refl

-- the parts give the text again
abbrev AreParts : ℕ → List ℕ → Halves → Type 0
AreParts c xs halves = MatchOption halves.after (halves.before ≡ xs) (λ rest. halves.before ++ (c ∷ rest) ≡ xs)

parts_more : (c x : ℕ) (xs : List ℕ) (front : List ℕ) (after : Option (List ℕ)) →
    AreParts c xs (record { before = front; after = after }) →
    AreParts c (x ∷ xs) (record { before = x ∷ front; after = after })
parts_more c x xs front None e = ap (λ (ys : List ℕ). x ∷ ys) e
parts_more c x xs front (Some rest) e = ap (λ (ys : List ℕ). x ∷ ys) e

pub cut_parts : (c : ℕ) (xs : List ℕ) → AreParts c xs (cut c xs)
cut_parts c [] = refl
cut_parts c (x ∷ xs) =
    elim (cases_eq x c) [
      | inl e ↦ rw (cut_here c x xs e) (ap (λ (y : ℕ). y ∷ xs) (sym e))
      | inr ne ↦ rw (cut_later c x xs ne) (parts_more c x xs (cut c xs).before (cut c xs).after (cut_parts c xs))
    ]

-- the byte doesn't stand in what comes before it
pub cut_apart : (c : ℕ) (xs : List ℕ) → All (λ x. x ≢ c) (cut c xs).before
cut_apart c [] = All-nil (λ x. x ≢ c)
cut_apart c (x ∷ xs) =
    elim (cases_eq x c) [
      | inl e ↦ rw (cut_here c x xs e) (All-nil (λ x. x ≢ c))
      | inr ne ↦ rw (cut_later c x xs ne) (All-cons (λ x. x ≢ c) x (cut c xs).before ne (cut_apart c xs))
    ]

-- no other two parts are so
pub cut_append : (c : ℕ) (front rest : List ℕ) → All (λ x. x ≢ c) front →
    cut c (front ++ (c ∷ rest)) ≡ record { before = front; after = Some rest }
cut_append c [] rest none = cut_here c c rest refl
cut_append c (x ∷ front) rest none = cut_later c x (front ++ (c ∷ rest)) (none 0 x (omega arith))
    ∙ ap (λ (halves : Halves). with_front x halves) (cut_append c front rest (λ k d lt. none (suc k) d (omega arith)))
