-- The turns of the single run as a fold are those by positions of marks, for every log.
use Rattle.std.proofs.Common.{◌≡◌, ℕ, ◌==◌, if◌then◌else◌, Bool, true, false, List, [], ◌∷◌, Some, ◌++◌, append-nil, append_assoc, reverse, fold, find, refl, sym, ap, ap₂, ◌∙◌}
use Rattle.std.proofs.lemmas.List.{reverse-append, reverse-reverse}
use Rattle.replay_log.specs.declared.records.Record.{Record}
use Rattle.splice_run.specs.Single.{Cut, no_cut, turns_of, turns_at, cut_after, cut_of, primary_turns, secondary_turns, taken_turns, turns_by_primary, before_capture, spliced_turns, turns_by_marks}
use Rattle.splice_run.specs.Log.{has_primary_stop}
use Rattle.splice_run.specs.Tokens.{Taken, Token, by_primary, by_secondary, captures, commits, tokens}

-- the fold, read back from the end
abbrev pub cut_back : List Token → Cut
cut_back [] = no_cut
cut_back (t ∷ back) = cut_after (cut_back back) t

turns_append : (xs ys : List Token) → turns_by_primary (xs ++ ys) ≡ turns_by_primary xs ++ turns_by_primary ys
turns_append [] ys = refl
turns_append (by_primary t ∷ xs) ys = ap (λ (ts : List Taken). t ∷ ts) (turns_append xs ys)
turns_append (by_secondary _ ∷ xs) ys = turns_append xs ys
turns_append (captures _ ∷ xs) ys = turns_append xs ys
turns_append (commits _ ∷ xs) ys = turns_append xs ys

reverse_is : (t : Token) (back : List Token) → reverse (t ∷ back) ≡ reverse back ++ t ∷ []
reverse_is t back = reverse-append (t ∷ []) back

pub one_more : (t : Token) (back : List Token)
    → turns_by_primary (reverse back) ++ turns_by_primary (t ∷ []) ≡ turns_by_primary (reverse (t ∷ back))
one_more t back =
    sym (turns_append (reverse back) (t ∷ []))
    ∙ ap (λ (ts : List Token). turns_by_primary ts) (sym (reverse_is t back))

pub none_more : (t : Token) (back : List Token) → turns_by_primary (t ∷ []) ≡ []
    → turns_by_primary (reverse back) ≡ turns_by_primary (reverse (t ∷ back))
none_more t back e =
    sym (append-nil (turns_by_primary (reverse back)))
    ∙ (ap (λ (ts : List Taken). turns_by_primary (reverse back) ++ ts) (sym e) ∙ one_more t back)

primary_is : (back : List Token) → (cut_back back).primary ≡ turns_by_primary (reverse back)
primary_is [] = refl
primary_is (by_primary t ∷ back) =
    ap (λ (ts : List Taken). ts ++ t ∷ []) (primary_is back) ∙ one_more (by_primary t) back
primary_is (by_secondary t ∷ back) = primary_is back ∙ none_more (by_secondary t) back refl
primary_is (captures e ∷ back) = primary_is back ∙ none_more (captures e) back refl
primary_is (commits e ∷ back) = primary_is back ∙ none_more (commits e) back refl

at_capture : (b : Bool) (n e : ℕ) (back : List Token)
    → turns_at e (cut_back back).copies ≡ turns_by_primary (reverse (before_capture e back))
    → turns_of (if b then Some (n, (cut_back back).primary) else find (λ c. c.0 == e) (cut_back back).copies)
    ≡ turns_by_primary (reverse (if b then back else before_capture e back))
at_capture true n e back h = primary_is back
at_capture false n e back h = h

copies_are : (e : ℕ) (back : List Token)
    → turns_at e (cut_back back).copies ≡ turns_by_primary (reverse (before_capture e back))
copies_are e [] = refl
copies_are e (by_primary _ ∷ back) = copies_are e back
copies_are e (by_secondary _ ∷ back) = copies_are e back
copies_are e (captures n ∷ back) = at_capture (n == e) n e back (copies_are e back)
copies_are e (commits _ ∷ back) = copies_are e back

secondary_is : (back : List Token) → (cut_back back).secondary ≡ spliced_turns back
secondary_is [] = refl
secondary_is (by_primary _ ∷ back) = secondary_is back
secondary_is (by_secondary t ∷ back) = ap (λ (ts : List Taken). ts ++ t ∷ []) (secondary_is back)
secondary_is (captures _ ∷ back) = secondary_is back
secondary_is (commits e ∷ back) = copies_are e back

back_is : (back ts : List Token) → fold cut_after (cut_back back) ts ≡ cut_back (reverse ts ++ back)
back_is back [] = refl
back_is back (t ∷ ts) =
    back_is (t ∷ back) ts
    ∙ ap (λ (xs : List Token). cut_back xs)
    (sym (append_assoc (reverse ts) (t ∷ []) back) ∙ ap (λ (xs : List Token). xs ++ back) (sym (reverse_is t ts)))

cut_is : (ts : List Token) → cut_of ts ≡ cut_back (reverse ts)
cut_is ts = back_is [] ts ∙ ap (λ (xs : List Token). cut_back xs) (append-nil (reverse ts))

-- the equation that a reader believes
pub taken_turns_are : (log : List Record) → taken_turns log ≡ turns_by_marks log
unfolding taken_turns turns_by_marks primary_turns secondary_turns
taken_turns_are log =
    ap₂ (λ (x y : List Taken). if has_primary_stop log then x else y)
    (ap (λ (c : Cut). c.secondary) (cut_is (tokens log)) ∙ secondary_is (reverse (tokens log)))
    (ap (λ (c : Cut). c.primary) (cut_is (tokens log))
    ∙ (primary_is (reverse (tokens log))
    ∙ ap (λ (ts : List Token). turns_by_primary ts) (reverse-reverse (tokens log))))
