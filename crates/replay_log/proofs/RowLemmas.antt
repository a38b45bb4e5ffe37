-- A text's lines, cut off one by one.
use Rattle.std.proofs.Common.{◌≡◌, ℕ, ◌<◌, ◌==◌, cond, true, false, List, [], ◌∷◌, ◌++◌, Option, Some, None, length, refl, sym, ap, ◌∙◌, arith, length-append}
use Rattle.std.specs.List.{slice_split, onto_first}
use Rattle.std.proofs.lemmas.Bool.{ne_eqb}
use Rattle.ascii_text.specs.Cuts.{Halves, cut, with_front}
use Rattle.ascii_text.proofs.CutLemmas.{cut_parts}
use Rattle.shared_definitions.specs.Ascii.{newline}
use Rattle.replay_log.specs.Rows.{rows_of, rows_of_parts}

abbrev more_parts : ℕ → Option (List ℕ) → List (List ℕ)
more_parts at None = []
more_parts at (Some rest) = slice_split (λ byte. byte == at) rest

abbrev parts : ℕ → Halves → List (List ℕ)
parts at halves = halves.before ∷ more_parts at halves.after

-- the parts of a text are what stands before its first such byte, and those of the rest
split_cut : (at : ℕ) (text : List ℕ) → slice_split (λ byte. byte == at) text ≡ parts at (cut at text)
split_cut at [] = refl
split_cut at (x ∷ xs) =
    elim (x == at) as (λ v.
    cond v ([] ∷ slice_split (λ byte. byte == at) xs) (onto_first x (slice_split (λ byte. byte == at) xs))
    ≡ parts at (cond v (record { before = []; after = Some xs }) (with_front x (cut at xs)))) [
      | true ↦ refl
      | false ↦ ap (onto_first x) (split_cut at xs)
    ]

pub row_ended : (text content rest : List ℕ) → content ≡ (cut newline text).before →
    Some rest ≡ (cut newline text).after →
    rows_of text ≡ record { content = content; is_ended = true } ∷ rows_of rest
unfolding rows_of
row_ended text content rest b e =
    rw (split_cut newline text, ← e, split_cut newline rest) (ap (λ
    (front : List ℕ). record { content = front; is_ended = true }
    ∷ rows_of_parts (parts newline (cut newline rest))) (sym b))

pub ended_text : (text content rest : List ℕ) → content ≡ (cut newline text).before →
    Some rest ≡ (cut newline text).after →
    text ≡ content ++ (newline ∷ rest)
ended_text text content rest b e =
    rw b (sym (rw (← e) at (cut_parts newline text)))

pub last_text : (text content : List ℕ) → content ≡ (cut newline text).before → None ≡ (cut newline text).after →
    content ≡ text
last_text text content b e = b ∙ (rw (← e) at (cut_parts newline text))

pub ended_shorter : (text content rest : List ℕ) → text ≡ content ++ (newline ∷ rest) → length rest < length text
ended_shorter text content rest e = omega (arith, ap length e, length-append content (newline ∷ rest))

pub rows_none : rows_of [] ≡ []
unfolding rows_of
rows_none = refl

pub row_last : (text content : List ℕ) → 0 < length text → content ≡ (cut newline text).before →
    None ≡ (cut newline text).after →
    rows_of text ≡ record { content = content; is_ended = false } ∷ rows_of []
unfolding rows_of
row_last text content some b e =
    let same : content ≡ text = last_text text content b e in
    rw (split_cut newline text, ← e, ← b, ne_eqb (length content) 0 (omega (arith, ap length same))) refl
