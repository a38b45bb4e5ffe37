-- A text is refused exactly for its first bad line.
use Rattle.std.proofs.Common.{◌≡◌, ℕ, zero, suc, ◌+◌, ◌<◌, ◌≤◌, Bool, true, false, cond, List, [], ◌∷◌, drop, Option, Some, None, Result, Ok, Err, add-one, take, refl, sym, ap, subst, ◌∙◌, inl, inr, arith}
use Rattle.std.specs.Prelude.{◌⊎◌, slice_get}
use Rattle.std.proofs.lemmas.Bool.{cases_lt, ltb-true, lt-ltb}
use Rattle.std.proofs.lemmas.List.Sums.{sum_by-cons}
use Rattle.std.proofs.lemmas.Slice.Eq.{bytes_eq-Decides}
use Rattle.rv_asm.specs.declared.fault.Why.{Why}
use Rattle.rv_asm.specs.declared.fault.Why.TheVariants.{Label}
use Rattle.rv_asm.specs.declared.places.Place.{Place}
use Rattle.rv_asm.specs.Lines.{line_of, word_count, is_named, place_from, place_of, words_at}
use Rattle.rv_asm.specs.Program.{Bad, stands_before, label_is_given, statement_words, and_later, with_before, line_words, program_from, program}
use Rattle.rv_asm.specs.Refusals.{GivesLabel, RepeatsLabel, StatementStops, IsBadLine, IsFirstBad, words_before}
use Rattle.rv_asm.proofs.OperandLemmas.{Tells, tells}
use Rattle.rv_asm.proofs.StatementLemmas.{statement_reads}

-- ---- the line at an index

abbrev words_of : List ℕ → ℕ
words_of text = word_count (line_of text).statement

pub line_at_front : (lines rest : List (List ℕ)) (i : ℕ) (text : List ℕ) → drop i lines ≡ text ∷ rest →
    (slice_get lines i ≡ Some text) × (drop (suc i) lines ≡ rest)
    × (words_before lines (suc i) ≡ words_before lines i + word_count (line_of text).statement)
line_at_front [] rest zero text e = absurd cc
line_at_front [] rest (suc i) text e = absurd cc
line_at_front (line ∷ lines) rest zero text e =
    let first : line ≡ text = cc in
    let later : lines ≡ rest = cc in
    (ap Some first, later, rw first (omega arith))
line_at_front (line ∷ lines) rest (suc i) text e =
    let inner = line_at_front lines rest i text e in
    let count = word_count (line_of line).statement in
    let more : words_before (line ∷ lines) (suc (suc i)) ≡ count + words_before lines (suc i) =
    sum_by-cons words_of line (take (suc i) lines) in
    let so_far : words_before (line ∷ lines) (suc i) ≡ count + words_before lines i =
    sum_by-cons words_of line (take i lines) in
    (inner.0, inner.1, omega (arith, inner.2, more, so_far))

no_line_past : (lines : List (List ℕ)) (i k : ℕ) (text : List ℕ) → drop i lines ≡ [] → i ≤ k →
    slice_get lines k ≡ Some text → ⊥
no_line_past [] i k text e past is = absurd cc
no_line_past (line ∷ lines) zero k text e past is = absurd cc
no_line_past (line ∷ lines) (suc i) zero text e past is = absurd (omega arith)
no_line_past (line ∷ lines) (suc i) (suc k) text e past is = no_line_past lines i k text e (omega arith) is

-- ---- the first line with a label

named : (label : Option (List ℕ)) (name : List ℕ) → is_named label name ≡ true → label ≡ Some name
named None name e = absurd cc
named (Some label) name e = ap Some ((bytes_eq-Decides label name).0 e)

not_named : (name : List ℕ) → is_named (Some name) name ≡ false → ⊥
not_named name e = let yes = (bytes_eq-Decides name name).1 refl in absurd cc

-- the place that is found is that of a line with the label
place_gives : (lines : List (List ℕ)) (line words : ℕ) (name : List ℕ) (p : Place) →
    place_from lines line words name ≡ Some p → (k : ℕ) × (p.line ≡ line + k) × GivesLabel lines k name
unfolding place_from
place_gives [] line words name p e = absurd cc
place_gives (text ∷ lines) line words name p e =
    by (is_named (line_of text).label name) refl
    (place_gives lines (line + 1) (words + word_count (line_of text).statement) name p) e
  where
    later : Option Place
    later = place_from lines (line + 1) (words + word_count (line_of text).statement) name

    by : (b : Bool) → is_named (line_of text).label name ≡ b
        → (later ≡ Some p → (k : ℕ) × (p.line ≡ line + 1 + k) × GivesLabel lines k name)
        → cond b (Some (record { line = line; words = words })) later ≡ Some p
        → (k : ℕ) × (p.line ≡ line + k) × GivesLabel (text ∷ lines) k name
    by true is below found =
        let here : Place = record { line = line; words = words } in
        let same : here ≡ p = cc in
        let at : p.line ≡ line = ap (λ (q : Place). q.line) (sym same) in
        (0, omega (arith, at), (text, refl, named (line_of text).label name is))
    by false is below found = let inner = below found in (suc inner.0, omega (arith, inner.1), inner.2)

-- where a line has the label, its place is found, and no later than there
given_place : (lines : List (List ℕ)) (line words k : ℕ) (name : List ℕ) → GivesLabel lines k name →
    (p : Place) × (place_from lines line words name ≡ Some p) × (p.line ≤ line + k)
unfolding place_from
given_place [] line words k name h = let e = h.1 in absurd cc
given_place (text ∷ lines) line words k name h =
    by (is_named (line_of text).label name) refl
    (λ j. given_place lines (line + 1) (words + word_count (line_of text).statement) j name) k h
  where
    later : Option Place
    later = place_from lines (line + 1) (words + word_count (line_of text).statement) name

    by : (b : Bool) → is_named (line_of text).label name ≡ b
        → ((k : ℕ) → GivesLabel lines k name → (p : Place) × (later ≡ Some p) × (p.line ≤ line + 1 + k))
        → (k : ℕ) → GivesLabel (text ∷ lines) k name
        → (p : Place) × (cond b (Some (record { line = line; words = words })) later ≡ Some p) × (p.line ≤ line + k)
    by true is below k h = (record { line = line; words = words }, refl, omega arith)
    by false is below zero h =
        let e = h.1 in
        let same : text ≡ h.0 = cc in
        let label : (line_of text).label ≡ Some name = ap (λ (t : List ℕ). (line_of t).label) same ∙ h.2 in
        absurd (not_named name (ap (λ (l : Option (List ℕ)). is_named l name) (sym label) ∙ is))
    by false is below (suc k) h = let inner = below k h in (inner.0, inner.1, omega (arith, inner.2))

-- ---- one line

repeats : (lines : List (List ℕ)) (i : ℕ) (text : List ℕ) → slice_get lines i ≡ Some text →
    (label_is_given (place_of lines) i (line_of text).label ≡ true → RepeatsLabel lines i)
    × (RepeatsLabel lines i → label_is_given (place_of lines) i (line_of text).label ≡ true)
repeats lines i text is = (by_label (line_of text).label refl, given)
  where
    by_place : (name : List ℕ) → (line_of text).label ≡ Some name → (o : Option Place) → place_of lines name ≡ o
        → stands_before i o ≡ true → RepeatsLabel lines i
    by_place name label None found e = absurd cc
    by_place name label (Some p) found e =
        let first = place_gives lines 0 0 name p found in
        (name, first.0, (text, is, label), omega (arith, ltb-true p.line i e, first.1), first.2)

    by_label : (l : Option (List ℕ)) → (line_of text).label ≡ l → label_is_given (place_of lines) i l ≡ true
        → RepeatsLabel lines i
    by_label None label e = absurd cc
    by_label (Some name) label e = by_place name label (place_of lines name) refl e

    given : RepeatsLabel lines i → label_is_given (place_of lines) i (line_of text).label ≡ true
    given h =
        let is_text = h.2.1 in
        let same : text ≡ h.2.0 = cc in
        let label : (line_of text).label ≡ Some h.0 = ap (λ (t : List ℕ). (line_of t).label) same ∙ h.2.2 in
        let first = given_place lines 0 0 h.1 h.0 h.4 in
        let below : first.0.line < i = omega (arith, first.2, h.3) in
        rw (label, first.1) (lt-ltb first.0.line i below)

-- what the line at an index gives fails exactly for what the relation says
line_tells : (lines : List (List ℕ)) (i here : ℕ) (text : List ℕ) → slice_get lines i ≡ Some text →
    here ≡ words_before lines i
    → Tells (line_words (place_of lines) i here text) (IsBadLine lines i)
unfolding line_words
line_tells lines i here text is before = by_label (label_is_given (place_of lines) i (line_of text).label) refl
  where
    statement_stops : (why : Why) → statement_words (words_at (place_of lines)) here (line_of text).statement ≡ Err why
        → StatementStops lines i why
    statement_stops why e = by (line_of text).statement refl e
      where
        by : (s : Option (List ℕ)) → (line_of text).statement ≡ s
            → statement_words (words_at (place_of lines)) here s ≡ Err why → StatementStops lines i why
        by None said e = absurd cc
        by (Some statement) said e = (
          text,
          statement,
          is,
          said,
          rw (sym before) ((tells (statement_reads
              (words_at (place_of lines)) here statement) why).0 e),
        )

    stops : (why : Why) → StatementStops lines i why
        → statement_words (words_at (place_of lines)) here (line_of text).statement ≡ Err why
    stops why h =
        let is_text = h.2 in
        let same : text ≡ h.0 = cc in
        let said : (line_of text).statement ≡ Some h.1 = ap (λ (t : List ℕ). (line_of t).statement) same ∙ h.3 in
        rw (said, before) ((tells (statement_reads (words_at (place_of lines)) (words_before lines i) h.1) why).1 h.4)

    by_label : (b : Bool) → label_is_given (place_of lines) i (line_of text).label ≡ b
        → Tells (cond b (Err Label) (statement_words (words_at (place_of lines)) here (line_of text).statement))
        (IsBadLine lines i)
    by_label true given why =
        let twice = (repeats lines i text is).0 given in
        (λ e. inl (twice, cc), λ h. elim h [ inl r ↦ rw r.1 refl | inr s ↦ absurd (s.0 twice) ])
    by_label false once why =
        let no : RepeatsLabel lines i → ⊥ = λ r. let yes = (repeats lines i text is).1 r in absurd cc in (
          λ e. inr (no, statement_stops why e),
          λ h. elim h [ inl r ↦ absurd (no r.0) | inr s ↦ stops why s.1 ],
        )

-- ---- the lines from an index on

abbrev FirstFrom : List (List ℕ) → ℕ → Bad → Type 0
FirstFrom lines i bad =
    (k : ℕ) × (i ≤ k) × (bad.line ≡ k + 1) × IsBadLine lines k bad.why
    × ((earlier : ℕ) (why : Why) → i ≤ earlier → earlier < k → IsBadLine lines earlier why → ⊥)

abbrev FindsFirst : List (List ℕ) → ℕ → Result (List ℕ) Bad → Type 0
FindsFirst lines i read =
    (bad : Bad) → (read ≡ Err bad → FirstFrom lines i bad) × (FirstFrom lines i bad → read ≡ Err bad)

-- an index at or after `i` is that one, or comes after it
here_or_later : (i k : ℕ) → i ≤ k → (k ≡ i) ⊎ (i + 1 ≤ k)
here_or_later i k le = elim (cases_lt i k) [ inl lt ↦ inr (omega (arith, lt)) | inr ge ↦ inl (omega (arith, ge)) ]

-- where this line is good, the first bad one is that of the later lines
later_first : (lines : List (List ℕ)) (i : ℕ) (words : List ℕ) (later : Result (List ℕ) Bad) →
    ((why : Why) → IsBadLine lines i why → ⊥) → FindsFirst lines (i + 1) later
    → FindsFirst lines i (with_before words later)
later_first lines i words later good finds bad = (by later refl, only)
  where
    by : (r : Result (List ℕ) Bad) → later ≡ r → with_before words r ≡ Err bad → FirstFrom lines i bad
    by (Ok more) is e = absurd cc
    by (Err other) is e =
        let same : other ≡ bad = cc in
        let first = (finds bad).0 (is ∙ ap (λ (b : Bad). Err b) same) in (
          first.0,
          omega (arith, first.1),
          first.2,
          first.3,
          λ earlier why from below h. elim (here_or_later i earlier from) [
            | inl same ↦ good why (subst (λ (n : ℕ). IsBadLine lines n why) same h)
            | inr after ↦ first.4 earlier why after below h
          ],
        )

    only : FirstFrom lines i bad → with_before words later ≡ Err bad
    only h = elim (here_or_later i h.0 h.1) [
      | inl same ↦ absurd (good bad.why (subst (λ (n : ℕ). IsBadLine lines n bad.why) same h.3))
      | inr after ↦ rw
          ((finds bad).1 (
            h.0,
            after,
            h.2,
            h.3,
            λ earlier why from below. h.4 earlier why (omega (arith, from)) below,
          )) refl
    ]

abbrev failed : Why → Result (List ℕ) Why
failed why = Err why

-- a bad line is the first from there on
this_first : (lines : List (List ℕ)) (i : ℕ) (why : Why) → Tells (failed why) (IsBadLine lines i)
    → FindsFirst lines i (Err (record { line = i + 1; why = why }))
this_first lines i why tells bad = (
  λ e.
      let first : Bad = record { line = i + 1; why = why } in
      let same : first ≡ bad = cc in
      subst (FirstFrom lines i) same
      (i, omega arith, refl, (tells why).0 refl, λ earlier other from below. absurd (omega (arith, from, below))),
  λ h. elim (here_or_later i h.0 h.1) [
    | inl at ↦
        let read = (tells bad.why).1 (subst (λ (n : ℕ). IsBadLine lines n bad.why) at h.3) in
        let same : why ≡ bad.why = cc in
        let line : bad.line ≡ i + 1 = h.2 ∙ ap (λ (n : ℕ). n + 1) at in
        rw (same, sym line) refl
    | inr after ↦ absurd (h.4 i why (omega arith) (omega (arith, after)) ((tells why).0 refl))
  ],
)

this_or_later : (lines : List (List ℕ)) (i : ℕ) (this : Result (List ℕ) Why) (later : Result (List ℕ) Bad)
    → Tells this (IsBadLine lines i) → FindsFirst lines (i + 1) later
    → FindsFirst lines i (and_later this (i + 1) later)
this_or_later lines i (Err why) later tells finds = this_first lines i why tells
this_or_later lines i (Ok words) later tells finds =
    later_first lines i words later (λ why h. let read = (tells why).1 h in absurd cc) finds

lines_tell : (lines rest : List (List ℕ)) (i here : ℕ) → drop i lines ≡ rest → here ≡ words_before lines i →
    FindsFirst lines i (program_from (place_of lines) rest i here)
unfolding program_from
lines_tell lines [] i here rests before = λ bad. (
  λ e. absurd cc,
  λ h. elim h.3 [
    | inl r ↦ absurd (no_line_past lines i h.0 r.0.2.0 rests h.1 r.0.2.1)
    | inr s ↦ absurd (no_line_past lines i h.0 s.1.0 rests h.1 s.1.2)
  ],
)
lines_tell lines (text ∷ rest) i here rests before =
    let front = line_at_front lines rest i text rests in
    let after : ℕ = here + word_count (line_of text).statement in
    let rests_after : drop (i + 1) lines ≡ rest = ap (λ (n : ℕ). drop n lines) (add-one i) ∙ front.1 in
    let before_after : after ≡ words_before lines (i + 1) = ap (λ (n : ℕ). n + word_count (line_of text).statement)
    before ∙ (sym front.2 ∙ ap (words_before lines) (sym (add-one i))) in
    this_or_later lines i (line_words (place_of lines) i here text) (program_from (place_of lines) rest (i + 1) after)
    (line_tells lines i here text front.0 before) (lines_tell lines rest (i + 1) after rests_after before_after)

pub first_bad_found : (lines : List (List ℕ)) (bad : Bad) →
    (program lines ≡ Err bad → IsFirstBad lines bad) × (IsFirstBad lines bad → program lines ≡ Err bad)
unfolding program
first_bad_found lines bad =
    let finds = lines_tell lines lines 0 0 refl refl bad in (
      λ e.
          let first = finds.0 e in
          record {
            index = first.0;
            line = first.2;
            is_bad = first.3;
            none_before = λ earlier why below. first.4 earlier why (omega arith) below;
          },
      λ h. finds.1 (h.index, omega arith, h.line, h.is_bad, λ earlier why from below. h.none_before earlier why below),
    )
