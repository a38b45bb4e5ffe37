-- A survivor's lines are untrimmed past their ends.
use Rattle.std.proofs.Common.{◌≡◌, ◌⊎◌, inl, inr, ℕ, ◌≤◌, Bool, true, false, ◌||◌, is_some, List, [], ◌∷◌, fold, Option, None, Some, refl, sym, ap, subst, ◌∙◌, true≢false, arith, unwrap_or}
use Rattle.std.specs.List.{list_any}
use Rattle.std.specs.Map.{keys_of}
use Rattle.std.specs.Option.{option_map}
use Rattle.inet_frame.specs.declared.tuple.Tuple.{Tuple}
use Rattle.tcp_track.specs.LineFields.{LineFields, end_of}
use Rattle.tcp_track.specs.Segments.{same_tuple}
use Rattle.tcp_track.specs.Tracking.{Tracking, line_at, entry_of}
use Rattle.tcp_track.specs.declared.openings.Opening.{Opening}
use Rattle.tcp_track.specs.declared.table.Entry.{Entry}
use Rattle.tcp_track.proofs.TupleLemmas.{same_tuple-eq, is_some-lookup}
use Rattle.seq_rewriter.specs.Kept.{KeptNumbers, keep_number, number_of}
use Rattle.line_release.specs.Whole.{whole_of}
use Rattle.settle_rules.specs.Progress.{Progress}
use Rattle.settle_rules.specs.Survive.{lone_lines, survivor_progress}
use Rattle.line_match.specs.Untrimmed.{IsUntrimmed}
use Rattle.line_settle.proofs.EndLemmas.{length_of_line}
use Rattle.settle_table.specs.Table.{progress_at, set_progress, AreUntrimmed}
use Rattle.settle_table.proofs.TableLemmas.{progress_at-set_same, progress_at-set_other}
use Rattle.out_compare.specs.Surviving.{Surviving, survive_with, survive_found, survive_tuple, add_tuple, survive_tuples, survive}

-- the line of a tuple is untrimmed past its edge
abbrev IsGood : Tracking → Surviving → Tuple → Type 0
IsGood lines x t = (l : LineFields) → line_at lines t ≡ Some l → IsUntrimmed l (progress_at x.progress t).edge

some_same : (l m : LineFields) → Some l ≡ Some m → l ≡ m
some_same l m e = cc

-- a line that is released is untrimmed past its end
made_good : (x : Surviving) (t : Tuple) (l : LineFields) (o : Option Opening) → l.opening ≡ o →
    IsUntrimmed l (progress_at (survive_with x t l o).progress t).edge
made_good x t l None p = λ q. absurd (true≢false (sym q ∙ ap is_some p))
made_good x t l (Some o) p =
    let numbers = keep_number x.numbers t o.client o.own in
    let b = lone_lines t (whole_of l) (unwrap_or (number_of numbers t o.client) 0) in
    λ q. omega (
      arith,
      ap (λ (r : Progress). r.edge) (progress_at-set_same x.progress t (survivor_progress b o)),
      length_of_line l q,
    )

kept_good : (x : Surviving) (t u : Tuple) (m : LineFields) (o : Option Opening) → same_tuple t u ≡ false →
    (progress_at (survive_with x u m o).progress t).edge ≡ (progress_at x.progress t).edge
kept_good x t u m None other = refl
kept_good x t u m (Some o) other =
    let numbers = keep_number x.numbers u o.client o.own in
    let b = lone_lines u (whole_of m) (unwrap_or (number_of numbers u o.client) 0) in
    ap (λ (r : Progress). r.edge) (progress_at-set_other x.progress t u (survivor_progress b o) other)

found_made : (lines : Tracking) (x : Surviving) (t : Tuple) (o : Option LineFields) → line_at lines t ≡ o →
    (l : LineFields) → line_at lines t ≡ Some l → IsUntrimmed l (progress_at (survive_found x t o).progress t).edge
found_made lines x t None p l at = cc (p, at)
found_made lines x t (Some m) p l at =
    let same : m ≡ l = some_same m l (sym p ∙ at) in
    subst (λ (k : LineFields). IsUntrimmed k (progress_at (survive_found x t (Some m)).progress t).edge) same
    (made_good x t m
    m.opening refl)

found_kept : (x : Surviving) (t u : Tuple) (o : Option LineFields) → same_tuple t u ≡ false →
    (progress_at (survive_found x u o).progress t).edge ≡ (progress_at x.progress t).edge
found_kept x t u None other = refl
found_kept x t u (Some m) other = kept_good x t u m m.opening other

step_makes : (lines : Tracking) (x : Surviving) (t : Tuple) → IsGood lines (add_tuple lines x t) t
unfolding survive_tuple
step_makes lines x t l at = found_made lines x t (line_at lines t) refl l at

step_pick : (lines : Tracking) (x : Surviving) (t u : Tuple) → IsGood lines x t → (b : Bool) → same_tuple t u ≡ b →
    IsGood lines (add_tuple lines x u) t
unfolding survive_tuple
step_pick lines x t u h true p =
    subst (λ (v : Tuple). IsGood lines (add_tuple lines x v) t) (same_tuple-eq t u p) (step_makes lines x t)
step_pick lines x t u h false p = λ l at o.
    let low = h l at o in
    let same = found_kept x t u (line_at lines u) p in
    omega (arith, low, same)

step_keeps : (lines : Tracking) (x : Surviving) (t u : Tuple) → IsGood lines x t → IsGood lines (add_tuple lines x u) t
unfolding survive_tuple
step_keeps lines x t u h = step_pick lines x t u h (same_tuple t u) refl

fold_keeps : (lines : Tracking) (us : List Tuple) (x : Surviving) (t : Tuple) → IsGood lines x t →
    IsGood lines (fold (add_tuple lines) x us) t
fold_keeps lines [] x t h = h
fold_keeps lines (u ∷ us) x t h = fold_keeps lines us (add_tuple lines x u) t (step_keeps lines x t u h)

fold_makes : (lines : Tracking) (us : List Tuple) (x : Surviving) (t : Tuple) → list_any (same_tuple t) us ≡ true →
    IsGood lines (fold (add_tuple lines) x us) t
fold_makes lines [] x t h = absurd (true≢false (sym h))
fold_makes lines (u ∷ us) x t h = by (same_tuple t u) refl (fold_makes lines us (add_tuple lines x u) t) h
  where
    by : (b : Bool) → same_tuple t u ≡ b → (list_any (same_tuple t) us ≡ true →
        IsGood lines (fold (add_tuple lines) (add_tuple lines x u) us) t) → (b || list_any (same_tuple t) us) ≡ true →
        IsGood lines (fold (add_tuple lines) (add_tuple lines x u) us) t
    by true p more h = fold_keeps lines us (add_tuple lines x u) t (subst (λ (v : Tuple). IsGood lines
        (add_tuple lines x v) t) (same_tuple-eq t u p) (step_makes lines x t))
    by false p more h = more h

found_some : (o : Option Entry) (l : LineFields) → option_map (λ (e : Entry). e.line) o ≡ Some l → is_some o ≡ true
found_some None l e = cc
found_some (Some x) l e = refl

pub survivor_untrimmed : (lines : Tracking) (numbers : KeptNumbers)
    → AreUntrimmed lines (survive lines numbers).progress
unfolding survive
survivor_untrimmed lines numbers = λ t l at. fold_makes lines (keys_of lines.entries) (record {
  numbers = numbers;
  progress = [];
  out = [];
}) t (sym (is_some-lookup t lines.entries) ∙ found_some (entry_of lines.entries t) l at) l at

-- what was released so far changes nothing
with_apart : (x : Surviving) (t : Tuple) (l : LineFields) (o : Option Opening) →
    survive_with x t l o ≡ survive_with (record x { out = [] }) t l o
with_apart x t l None = refl
with_apart x t l (Some o) = refl

found_apart : (x : Surviving) (t : Tuple) (o : Option LineFields) →
    survive_found x t o ≡ survive_found (record x { out = [] }) t o
found_apart x t None = refl
found_apart x t (Some l) = with_apart x t l l.opening

pub tuple_apart : (lines : Tracking) (x : Surviving) (t : Tuple) →
    survive_tuple lines x t ≡ survive_tuple lines (record x { out = [] }) t
unfolding survive_tuple
tuple_apart lines x t = found_apart x t (line_at lines t)
