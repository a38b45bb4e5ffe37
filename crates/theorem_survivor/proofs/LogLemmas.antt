-- A history of a schedule with at most one stop is the history of its lines, of which there is at most one stop; so
-- what holds of each log with at most one stop holds of each history.
use Rattle.std.proofs.Common.{◌≡◌, Bool, true, false, not, ◌&&◌, ◌||◌, List, [], ◌∷◌, ◌++◌, refl, sym, ap, subst, ◌∙◌, true≢false}
use Rattle.std.proofs.Math.Bool.{or-false}
use Rattle.std.specs.List.{list_any}
use Rattle.std.proofs.lemmas.Bool.{and_from, and_parts}
use Rattle.std.proofs.lemmas.List.Folds.{list_any-append}
use Rattle.replay_log.specs.declared.lines.Line.{Line}
use Rattle.pair_theorem.specs.Events.{outcome_of}
use Rattle.pair_theorem.specs.History.{pair_log, past_at, past_from, steps_from}
use Rattle.pair_theorem.specs.Log.{HasOneStop, is_report, is_stop, stops_fit}
use Rattle.pair_theorem.specs.Past.{Past, Start, Step, first_past}
use Rattle.pair_theorem.proofs.EachHistory.{Fits, Reached, begins, goes, is_stopped, stop_facts}
use Rattle.pair_theorem.proofs.EachLog.{past_is}
use Rattle.pair_theorem.proofs.HistoryLemmas.{pair_log-append, past_from-append}

-- ONE LINE MORE
or_together : (a b c : Bool) → ((a || b) || c) ≡ (a || (b || c))
or_together true b c = refl
or_together false b c = refl

-- a line that may come after these lines, from a past with a stop or a report, or with none
record MayCome (stopped reported : Bool) (xs : List Line) (x : Line) : Type 0 where
  stop : is_stop x ≡ true → (stopped || list_any is_stop xs) ≡ false
  before : is_report x ≡ true → (stopped || list_any is_stop xs) ≡ true
  report : is_report x ≡ true → (reported || list_any is_report xs) ≡ false

fits_push : (s r : Bool) (xs : List Line) (x : Line) → stops_fit s r xs ≡ true → MayCome s r xs x
    → stops_fit s r (xs ++ x ∷ []) ≡ true
fits_push s r [] x h m = by (is_stop x) (is_report x) s r m.stop m.before m.report
  where
    by : (b c s r : Bool) → (b ≡ true → (s || false) ≡ false) → (c ≡ true → (s || false) ≡ true)
        → (c ≡ true → (r || false) ≡ false) → (not (b && s) && (not (c && (r || not s)) && true)) ≡ true
    by true c true r h g k = absurd (true≢false (h refl))
    by true true false r h g k = absurd (true≢false (sym (g refl)))
    by true false false r h g k = refl
    by false true true true h g k = absurd (true≢false (k refl))
    by false true true false h g k = refl
    by false true false r h g k = absurd (true≢false (sym (g refl)))
    by false false s r h g k = refl
fits_push s r (y ∷ xs) x h m =
    let rest = stops_fit (s || is_stop y) (r || is_report y) xs in
    let first = and_parts (not (is_stop y && s)) (not (is_report y && (r || not s)) && rest) h in
    let second = and_parts (not (is_report y && (r || not s))) rest first.1 in
    let stops = or_together s (is_stop y) (list_any is_stop xs) in
    let reports = or_together r (is_report y) (list_any is_report xs) in
    let later = fits_push (s || is_stop y) (r || is_report y) xs x second.1 (record {
      stop = λ e. stops ∙ m.stop e;
      before = λ e. stops ∙ m.before e;
      report = λ e. reports ∙ m.report e;
    }) in
    and_from (not (is_stop y && s)) _ first.0 (and_from (not (is_report y && (r || not s))) _ second.0 later)

-- THE LINES OF A HISTORY
record IsLogOfOneStop (a : Start) (steps : List Step) (past : Past) : Type 0 where
  lines : List Line
  fits : stops_fit false false lines ≡ true
  stopped : list_any is_stop lines ≡ is_stopped past.stop
  reported : list_any is_report lines ≡ past.is_reported
  steps_are : steps ≡ pair_log a lines
  past_is : past ≡ past_from a.kind a.stream (first_past a) lines

any_push : (p : Line → Bool) (xs : List Line) (x : Line) → list_any p (xs ++ x ∷ []) ≡ (list_any p xs || p x)
any_push p xs x = list_any-append p xs (x ∷ []) ∙ ap (λ (b : Bool). list_any p xs || b) (or-false (p x))

one_stop : (a : Start) (steps : List Step) (past : Past) → Reached Fits a steps past → IsLogOfOneStop a steps past
unfolding pair_log past_from steps_from
one_stop a steps past begins =
    record { lines = []; fits = refl; stopped = refl; reported = refl; steps_are = refl; past_is = refl }
one_stop a steps past (goes before old x h fits) =
    let so_far = one_stop a before old h in
    let lines = so_far.lines in
    let facts = stop_facts a.kind a.stream old x in
    record {
      lines = lines ++ x ∷ [];
      fits = fits_push false false lines x so_far.fits (record {
        stop = λ e. so_far.stopped ∙ fits.stop e;
        before = λ e. so_far.stopped ∙ fits.stopped e;
        report = λ e. so_far.reported ∙ fits.report e;
      });
      stopped = any_push is_stop lines x
          ∙ (ap (λ (b : Bool). b || is_stop x) so_far.stopped ∙ sym facts.stop);
      reported = any_push is_report lines x
          ∙ (ap (λ (b : Bool). b || is_report x) so_far.reported ∙ sym facts.report);
      steps_are = (λ i. so_far.steps_are i ++ (outcome_of a.kind a.stream (so_far.past_is i) x).step ∷ [])
          ∙ sym (pair_log-append a lines (x ∷ []));
      past_is = ap (λ (p : Past). (outcome_of a.kind a.stream p x).after) so_far.past_is
          ∙ sym (past_from-append a.kind a.stream (first_past a) lines (x ∷ []));
    }

pub of_each_log : (a : Start) (I : List Step → Past → Type 0)
    → ((lines : List Line) → HasOneStop lines → I (pair_log a lines) (past_at a (pair_log a lines)))
    → (steps : List Step) (past : Past) → Reached Fits a steps past → I steps past
of_each_log a I each steps past h =
    let of = one_stop a steps past h in
    subst (λ (x : List Step × Past). I x.0 x.1)
    (λ i. (sym of.steps_are i, (past_is a of.lines ∙ sym of.past_is) i)) (each of.lines of.fits)
