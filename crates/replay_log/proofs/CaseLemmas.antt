-- The first case of a line, from what its tests gave.
use Rattle.std.proofs.Common.{◌≡◌, ℕ, Bool, true, false, not, cond, ◌&&◌, List, Option, Some, None, refl, find}
use Rattle.std.specs.List.{list_any}
use Rattle.std.proofs.lemmas.Bool.{or_parts, not-false, not_from_false, and_from}
use Rattle.replay_log.proofs.FoundLemmas.{found, not_found, some_passes}
use Rattle.replay_log.specs.Cases.{case_of, form_fits, form_counts, form_reads, is_early_mark, is_second_stop, is_false_report, stands_after}
use Rattle.replay_log.specs.declared.causes.LineWhy.{LineWhy}
use Rattle.replay_log.specs.declared.causes.LineWhy.TheVariants.{Number, SecondStop, FalseReport}
use Rattle.replay_log.specs.declared.forms.Form.{Form}
use Rattle.replay_log.specs.declared.judging.Before.{Before}

-- neither `Word` nor `Count` holds
pub record IsCounted (forms : List Form) (before : Before) (words : List (List ℕ)) (is_ended : Bool) : Type 0 where
  pub early : is_early_mark before words ≡ false
  pub fits : list_any (form_fits words) forms ≡ true
  pub ended : is_ended ≡ true
  pub counts : list_any (form_counts words) forms ≡ true

pub bad_number : (forms : List Form) (before : Before) (words : List (List ℕ)) (is_ended : Bool) →
    IsCounted forms before words is_ended →
    find (form_reads words) forms ≡ None → case_of forms before words is_ended ≡ Some Number
unfolding case_of
bad_number forms before words is_ended h e = rw (
  h.early,
  h.fits,
  h.ended,
  h.counts,
  not_found
      (form_reads words) forms e,
) refl

reads : (forms : List Form) (words : List (List ℕ)) (form : Form) → find (form_reads words) forms ≡ Some form →
    list_any (form_reads words) forms ≡ true
reads forms words form e =
    let r = found (form_reads words) forms form e in some_passes (form_reads words) forms form r.1 r.0

pub bad_stop : (forms : List Form) (before : Before) (words : List (List ℕ)) (is_ended : Bool) (form : Form) →
    IsCounted forms before words is_ended →
    find (form_reads words) forms ≡ Some form → is_second_stop before words ≡ true →
    case_of forms before words is_ended ≡ Some SecondStop
unfolding case_of
bad_stop forms before words is_ended form h e stop =
    rw (h.early, h.fits, h.ended, h.counts, reads forms words form e, stop) refl

pub bad_report : (forms : List Form) (before : Before) (words : List (List ℕ)) (is_ended : Bool) (form : Form) →
    IsCounted forms before words is_ended →
    find (form_reads words) forms ≡ Some form → is_second_stop before words ≡ false →
    is_false_report before words ≡ true →
    case_of forms before words is_ended ≡ Some FalseReport
unfolding case_of
bad_report forms before words is_ended form h e stop report =
    rw (h.early, h.fits, h.ended, h.counts, reads forms words form e, stop, report) refl

pub no_case_by : (forms : List Form) (before : Before) (words : List (List ℕ)) (is_ended : Bool) →
    IsCounted forms before words is_ended →
    list_any (form_reads words) forms ≡ true → is_second_stop before words ≡ false →
    is_false_report before words ≡ false →
    case_of forms before words is_ended ≡ None
unfolding case_of
no_case_by forms before words is_ended h e stop report = rw (h.early, h.fits, h.ended, h.counts, e, stop, report) refl

pub no_case : (forms : List Form) (before : Before) (words : List (List ℕ)) (is_ended : Bool) (form : Form) →
    IsCounted forms before words is_ended →
    find (form_reads words) forms ≡ Some form → is_second_stop before words ≡ false →
    is_false_report before words ≡ false →
    case_of forms before words is_ended ≡ None
no_case forms before words is_ended form h e stop report = no_case_by forms before words is_ended h
    (reads forms words form e) stop report

-- ---- from no case to the tests

skip : (b : Bool) (why : LineWhy) (later : Option LineWhy) → cond b (Some why) later ≡ None →
    (b ≡ false) × (later ≡ None)
skip true why later e = absurd (some_none e)
  where
    some_none : Some why ≡ None → ⊥
    some_none h = cc
skip false why later e = (refl, e)

pub record IsGood (forms : List Form) (before : Before) (words : List (List ℕ)) (is_ended : Bool) : Type 0 where
  pub ended : is_ended ≡ true
  pub order : stands_after before words ≡ true

pub good_line : (forms : List Form) (before : Before) (words : List (List ℕ)) (is_ended : Bool) →
    case_of forms before words is_ended ≡ None →
    IsGood forms before words is_ended
unfolding case_of
good_line forms before words is_ended e =
    let word = skip _ _ _ e in
    let count = skip _ _ _ word.1 in
    let number = skip _ _ _ count.1 in
    let stop = skip _ _ _ number.1 in
    let report = skip _ _ _ stop.1 in
    record {
      ended = not-false is_ended (or_parts (not is_ended) (not (list_any (form_counts words) forms)) count.0).0;
      order =
          and_from (not (is_early_mark before words)) (not (is_second_stop before words)
          && not (is_false_report before words))
          (not_from_false _ (or_parts (is_early_mark before words) (not (list_any (form_fits words) forms)) word.0).0)
          (and_from (not (is_second_stop before words)) (not (is_false_report before words))
          (not_from_false _ stop.0) (not_from_false _ report.0));
    }
