-- Bad lines: what is wrong with a line after those before it, and the first bad line of a text.
use Rattle.std.specs.Prelude.{◌≡◌, ℕ, ◌+◌, Bool, true, false, not, ◌&&◌, ◌||◌, ◌==◌, List, [], ◌∷◌, ◌++◌, Option, Some, None, length}
use Rattle.std.specs.List.{list_any}
use Rattle.std.specs.Str.{bytes_eq}
use Rattle.shared_definitions.specs.FirstOf.{first_of}
use Rattle.replay_log.specs.Forms.{places_of}
use Rattle.replay_log.specs.Keywords.{keyword_text}
use Rattle.replay_log.specs.Places.{fit_all, are_read}
use Rattle.replay_log.specs.Rows.{Row, words_of, rows_of}
use Rattle.replay_log.specs.declared.causes.LineFault.{LineFault}
use Rattle.replay_log.specs.declared.causes.LineFault.TheVariants as fault
use Rattle.replay_log.specs.declared.causes.LineWhy.{LineWhy}
use Rattle.replay_log.specs.declared.causes.LineWhy.TheVariants.{Word, Count, Number, SecondStop, FalseReport}
use Rattle.replay_log.specs.declared.forms.Form.{Form}
use Rattle.replay_log.specs.declared.judging.Before.{Before}
use Rattle.replay_log.specs.declared.keywords.Keyword.{Keyword}
use Rattle.replay_log.specs.declared.keywords.Keyword.TheVariants.{Mark, Stop, Report}

-- ---- one form

-- each word that stands at the place of a fixed word is that word
abbrev pub form_fits : List (List ℕ) → Form → Bool
form_fits words form = fit_all (places_of form) words

-- and there are so many words
abbrev pub form_counts : List (List ℕ) → Form → Bool
form_counts words form = form_fits words form && (length (places_of form) == length words)

-- and each number is good
abbrev pub form_reads : List (List ℕ) → Form → Bool
form_reads words form = form_counts words form && are_read (places_of form) words

-- ---- one line, given what the rules on marks, stops and reports ask of the lines before it

abbrev pub begins_with : Keyword → List (List ℕ) → Bool
begins_with keyword [] = false
begins_with keyword (word ∷ words) = bytes_eq word (keyword_text keyword)

-- of the lines of these words: whether there is one, whether one is a stop, and whether one is a
-- report
abbrev pub before_of : List (List (List ℕ)) → Before
before_of earlier =
    record {
      any = not (length earlier == 0);
      stopped = list_any (begins_with Stop) earlier;
      reported = list_any (begins_with Report) earlier;
    }

-- of these lines and one more
abbrev pub before_with : Before → List (List ℕ) → Before
before_with before words =
    record {
      any = true;
      stopped = before.stopped || begins_with Stop words;
      reported = before.reported || begins_with Report words;
    }

-- a mark that follows no event
abbrev pub is_early_mark : Before → List (List ℕ) → Bool
is_early_mark before words = not before.any && begins_with Mark words

abbrev pub is_second_stop : Before → List (List ℕ) → Bool
is_second_stop before words = before.stopped && begins_with Stop words

-- a report with no stop before it, or after another report
abbrev pub is_false_report : Before → List (List ℕ) → Bool
is_false_report before words = (not before.stopped || before.reported) && begins_with Report words

-- the first case that holds
unfoldable pub case_of : List Form → Before → List (List ℕ) → Bool → Option LineWhy
case_of forms before words is_ended =
    first_of (
    (Word, is_early_mark before words || not (list_any (form_fits words) forms))
    ∷ (Count, not is_ended || not (list_any (form_counts words) forms))
    ∷ (Number, not (list_any (form_reads words) forms))
    ∷ (SecondStop, is_second_stop before words)
    ∷ (FalseReport, is_false_report before words)
    ∷ []
    )

-- ---- a text

-- a bad line, counted from 1, and its first case
pub record BadLine : Type 0 where
  pub line : ℕ
  pub why : LineWhy

abbrev pub bad_at : ℕ → Option LineWhy → Option BadLine → Option BadLine
bad_at line (Some why) later = Some (record { line = line; why = why })
bad_at line None later = later

-- the first bad line of what follows the lines of these words
abbrev pub first_bad_after : List Form → List (List (List ℕ)) → List Row → Option BadLine
first_bad_after forms earlier [] = None
first_bad_after forms earlier (row ∷ rows) =
    let words = words_of row.content in
    bad_at (length earlier + 1) (case_of forms (before_of earlier) words row.is_ended)
    (first_bad_after forms (earlier ++ words ∷ []) rows)

unfoldable pub first_bad : List Form → List ℕ → Option BadLine
first_bad forms text = first_bad_after forms [] (rows_of text)

-- what a fault says of the first bad line; of running out of memory nothing is said
abbrev pub IsFault : LineFault → Option BadLine → Type 0
IsFault (fault.Bad line why) bad = bad ≡ Some (record { line = line; why = why })
IsFault fault.NoMemory bad = Unit {0}

-- whether each line stands after those before it as the rules on marks, stops and reports say
abbrev pub stands_after : Before → List (List ℕ) → Bool
stands_after before words = not (is_early_mark before words)
    && (not (is_second_stop before words) && not (is_false_report before words))

abbrev pub are_in_order : List (List (List ℕ)) → List (List (List ℕ)) → Bool
are_in_order earlier [] = true
are_in_order earlier (words ∷ lines) = stands_after (before_of earlier) words
    && are_in_order (earlier ++ words ∷ []) lines
