-- A schedule has at most one stop, and at most one report, which comes after it.
use Rattle.std.proofs.Common.{◌≡◌, ℕ, Bool, true, false, not, ◌&&◌, ◌||◌, List, [], ◌∷◌, ◌++◌, map, refl, sym, ap, ◌∙◌}
use Rattle.std.specs.List.{list_any}
use Rattle.std.proofs.Math.Bool.{or-false}
use Rattle.std.proofs.lemmas.Bool.{and_parts}
use Rattle.std.proofs.lemmas.List.Folds.{list_any-append}
use Rattle.replay_log.specs.Cases.{are_in_order, before_of, begins_with, is_early_mark, is_false_report, is_second_stop, stands_after}
use Rattle.replay_log.specs.Items.{item_words}
use Rattle.replay_log.specs.Texts.{IsSchedule}
use Rattle.replay_log.specs.declared.items.Item.TheVariants as item
use Rattle.replay_log.specs.declared.keywords.Keyword.TheVariants.{Report as report_word, Stop as stop_word}
use Rattle.replay_log.specs.declared.lines.Line.{Line}
use Rattle.replay_log.specs.declared.lines.Line.TheVariants.{Primary, Secondary, Client, ToSecondary, ToPrimary, StopPrimary, StopSecondary, Report, Ask}
use Rattle.pair_theorem.specs.Log.{HasOneStop, is_report, is_stop, stops_fit}

abbrev words_of : Line → List (List ℕ)
words_of line = item_words (item.Line line)

stop_words : (line : Line) → begins_with stop_word (words_of line) ≡ is_stop line
stop_words (Primary d i b n) = refl
stop_words (Secondary d i b n) = refl
stop_words Client = refl
stop_words ToSecondary = refl
stop_words ToPrimary = refl
stop_words StopPrimary = refl
stop_words StopSecondary = refl
stop_words Report = refl
stop_words Ask = refl

report_words : (line : Line) → begins_with report_word (words_of line) ≡ is_report line
report_words (Primary d i b n) = refl
report_words (Secondary d i b n) = refl
report_words Client = refl
report_words ToSecondary = refl
report_words ToPrimary = refl
report_words StopPrimary = refl
report_words StopSecondary = refl
report_words Report = refl
report_words Ask = refl

-- ---- the words of the lines before

any_more : (f : List (List ℕ) → Bool) (xs : List (List (List ℕ))) (x : List (List ℕ)) (b c : Bool)
    → list_any f xs ≡ b → f x ≡ c → list_any f (xs ++ x ∷ []) ≡ (b || c)
any_more f xs x b c e g =
    list_any-append f xs (x ∷ []) ∙ ((λ i. e i || (g i || false)) ∙ ap (λ d. b || d) (or-false c))

-- ---- one line

no_second : (stopped stops : Bool) → not (stopped && stops) ≡ true → not (stops && stopped) ≡ true
no_second true true h = h
no_second true false h = refl
no_second false true h = refl
no_second false false h = refl

no_false : (stopped reported reports : Bool) → not ((not stopped || reported) && reports) ≡ true
    → not (reports && (reported || not stopped)) ≡ true
no_false stopped reported false h = refl
no_false true true true h = h
no_false true false true h = refl
no_false false true true h = h
no_false false false true h = h

all_three : (a b c : Bool) → a ≡ true → b ≡ true → c ≡ true → (a && (b && c)) ≡ true
all_three a b c e f g = rw (e, f, g) refl

-- what stands first is in order, and so it fits
module _ (earlier : List (List (List ℕ))) (line : Line) (stopped reported : Bool)
    (s : list_any (begins_with stop_word) earlier ≡ stopped) (r : list_any (begins_with report_word) earlier ≡ reported)
    (h : stands_after (before_of earlier) (words_of line) ≡ true) where
  parts : (not (is_second_stop (before_of earlier) (words_of line)) ≡ true)
      × (not (is_false_report (before_of earlier) (words_of line)) ≡ true)
  parts =
      let early = not (is_early_mark (before_of earlier) (words_of line)) in
      let second = not (is_second_stop (before_of earlier) (words_of line)) in
      let report = not (is_false_report (before_of earlier) (words_of line)) in
      and_parts second report (and_parts early (second && report) h).1

  stop_fits : not (is_stop line && stopped) ≡ true
  stop_fits =
      no_second stopped (is_stop line) (sym (λ i. not (s i && stop_words line i)) ∙ parts.0)

  report_fits : not (is_report line && (reported || not stopped)) ≡ true
  report_fits =
      no_false stopped reported (is_report line)
      (sym (λ i. not ((not (s i) || r i) && report_words line i)) ∙ parts.1)

-- ---- all lines

lines_fit : (earlier : List (List (List ℕ))) (lines : List Line) (stopped reported : Bool)
    → list_any (begins_with stop_word) earlier ≡ stopped → list_any (begins_with report_word) earlier ≡ reported
    → are_in_order earlier (map item_words (map item.Line lines)) ≡ true → stops_fit stopped reported lines ≡ true
lines_fit earlier [] stopped reported s r h = refl
lines_fit earlier (line ∷ lines) stopped reported s r h =
    let p = and_parts (stands_after (before_of earlier) (words_of line))
    (are_in_order (earlier ++ words_of line ∷ []) (map item_words (map item.Line lines))) h in
    all_three (not (is_stop line && stopped)) (not (is_report line && (reported || not stopped)))
    (stops_fit (stopped || is_stop line) (reported || is_report line) lines)
    (stop_fits earlier line stopped reported s r p.0)
    (report_fits earlier line stopped reported s r p.0)
    (lines_fit (earlier ++ words_of line ∷ []) lines (stopped || is_stop line) (reported || is_report line)
    (any_more (begins_with stop_word) earlier (words_of line) stopped (is_stop line) s (stop_words line))
    (any_more (begins_with report_word) earlier (words_of line) reported (is_report line) r (report_words line)) p.1)

pub schedule_stops_once : (text : List ℕ) (lines : List Line) → IsSchedule lines text → HasOneStop lines
schedule_stops_once text lines good = lines_fit [] lines false false refl refl good.order
