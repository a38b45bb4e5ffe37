-- The lines that are made are those of a schedule.
use Rattle.std.proofs.Common.{◌≡◌, ℕ, zero, suc, ◌<◌, ◌/◌, ◌%◌, ◌^◌, ◌==◌, Bool, true, false, not, ◌&&◌, ◌||◌, List, [], ◌∷◌, ◌++◌, All, ap, arith, flat_map, if◌then◌else◌, map, refl, replicate}
use Rattle.std.proofs.lemmas.Bool.Decides.{nat_tests}
use Rattle.std.proofs.lemmas.List.Elements.{All-nil, All-cons}
use Rattle.std.specs.List.{AllByRecursion}
use Rattle.replay_log.specs.Cases.{are_in_order, before_of, begins_with, stands_after}
use Rattle.replay_log.specs.Forms.{schedule_forms}
use Rattle.replay_log.specs.Items.{item_text, item_words, line_words}
use Rattle.replay_log.specs.Texts.{HasSpelling, IsSchedule}
use Rattle.replay_log.specs.declared.items.Item.TheVariants as item
use Rattle.replay_log.specs.declared.keywords.Keyword.TheVariants.{Mark as mark_word, Report as report_word, Stop as stop_word}
use Rattle.replay_log.specs.declared.judging.Before.{Before}
use Rattle.replay_log.specs.declared.lines.Line.{Line}
use Rattle.replay_log.specs.declared.lines.Line.TheVariants.{Primary, Secondary, Client, ToSecondary, ToPrimary, Ask}
use Rattle.input_maker.specs.Draws.{draws}
use Rattle.input_maker.specs.Made.{ask_lines, client_lines, delivery_lines, first_line, made_lines, schedule_text, second_line, turn_lines}

-- a line of a schedule that is no stop and no report
pub record IsPlain (l : Line) : Type 0 where
  pub spelled : HasSpelling schedule_forms (item.Line l)
  pub no_mark : begins_with mark_word (line_words l) ≡ false
  pub no_stop : begins_with stop_word (line_words l) ≡ false
  pub no_report : begins_with report_word (line_words l) ≡ false

plain_primary : (d : ℕ) → d < 1024 → IsPlain (Primary d true 8 2000)
plain_primary d small = record {
  spelled = record { form = (0, omega arith, refl); numbers = grind (arith, nat_tests) };
  no_mark = refl;
  no_stop = refl;
  no_report = refl;
}

plain_secondary : (d : ℕ) → d < 1024 → IsPlain (Secondary d true 8 2000)
plain_secondary d small = record {
  spelled = record { form = (1, omega arith, refl); numbers = grind (arith, nat_tests) };
  no_mark = refl;
  no_stop = refl;
  no_report = refl;
}

plain_client : IsPlain Client
plain_client = record {
  spelled = record { form = (2, omega arith, refl); numbers = refl };
  no_mark = refl;
  no_stop = refl;
  no_report = refl;
}

plain_down : IsPlain ToSecondary
plain_down = record {
  spelled = record { form = (3, omega arith, refl); numbers = refl };
  no_mark = refl;
  no_stop = refl;
  no_report = refl;
}

plain_up : IsPlain ToPrimary
plain_up = record {
  spelled = record { form = (4, omega arith, refl); numbers = refl };
  no_mark = refl;
  no_stop = refl;
  no_report = refl;
}

plain_ask : IsPlain Ask
plain_ask = record {
  spelled = record { form = (8, omega arith, refl); numbers = refl };
  no_mark = refl;
  no_stop = refl;
  no_report = refl;
}

-- ---- all of them

module _ {A : Type 0} (P : A → Type 0) where
  pub all_then : (xs ys : List A) → AllByRecursion P xs → AllByRecursion P ys → AllByRecursion P (xs ++ ys)
  all_then [] ys x y = y
  all_then (a ∷ xs) ys x y = (x.0, all_then xs ys x.1 y)

  pub all_same : (n : ℕ) (a : A) → P a → AllByRecursion P (replicate n a)
  all_same zero a p = tt
  all_same (suc n) a p = (p, all_same n a p)

  pub all_each : {B : Type 0} (f : B → List A) → ((b : B) → AllByRecursion P (f b)) → (bs : List B)
      → AllByRecursion P (flat_map f bs)
  all_each f each [] = tt
  all_each f each (b ∷ bs) = all_then (f b) (flat_map f bs) (each b) (all_each f each bs)

  pub all_if : (b : Bool) (a : A) → P a → AllByRecursion P (if b then a ∷ [] else [])
  all_if true a p = (p, tt)
  all_if false a p = tt

plain_turn : (x : ℕ) → AllByRecursion IsPlain (turn_lines x)
plain_turn x =
    all_then IsPlain (client_lines x) (first_line x ∷ (second_line x ∷ (delivery_lines ++ ask_lines x)))
    (all_if IsPlain (x % 4 == 0) Client plain_client) (
      plain_primary (x / 2 ^ 8 % 1024) (omega arith),
      (
        plain_secondary (x / 2 ^ 18 % 1024) (omega arith),
        all_then IsPlain delivery_lines (ask_lines x)
            (all_then IsPlain (replicate 16 ToSecondary) (replicate 16 ToPrimary)
            (all_same IsPlain 16 ToSecondary plain_down) (all_same IsPlain 16 ToPrimary plain_up))
            (all_if IsPlain (x % 64 == 1) Ask plain_ask),
      ),
    )

pub plain_lines : (number turns : ℕ) → AllByRecursion IsPlain (made_lines number turns)
unfolding made_lines
plain_lines number turns = all_each IsPlain turn_lines plain_turn (draws turns number)

-- ---- a schedule

spelled_by : (lines : List Line) → schedule_text lines ≡ flat_map item_text (map item.Line lines)
spelled_by [] = refl
spelled_by (l ∷ lines) = ap (λ text. item_text (item.Line l) ++ text) (spelled_by lines)

all_spelled : (lines : List Line) → AllByRecursion IsPlain lines
    → All (HasSpelling schedule_forms) (map item.Line lines)
all_spelled [] p = All-nil (HasSpelling schedule_forms)
all_spelled (l ∷ lines) p =
    All-cons (HasSpelling schedule_forms) (item.Line l) (map item.Line lines) p.0.spelled (all_spelled lines p.1)

and_false : (a b : Bool) → b ≡ false → (a && b) ≡ false
and_false true b e = e
and_false false b e = refl

plain_stands : (before : Before) (l : Line) → IsPlain l → stands_after before (line_words l) ≡ true
plain_stands before l p =
    rw (
      and_false (not before.any) (begins_with mark_word (line_words l)) p.no_mark,
      and_false before.stopped (begins_with stop_word (line_words l)) p.no_stop,
      and_false (not before.stopped || before.reported) (begins_with report_word (line_words l)) p.no_report,
    ) refl

in_order : (earlier : List (List (List ℕ))) (lines : List Line) → AllByRecursion IsPlain lines
    → are_in_order earlier (map item_words (map item.Line lines)) ≡ true
in_order earlier [] p = refl
in_order earlier (l ∷ lines) p =
    rw (plain_stands (before_of earlier) l p.0) (in_order (earlier ++ line_words l ∷ []) lines p.1)

pub are_schedule : (lines : List Line) → AllByRecursion IsPlain lines → IsSchedule lines (schedule_text lines)
are_schedule lines p = record {
  spelled = spelled_by lines;
  good = all_spelled lines p;
  order = in_order [] lines p;
}
