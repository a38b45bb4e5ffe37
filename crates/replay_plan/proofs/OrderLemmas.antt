-- No line of a good schedule is refused: its stops and reports stand in order.
use Rattle.std.proofs.Common.{◌≡◌, ℕ, ◌+◌, Bool, true, false, not, ◌&&◌, ◌||◌, List, [], ◌∷◌, ◌++◌, Option, Some, None, map, Ok, Err, refl, sym, ap, ◌∙◌, if◌then◌else◌, is_some}
use Rattle.std.specs.List.{list_any}
use Rattle.std.specs.Prelude.{slice_get}
use Rattle.std.proofs.lemmas.Bool.{and_parts}
use Rattle.colo_wire.specs.declared.messages.Message.{Message}
use Rattle.command_plans.specs.Replay.{AreEvents}
use Rattle.node_primary.specs.Answers as primary
use Rattle.node_secondary.specs.Answers as secondary
use Rattle.node_parts.specs.Turns.{Turn}
use Rattle.pair_core.specs.Events.{client_with, deliver_with, event_of, hears_back_with, hears_with, nothing, primary_asks, primary_hears, primary_makes, primary_survives, primary_takes, secondary_hears, secondary_makes, secondary_survives, secondary_takes, turn_of}
use Rattle.pair_core.specs.Pair.{Pair, is_primary, is_secondary}
use Rattle.pair_core.specs.Steps.{refusal, report_refusal, stop_refusal}
use Rattle.pair_core.specs.declared.node.Node.{Node}
use Rattle.pair_core.specs.declared.node.Node.TheVariants as node
use Rattle.replay_log.specs.Cases.{are_in_order, before_of, begins_with, is_early_mark, is_false_report, is_second_stop, stands_after}
use Rattle.replay_log.specs.Items.{item_words}
use Rattle.replay_log.specs.Texts.{IsSchedule}
use Rattle.replay_log.specs.declared.items.Item.TheVariants as item
use Rattle.replay_log.specs.declared.keywords.Keyword.TheVariants.{Report as report_word, Stop as stop_word}
use Rattle.replay_log.specs.declared.lines.Line.{Line}
use Rattle.replay_log.specs.declared.lines.Line.TheVariants.{Primary, Secondary, Client, ToSecondary, ToPrimary, StopPrimary, StopSecondary, Report, Ask}

-- ---- which events change what the schedule has done

record Stays (w : Pair) (x : Pair) : Type 0 where
  stopped : x.stopped ≡ w.stopped
  reported : x.is_reported ≡ w.is_reported

abbrev same : (w : Pair) → Stays w w
same w = record { stopped = refl; reported = refl }

primary_stays : (w : Pair) (t : Turn) (b : Bool) → Stays w (if b then nothing w else primary_makes w t).after
unfolding primary_makes
primary_stays w t true = same w
primary_stays w t false = record { stopped = refl; reported = refl }

secondary_stays : (w : Pair) (t : Turn) (b : Bool) → Stays w (if b then nothing w else secondary_makes w t).after
unfolding secondary_makes
secondary_stays w t true = same w
secondary_stays w t false = record { stopped = refl; reported = refl }

frame_stays : (w x : Pair) (index : ℕ) (frame : List ℕ) (b : Bool) → Stays w x
    → Stays w (if b then secondary_takes x index frame else primary_takes x index frame).after
unfolding secondary_takes primary_takes
frame_stays w x index frame true s = record { stopped = s.stopped; reported = s.reported }
frame_stays w x index frame false s = record { stopped = s.stopped; reported = s.reported }

client_stays : (w : Pair) (frame : Option (List ℕ)) → Stays w (client_with w frame).after
client_stays w None = same w
client_stays w (Some frame) =
    frame_stays w (record w { next = w.next + 1 }) w.next frame (is_primary w.stopped)
    (record { stopped = refl; reported = refl })

hears_stays : (w x : Pair) (m : Message) (a : secondary.Answer) → Stays w x → Stays w (hears_with x m a).after
unfolding hears_with
hears_stays w x m (Ok told) s = record { stopped = s.stopped; reported = s.reported }
hears_stays w x m (Err fault) s = s

hears_back_stays : (w x : Pair) (m : Message) (a : primary.Answer) → Stays w x → Stays w (hears_back_with x m a).after
unfolding hears_back_with
hears_back_stays w x m (Ok told) s = record { stopped = s.stopped; reported = s.reported }
hears_back_stays w x m (Err fault) s = s

down_stays : (w : Pair) (b : Bool) (ms : List Message)
    → Stays w (if b then nothing w else deliver_with secondary_hears w ms (λ rest. record w { down = rest })).after
unfolding secondary_hears
down_stays w true ms = same w
down_stays w false [] = same w
down_stays w false (m ∷ ms) =
    hears_stays w (record w { down = ms }) m (secondary.answer_to w.second (Ok m))
    (record { stopped = refl; reported = refl })

up_stays : (w : Pair) (b : Bool) (ms : List Message)
    → Stays w (if b then nothing w else deliver_with primary_hears w ms (λ rest. record w { up = rest })).after
unfolding primary_hears
up_stays w true ms = same w
up_stays w false [] = same w
up_stays w false (m ∷ ms) =
    hears_back_stays w (record w { up = ms }) m (primary.answer_to w.first (Ok m))
    (record { stopped = refl; reported = refl })

ask_stays : (w : Pair) (b : Bool) → Stays w (if b then nothing w else primary_asks w).after
unfolding primary_asks
ask_stays w true = same w
ask_stays w false = record { stopped = refl; reported = refl }

record Reported (w : Pair) (x : Pair) : Type 0 where
  stopped : x.stopped ≡ w.stopped
  reported : x.is_reported ≡ true

report_reports : (w : Pair) (b : Bool) → Reported w (if b then secondary_survives w else primary_survives w).after
unfolding secondary_survives primary_survives
report_reports w true = record { stopped = refl; reported = refl }
report_reports w false = record { stopped = refl; reported = refl }

-- ---- the words of the lines before

any_more : {T : Type 0} (f : T → Bool) (xs : List T) (x : T) → list_any f (xs ++ x ∷ []) ≡ (list_any f xs || f x)
any_more f [] x = by (f x)
  where
    by : (b : Bool) → (b || false) ≡ b
    by true = refl
    by false = refl
any_more f (y ∷ xs) x = by (f y) (any_more f xs x)
  where
    by : (b : Bool) → list_any f (xs ++ x ∷ []) ≡ (list_any f xs || f x)
        → (b || list_any f (xs ++ x ∷ [])) ≡ ((b || list_any f xs) || f x)
    by true e = refl
    by false e = e

or_false : (b : Bool) → (b || false) ≡ b
or_false true = refl
or_false false = refl

or_true : (b : Bool) → (b || true) ≡ true
or_true true = refl
or_true false = refl

-- the lines before are those that the pair has seen
record Agrees (earlier : List (List (List ℕ))) (w : Pair) : Type 0 where
  stopped : list_any (begins_with stop_word) earlier ≡ is_some w.stopped
  reported : list_any (begins_with report_word) earlier ≡ w.is_reported

abbrev words_of : Line → List (List ℕ)
words_of line = item_words (item.Line line)

-- a line that is neither a stop nor a report
other_line : (earlier : List (List (List ℕ))) (w x : Pair) (line : Line) → Agrees earlier w → Stays w x
    → begins_with stop_word (words_of line) ≡ false → begins_with report_word (words_of line) ≡ false
    → Agrees (earlier ++ words_of line ∷ []) x
other_line earlier w x line a s no_stop no_report = record {
  stopped = any_more (begins_with stop_word) earlier (words_of line)
      ∙ (ap (λ b. list_any (begins_with stop_word) earlier || b) no_stop
      ∙ (or_false (list_any (begins_with stop_word) earlier) ∙ (a.stopped ∙ ap is_some (sym s.stopped))));
  reported = any_more (begins_with report_word) earlier (words_of line)
      ∙ (ap (λ b. list_any (begins_with report_word) earlier || b) no_report
      ∙ (or_false (list_any (begins_with report_word) earlier) ∙ (a.reported ∙ sym s.reported)));
}

stop_line : (earlier : List (List (List ℕ))) (w : Pair) (line : Line) (node : Node) → Agrees earlier w
    → begins_with stop_word (words_of line) ≡ true → begins_with report_word (words_of line) ≡ false
    → Agrees (earlier ++ words_of line ∷ []) (record w { stopped = Some node })
stop_line earlier w line node a is_stop no_report = record {
  stopped = any_more (begins_with stop_word) earlier (words_of line)
      ∙ (ap (λ b. list_any (begins_with stop_word) earlier || b) is_stop
      ∙ or_true (list_any (begins_with stop_word) earlier));
  reported = any_more (begins_with report_word) earlier (words_of line)
      ∙ (ap (λ b. list_any (begins_with report_word) earlier || b) no_report
      ∙ (or_false (list_any (begins_with report_word) earlier) ∙ a.reported));
}

report_line : (earlier : List (List (List ℕ))) (w x : Pair) → Agrees earlier w → Reported w x
    → Agrees (earlier ++ words_of Report ∷ []) x
report_line earlier w x a r = record {
  stopped = any_more (begins_with stop_word) earlier (words_of Report)
      ∙ (or_false (list_any (begins_with stop_word) earlier) ∙ (a.stopped ∙ ap is_some (sym r.stopped)));
  reported = any_more (begins_with report_word) earlier (words_of Report)
      ∙ (or_true (list_any (begins_with report_word) earlier) ∙ sym r.reported);
}

-- ---- what the order rules out

parts : (earlier : List (List (List ℕ))) (line : Line) → stands_after (before_of earlier) (words_of line) ≡ true
    → (not (is_second_stop (before_of earlier) (words_of line)) ≡ true)
    × (not (is_false_report (before_of earlier) (words_of line)) ≡ true)
parts earlier line h =
    let early = not (is_early_mark (before_of earlier) (words_of line)) in
    let second = not (is_second_stop (before_of earlier) (words_of line)) in
    let report = not (is_false_report (before_of earlier) (words_of line)) in
    and_parts second report (and_parts early (second && report) h).1

no_second : (b : Bool) (stopped : Option Node) → b ≡ is_some stopped → not (b && true) ≡ true
    → stop_refusal stopped ≡ None
no_second b None e h = refl
no_second true (Some node) e h = let f : false ≡ true = h in cc
no_second false (Some node) e h = let f : false ≡ true = e in cc

no_false : (b r : Bool) (stopped : Option Node) (reported : Bool) → b ≡ is_some stopped → r ≡ reported
    → not ((not b || r) && true) ≡ true → report_refusal stopped reported ≡ None
no_false true r None reported e f h = let x : true ≡ false = e in cc
no_false false r None reported e f h = let x : false ≡ true = h in cc
no_false false r (Some node) reported e f h = let x : false ≡ true = e in cc
no_false true true (Some node) reported e f h = let x : false ≡ true = h in cc
no_false true false (Some node) true e f h = let x : false ≡ true = f in cc
no_false true false (Some node) false e f h = refl

-- ---- all lines

not_refused : (earlier : List (List (List ℕ))) (line : Line) (w : Pair) → Agrees earlier w
    → stands_after (before_of earlier) (words_of line) ≡ true → refusal w line ≡ None
not_refused earlier (Primary d i b n) w a h = refl
not_refused earlier (Secondary d i b n) w a h = refl
not_refused earlier Client w a h = refl
not_refused earlier ToSecondary w a h = refl
not_refused earlier ToPrimary w a h = refl
not_refused earlier StopPrimary w a h =
    let p = parts earlier StopPrimary h in no_second (list_any (begins_with stop_word) earlier) w.stopped a.stopped p.0
not_refused earlier StopSecondary w a h =
    let p = parts earlier StopSecondary h in
    no_second (list_any (begins_with stop_word) earlier) w.stopped a.stopped p.0
not_refused earlier Report w a h =
    let p = parts earlier Report h in
    no_false (list_any (begins_with stop_word) earlier) (list_any (begins_with report_word) earlier) w.stopped
    w.is_reported a.stopped a.reported p.1
not_refused earlier Ask w a h = refl

agrees_after : (earlier : List (List (List ℕ))) (line : Line) (w : Pair) → Agrees earlier w
    → Agrees (earlier ++ words_of line ∷ []) (event_of w line).after
agrees_after earlier (Primary d i b n) w a =
    other_line earlier w (event_of w (Primary d i b n)).after (Primary d i b n) a
    (primary_stays w (turn_of d i b n) (is_primary w.stopped)) refl refl
agrees_after earlier (Secondary d i b n) w a =
    other_line earlier w (event_of w (Secondary d i b n)).after (Secondary d i b n) a
    (secondary_stays w (turn_of d i b n) (is_secondary w.stopped)) refl refl
agrees_after earlier Client w a =
    other_line earlier w (event_of w Client).after Client a (client_stays w (slice_get w.frames w.next)) refl refl
agrees_after earlier ToSecondary w a =
    other_line earlier w (event_of w ToSecondary).after ToSecondary a
    (down_stays w (is_secondary w.stopped || w.is_reported) w.down) refl refl
agrees_after earlier ToPrimary w a =
    other_line earlier w (event_of w ToPrimary).after ToPrimary a
    (up_stays w (is_primary w.stopped || w.is_reported) w.up) refl refl
agrees_after earlier StopPrimary w a = stop_line earlier w StopPrimary node.Primary a refl refl
agrees_after earlier StopSecondary w a = stop_line earlier w StopSecondary node.Secondary a refl refl
agrees_after earlier Report w a =
    report_line earlier w (event_of w Report).after a (report_reports w (is_primary w.stopped))
agrees_after earlier Ask w a =
    other_line earlier w (event_of w Ask).after Ask a (ask_stays w (is_some w.stopped)) refl refl

lines_from : (earlier : List (List (List ℕ))) (lines : List Line) (w : Pair) → Agrees earlier w
    → are_in_order earlier (map item_words (map item.Line lines)) ≡ true → AreEvents w lines
lines_from earlier [] w a h = tt
lines_from earlier (line ∷ lines) w a h =
    let p = and_parts (stands_after (before_of earlier) (words_of line))
    (are_in_order (earlier ++ words_of line ∷ []) (map item_words (map item.Line lines))) h in (
      not_refused earlier line w a p.0,
      lines_from (earlier ++ words_of line ∷ []) lines (event_of w line).after (agrees_after earlier line w a) p.1,
    )

pub schedule_is_events : (text : List ℕ) (lines : List Line) (w : Pair) → w.stopped ≡ None → w.is_reported ≡ false
    → IsSchedule lines text → AreEvents w lines
schedule_is_events text lines w runs silent good =
    lines_from [] lines w (record { stopped = ap is_some (sym runs); reported = sym silent }) good.order
