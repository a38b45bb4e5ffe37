-- What holds of the log of each start and each schedule: Log, Marks, both guests' turns, and that frames and messages
-- are those of the definitions.
use Rattle.std.proofs.Common.{◌≡◌, ℕ, ◌+◌, ◌%◌, ◌^◌, List, [], ◌∷◌, ◌++◌, Bool, filter, flat_map, map, Option, None, Some, refl, sym, ap, ◌∙◌}
use Rattle.std.proofs.Math.Nat.{mod-add-mod}
use Rattle.std.proofs.lemmas.Grind.{fold-append}
use Rattle.colo_base.specs.declared.fault.Cause.{Cause}
use Rattle.settle_rules.specs.Release.{Released}
use Rattle.state_wire.specs.Guest.{Kind}
use Rattle.pair_theorem.specs.Events.{outcome_of}
use Rattle.pair_theorem.specs.History.{entries, lines_of, pair_log, past_at, past_from, steps_from}
use Rattle.replay_log.specs.declared.lines.Line.{Line}
use Rattle.replay_log.specs.declared.records.Answer.{Answer}
use Rattle.replay_log.specs.declared.records.Mark.{Mark}
use Rattle.replay_log.specs.declared.records.Mark.TheVariants.{Captured}
use Rattle.replay_log.specs.declared.records.Record.{Record}
use Rattle.pair_theorem.specs.LogParts.{GuestsPart, LogPart, MarksPart, ack_marks, capture_marks, causes_in, commit_marks, count_on, count_turn, counts_released, counts_stated, is_acknowledged, is_captured, is_committed, marks_that, nodes_at}
use Rattle.colo_wire.specs.declared.messages.Message.{Message}
use Rattle.pair_theorem.specs.Past.{Past, Start, Step, first_past}
use Rattle.pair_theorem.specs.Places.{Event, delivered_due, delivered_in, events, events_from, released_due, released_in}
use Rattle.splice_run.specs.Tokens.{Taken, made_by_primary, made_by_secondary}
use Rattle.pair_theorem.specs.Theorem.{FrontsAreLogs}
use Rattle.pair_theorem.proofs.HistoryLemmas.{pair_log-append}
use Rattle.pair_theorem.proofs.EventFacts.{captured_mark, captures_after, event_facts}

-- LOG
lines_from : (kind : Kind) (stream : List (List ℕ)) (past : Past) (lines : List Line)
    → lines_of (steps_from kind stream past lines) ≡ lines
unfolding steps_from
lines_from kind stream past [] = refl
lines_from kind stream past (x ∷ xs) =
    let here = (event_facts kind stream past x).line in
    let rest = lines_from kind stream (outcome_of kind stream past x).after xs in
    λ i. here i ∷ rest i

pub lines_of-pair_log : (a : Start) (lines : List Line) → lines_of (pair_log a lines) ≡ lines
unfolding pair_log
lines_of-pair_log a lines = lines_from a.kind a.stream (first_past a) lines

counts_from : (kind : Kind) (stream : List (List ℕ)) (past : Past) (lines : List Line)
    → counts_stated (steps_from kind stream past lines) ≡ counts_released (steps_from kind stream past lines)
unfolding steps_from
counts_from kind stream past [] = refl
counts_from kind stream past (x ∷ xs) =
    let here = (event_facts kind stream past x).counts in
    let rest = counts_from kind stream (outcome_of kind stream past x).after xs in
    λ i. here i ∷ rest i

pub log_holds : (a : Start) (lines : List Line) → LogPart lines (pair_log a lines)
unfolding pair_log
log_holds a lines = record {
  schedule = lines_of-pair_log a lines;
  counts = counts_from a.kind a.stream (first_past a) lines;
}

-- MARKS: the causes of the events, as the lines make them
unfoldable causes_from : Kind → List (List ℕ) → Past → List Line → List (Option Cause)
causes_from kind stream past [] = []
causes_from kind stream past (x ∷ xs) =
    let o = outcome_of kind stream past x in o.cause ∷ causes_from kind stream o.after xs

causes_are : (kind : Kind) (stream : List (List ℕ)) (past : Past) (released : List Released) (lines : List Line)
    → causes_in (events_from kind stream past released (steps_from kind stream past lines))
    ≡ causes_from kind stream past lines
unfolding steps_from events_from causes_from
causes_are kind stream past released [] = refl
causes_are kind stream past released (x ∷ xs) =
    let o = outcome_of kind stream past x in
    let rest = steps_from kind stream o.after xs in
    let made : Line → List (Option Cause) =
    λ l. let p = outcome_of kind stream past l in
    p.cause ∷ causes_in (events_from kind stream p.after (released ++ o.step.released) rest) in
    ap made (event_facts kind stream past x).line
    ∙ ap (λ (cs : List (Option Cause)). o.cause ∷ cs)
    (causes_are kind stream o.after (released ++ o.step.released) xs)

-- FRAMES AND MESSAGES: what each step has is what the definitions make of its line
due_from : {X : Type 0} (of_step : Step → X) (kind : Kind) (stream : List (List ℕ)) (past : Past)
    (released : List Released) (lines : List Line) → map of_step (steps_from kind stream past lines)
    ≡ map (λ (e : Event). of_step e.outcome.step)
    (events_from kind stream past released (steps_from kind stream past lines))
unfolding steps_from events_from
due_from of_step kind stream past released [] = refl
due_from {X} of_step kind stream past released (x ∷ xs) =
    let o = outcome_of kind stream past x in
    let rest = steps_from kind stream o.after xs in
    let made : Line → List X =
    λ l. let p = outcome_of kind stream past l in
    of_step p.step ∷ map (λ (e : Event). of_step e.outcome.step)
    (events_from kind stream p.after (released ++ o.step.released) rest) in
    ap (λ (ys : List X). of_step o.step ∷ ys) (due_from of_step kind stream o.after (released ++ o.step.released) xs)
    ∙ sym (ap made (event_facts kind stream past x).line)

pub frames_are : (a : Start) (lines : List Line)
    → released_in (pair_log a lines) ≡ released_due (events a (pair_log a lines))
unfolding pair_log events
frames_are a lines = due_from (λ (s : Step). s.released) a.kind a.stream (first_past a) [] lines

pub messages_are : (a : Start) (lines : List Line)
    → delivered_in (pair_log a lines) ≡ delivered_due (events a (pair_log a lines))
unfolding pair_log events
messages_are a lines = due_from (λ (s : Step). s.delivered) a.kind a.stream (first_past a) [] lines

-- the number of the last capture is the count of the captures
captures_so_far : ℕ → Option Cause → ℕ
captures_so_far n None = n
captures_so_far n (Some why) = n + 1

count_captures : (n c : ℕ) (why : Option Cause) → c ≡ n % 2 ^ 32 → captures_after c why ≡ captures_so_far n why % 2 ^ 32
unfolding captures_so_far
count_captures n c None e = e
count_captures n c (Some why) e = ap (λ (m : ℕ). (m + 1) % 2 ^ 32) e ∙ mod-add-mod n (2 ^ 32) 1

mark_of_cause : (n c : ℕ) (why : Option Cause) (causes : List (Option Cause)) → c ≡ n % 2 ^ 32
    → captured_mark c why ∷ capture_marks (captures_so_far n why) causes ≡ capture_marks n (why ∷ causes)
unfolding captures_so_far
mark_of_cause n c None causes e = refl
mark_of_cause n c (Some why) causes e =
    let number = count_captures n c (Some why) e in
    ap (λ (m : ℕ). (Captured m why ∷ []) ∷ capture_marks (n + 1) causes) number

captures_from : (kind : Kind) (stream : List (List ℕ)) (past : Past) (n : ℕ) (lines : List Line)
    → past.captures ≡ n % 2 ^ 32
    → marks_that is_captured (steps_from kind stream past lines) ≡ capture_marks n (causes_from kind stream past lines)
unfolding steps_from causes_from
captures_from kind stream past n [] e = refl
captures_from kind stream past n (x ∷ xs) e =
    let o = outcome_of kind stream past x in
    let f = event_facts kind stream past x in
    let here = f.captured in
    let later = captures_from kind stream o.after (captures_so_far n o.cause) xs
    (f.captures ∙ count_captures n past.captures o.cause e) in
    (λ i. here i ∷ later i) ∙ mark_of_cause n past.captures o.cause (causes_from kind stream o.after xs) e

-- the marks of one sort, where each event has those that are due
marks_from : (sort : Mark → Bool) (due : Line → Option Message → List Mark)
    → ((kind : Kind) (stream : List (List ℕ)) (past : Past) (x : Line)
    → filter sort (outcome_of kind stream past x).step.entry.marks
    ≡ due x (outcome_of kind stream past x).step.delivered)
    → (kind : Kind) (stream : List (List ℕ)) (past : Past) (lines : List Line)
    → marks_that sort (steps_from kind stream past lines)
    ≡ map (λ (s : Step). due s.entry.line s.delivered) (steps_from kind stream past lines)
unfolding steps_from
marks_from sort due marked kind stream past [] = refl
marks_from sort due marked kind stream past (x ∷ xs) =
    let o = outcome_of kind stream past x in
    let line = sym (event_facts kind stream past x).line in
    let here = marked kind stream past x ∙ ap (λ (l : Line). due l o.step.delivered) line in
    let later = marks_from sort due marked kind stream o.after xs in
    λ i. here i ∷ later i

pub marks_hold : (a : Start) (lines : List Line) → MarksPart a (pair_log a lines)
unfolding pair_log events
marks_hold a lines = record {
  captures = captures_from a.kind a.stream (first_past a) 0 lines refl
      ∙ ap (λ (cs : List (Option Cause)). capture_marks 0 cs)
      (sym (causes_are a.kind a.stream (first_past a) [] lines));
  commits = marks_from is_committed commit_marks
      (λ kind stream past x. (event_facts kind stream past x).committed) a.kind a.stream (first_past a) lines;
  acks = marks_from is_acknowledged ack_marks
      (λ kind stream past x. (event_facts kind stream past x).acknowledged) a.kind a.stream (first_past a) lines;
}

-- GUESTS
-- of either node: each event counts the turn that its record says the node made
turns_counted : (turned : Past → ℕ) (made : Line → Answer → List Taken)
    → ((kind : Kind) (stream : List (List ℕ)) (past : Past) (x : Line)
    → turned (outcome_of kind stream past x).after
    ≡ count_on (turned past) (made x (outcome_of kind stream past x).step.entry.answer))
    → (kind : Kind) (stream : List (List ℕ)) (past : Past) (lines : List Line)
    → turned (past_from kind stream past lines) ≡ count_on (turned past)
    (flat_map (λ (r : Record). made r.line r.answer) (entries (steps_from kind stream past lines)))
unfolding past_from steps_from
turns_counted turned made counted kind stream past [] = refl
turns_counted turned made counted kind stream past (x ∷ xs) =
    let o = outcome_of kind stream past x in
    let entry = o.step.entry in
    let rest = flat_map (λ (r : Record). made r.line r.answer) (entries (steps_from kind stream o.after xs)) in
    turns_counted turned made counted kind stream o.after xs
    ∙ (ap (λ (n : ℕ). count_on n rest) (counted kind stream past x ∙ ap
    (λ (l : Line). count_on (turned past) (made l entry.answer)) (sym (event_facts kind stream past x).line))
    ∙ sym (fold-append count_turn (turned past) (made entry.line entry.answer) rest))

pub past_is : (a : Start) (lines : List Line) → past_at a (pair_log a lines) ≡ past_from a.kind a.stream (first_past a)
    lines
unfolding past_at
past_is a lines = ap (λ (xs : List Line). past_from a.kind a.stream (first_past a) xs) (lines_of-pair_log a lines)

-- FRONTS
pub fronts_are : FrontsAreLogs
fronts_are a before later =
    pair_log-append a before later
    ∙ ap (λ (p : Past). pair_log a before ++ steps_from a.kind a.stream p later) (sym (past_is a before))

pub guests_hold : (a : Start) (lines : List Line) → GuestsPart a (pair_log a lines) (nodes_at a (pair_log a lines))
unfolding nodes_at pair_log
guests_hold a lines = record {
  primary = ap (λ (p : Past). p.primary_turned) (past_is a lines)
      ∙ turns_counted (λ (p : Past). p.primary_turned) made_by_primary
      (λ kind stream past x. (event_facts kind stream past x).primary_turned) a.kind a.stream (first_past a) lines;
  secondary = ap (λ (p : Past). p.secondary_turned) (past_is a lines)
      ∙ turns_counted (λ (p : Past). p.secondary_turned) made_by_secondary
      (λ kind stream past x. (event_facts kind stream past x).secondary_turned) a.kind a.stream (first_past a) lines;
}
