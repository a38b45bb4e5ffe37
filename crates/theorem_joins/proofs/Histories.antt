-- What holds of each log with at most one stop holds of each history: it is the log of its own lines.
use Rattle.std.proofs.Common.{◌≡◌, Bool, true, false, not, ◌&&◌, ◌||◌, List, [], ◌∷◌, ◌++◌, append-nil, append_assoc, refl, sym, ap, subst, ◌∙◌, arith}
use Rattle.replay_log.specs.declared.lines.Line.{Line}
use Rattle.pair_theorem.specs.Events.{outcome_of}
use Rattle.pair_theorem.specs.History.{lines_of, pair_log, past_at}
use Rattle.pair_theorem.specs.Log.{HasOneStop, is_report, is_stop, stops_fit}
use Rattle.pair_theorem.specs.Past.{Past, Start, Step}
use Rattle.pair_theorem.proofs.EachHistory.{Fits, FitsLines, Reached, begins, goes, is_stopped, lines_to, past_reached, reached_lines, stop_facts}
use Rattle.pair_theorem.proofs.EachLog.{lines_of-pair_log}
use Rattle.pair_theorem.proofs.EventFacts.{event_facts}

-- ONE LINE, before those that may come after it
stop_fits : (stops stopped : Bool) → (stops ≡ true → stopped ≡ false) → not (stops && stopped) ≡ true
stop_fits stops stopped h = grind (arith, h)

report_fits : (reports reported stopped : Bool) → (reports ≡ true → stopped ≡ true)
    → (reports ≡ true → reported ≡ false) → not (reports && (reported || not stopped)) ≡ true
report_fits reports reported stopped h g = grind (arith, h, g)

line_fits : (a : Start) (past : Past) (x : Line) (more : List Line) → Fits past x
    → FitsLines (outcome_of a.kind a.stream past x).after more → FitsLines past (x ∷ more)
line_fits a past x more fits later =
    let facts = stop_facts a.kind a.stream past x in
    let stops = stop_fits (is_stop x) (is_stopped past.stop) fits.stop in
    let reports =
    report_fits (is_report x) past.is_reported (is_stopped past.stop) fits.stopped fits.report in
    let rest : stops_fit (is_stopped past.stop || is_stop x) (past.is_reported || is_report x) more ≡ true =
    (λ i. stops_fit (sym facts.stop i) (sym facts.report i) more) ∙ later in
    λ i. stops i && (reports i && rest i)

-- THE LINES OF A HISTORY, with more that may come after them
lines_push : (steps : List Step) (s : Step) → lines_of (steps ++ s ∷ []) ≡ lines_of steps ++ s.entry.line ∷ []
lines_push [] s = refl
lines_push (x ∷ steps) s = ap (λ (lines : List Line). x.entry.line ∷ lines) (lines_push steps s)

lines_fit : (a : Start) (steps : List Step) (past : Past) → Reached Fits a steps past → (more : List Line)
    → FitsLines past more → HasOneStop (lines_of steps ++ more)
lines_fit a steps past begins more fits = fits
lines_fit a steps past (goes before old x h one) more fits =
    let step = (outcome_of a.kind a.stream old x).step in
    let lines : lines_of (before ++ step ∷ []) ++ more ≡ lines_of before ++ x ∷ more =
    (λ i. lines_push before step i ++ more)
    ∙ (append_assoc (lines_of before) (step.entry.line ∷ []) more
    ∙ (λ i. lines_of before ++ (event_facts a.kind a.stream old x).line i ∷ more)) in
    subst (λ (xs : List Line). HasOneStop xs) (sym lines)
    (lines_fit a before old h (x ∷ more) (line_fits a old x more one fits))

own_log : (a : Start) (steps : List Step) (past : Past) → Reached Fits a steps past
    → pair_log a (lines_of steps) ≡ steps
own_log a steps past h =
    let lines = lines_to Fits a steps past h in
    let is = (reached_lines Fits a steps past h).steps_are in
    ap (λ (xs : List Line). pair_log a xs) (ap (λ (xs : List Step). lines_of xs) is ∙ lines_of-pair_log a lines)
    ∙ sym is

-- WHAT HOLDS OF EACH LOG, and of the past after it, holds of each history
pub of_history : (a : Start) (I : List Step → Past → Type 0)
    → ((lines : List Line) → HasOneStop lines → I (pair_log a lines) (past_at a (pair_log a lines)))
    → (steps : List Step) (past : Past) → Reached Fits a steps past → I steps past
of_history a I each steps past h =
    let one = subst (λ (xs : List Line). HasOneStop xs) (append-nil (lines_of steps))
    (lines_fit a steps past h [] refl) in
    subst (λ (p : Past). I steps p) (past_reached Fits a steps past h)
    (subst (λ (xs : List Step). I xs (past_at a xs)) (own_log a steps past h) (each (lines_of steps) one))
