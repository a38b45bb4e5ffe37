-- A log grows by a step with each line; no line is a second stop or a false report; and the survivor is in the state
-- that the log says.
use Rattle.std.proofs.Common.{◌≡◌, ℕ, ◌+◌, ◌<◌, Bool, true, false, List, [], ◌∷◌, ◌++◌, Option, None, Some, append-nil, flat_map, drop, get_or, length, take, refl, sym, ap, subst, ◌∙◌, if◌then◌else◌}
use Rattle.std.specs.Prelude.{sum_by}
use Rattle.std.proofs.lemmas.List.{drop_more, take-append-drop}
use Rattle.std.proofs.lemmas.List.Concat.{flat_map-append}
use Rattle.state_wire.specs.Guest.{Kind}
use Rattle.replay_log.specs.declared.lines.Line.{Line}
use Rattle.replay_log.specs.declared.lines.Line.TheVariants.{Primary, Secondary, Client, ToSecondary, ToPrimary, StopPrimary, StopSecondary, Report, Ask}
use Rattle.splice_run.specs.Log.{has_primary_stop}
use Rattle.colo_base.specs.Shelf.{ShelfState}
use Rattle.file_steps.specs.Steps as file
use Rattle.file_steps.specs.Steps.{FailsToWrite, Writes}
use Rattle.file_steps.specs.declared.fault.Fault.{Fault}
use Rattle.file_steps.proofs.WriteLemmas.{write_fails_front, write_fails_then, writes_none, writes_then}
use Rattle.command_plans.specs.Replay.{captures_by, count, survivor}
use Rattle.command_plans.specs.Steps.{writes_by}
use Rattle.command_plans.specs.declared.replay.Counts.{Counts}
use Rattle.node_secondary.specs.Survivor.{guest_of}
use Rattle.pair_core.specs.Pair.{Pair, is_primary}
use Rattle.pair_core.specs.Steps.{refusal, report_refusal, stop_refusal}
use Rattle.pair_core.specs.declared.node.Node.{Node}
use Rattle.pair_core.specs.declared.node.Node.TheVariants as node
use Rattle.pair_core.specs.declared.pair.Step.{Step as HeldStep}
use Rattle.pair_history.specs.Laws.{StandsAfter, past_after}
use Rattle.pair_history.specs.Standing.{Stands, stop_of}
use Rattle.pair_history.proofs.LogLemmas.{past_then}
use Rattle.pair_theorem.specs.Events.{outcome_of}
use Rattle.pair_theorem.specs.History.{entries, pair_log, past_at, past_from, steps_from}
use Rattle.pair_theorem.specs.LogParts.{nodes_at}
use Rattle.pair_theorem.specs.Past.{Past, Start, Step, is_primary_stop}
use Rattle.pair_theorem.proofs.EachHistory.{Fits, Reached, begins, goes, is_stopped}
use Rattle.pair_theorem.proofs.EachLog.{past_is}
use Rattle.pair_theorem.proofs.HistoryLemmas.{pair_log-append}
use Rattle.pair_world.specs.Running.{IsNext, StandsForStart, TellsAs}
use Rattle.theorem_runs.proofs.Stops.{stop_named}
use Rattle.replay_plan.specs.LogPlan.{survivor_of, writes_of}
use Rattle.replay_plan.specs.Running.{HasRun, IsCounted, step_after}
use Rattle.replay_plan.proofs.CountLemmas.{counted_more, counted_none}

-- ---- what a step leaves

pub writes_same : (s : Step) (made : HeldStep) → TellsAs s made → writes_by made ≡ writes_of s
writes_same s made h = rw (h.entry, h.released, h.wire) refl

-- ---- a line more

pub log_more : (a : Start) (lines : List Line) (x : Line)
    → pair_log a (lines ++ x ∷ []) ≡ pair_log a lines ++ step_after a lines x ∷ []
unfolding past_after steps_from
log_more a lines x = pair_log-append a lines (x ∷ [])

-- the steps of a schedule are those before a line, its own, and others
pub log_split : (a : Start) (lines : List Line) (k : ℕ) (d : Line) → k < length lines
    → pair_log a lines ≡ pair_log a (take k lines) ++ (step_after a (take k lines) (get_or lines k d)
    ∷ steps_from a.kind a.stream
    (outcome_of a.kind a.stream (past_after a (take k lines)) (get_or lines k d)).after (drop (k + 1) lines))
unfolding past_after steps_from
log_split a lines k d inside =
    ap (λ (xs : List Line). pair_log a xs)
    (sym (take-append-drop k lines) ∙ ap (λ (xs : List Line). take k lines ++ xs) (drop_more lines k d inside))
    ∙ pair_log-append a (take k lines) (get_or lines k d ∷ drop (k + 1) lines)

-- ---- what was written

pub written_none : (out : List ℕ) (a : Start) (s : ShelfState) → Writes out (flat_map writes_of (pair_log a [])) s s
unfolding pair_log steps_from
written_none out a s = writes_none out s

module _ (out : List ℕ) (a : Start) (lines : List Line) (s0 s1 s2 : ShelfState)
    (so_far : Writes out (flat_map writes_of (pair_log a lines)) s0 s1) (x : Line) where
  pub written_more : Writes out (writes_of (step_after a lines x)) s1 s2
      → Writes out (flat_map writes_of (pair_log a (lines ++ x ∷ []))) s0 s2
  written_more next =
      subst (λ (steps : List file.Step). Writes out steps s0 s2)
      (sym (ap (λ (steps : List Step). flat_map writes_of steps) (log_more a lines x)
      ∙ (flat_map-append writes_of (pair_log a lines) (step_after a lines x ∷ [])
      ∙ ap (λ (steps : List file.Step). flat_map writes_of (pair_log a lines) ++ steps)
      (append-nil (writes_of (step_after a lines x))))))
      (writes_then out (flat_map writes_of (pair_log a lines)) (writes_of (step_after a lines x)) s0 s1 s2 so_far next)

pub written_part : (out : List ℕ) (a : Start) (lines : List Line) (k : ℕ) (d : Line) (s0 s1 s2 : ShelfState)
    (fault : Fault) → k < length lines → Writes out (flat_map writes_of (pair_log a (take k lines))) s0 s1
    → FailsToWrite out (writes_of (step_after a (take k lines) (get_or lines k d))) s1 s2 fault
    → FailsToWrite out (flat_map writes_of (pair_log a lines)) s0 s2 fault
written_part out a lines k d s0 s1 s2 fault inside so_far fails =
    let before = pair_log a (take k lines) in
    let step = step_after a (take k lines) (get_or lines k d) in
    let later = steps_from a.kind a.stream
    (outcome_of a.kind a.stream (past_after a (take k lines)) (get_or lines k d)).after (drop (k + 1) lines) in
    subst (λ (steps : List file.Step). FailsToWrite out steps s0 s2 fault)
    (sym (ap (λ (steps : List Step). flat_map writes_of steps) (log_split a lines k d inside)
    ∙ flat_map-append writes_of before (step ∷ later)))
    (write_fails_then out (flat_map writes_of before) (writes_of step ++ flat_map writes_of later) s0 s1 s2 fault so_far
    (write_fails_front out (writes_of step) (flat_map writes_of later) s1 s2 fault fails))

-- ---- a line that isn't refused may come

none_stopped : (s : Option Node) → stop_refusal s ≡ None → is_stopped (stop_of s) ≡ false
none_stopped None e = refl
none_stopped (Some x) e = absurd (cc e)

stopped_once : (s : Option Node) (r : Bool) → report_refusal s r ≡ None
    → (is_stopped (stop_of s) ≡ true) × (r ≡ false)
stopped_once None r e = absurd (cc e)
stopped_once (Some node.Primary) true e = absurd (cc e)
stopped_once (Some node.Secondary) true e = absurd (cc e)
stopped_once (Some node.Primary) false e = (refl, refl)
stopped_once (Some node.Secondary) false e = (refl, refl)

never : {A : Type 0} → (let no : Bool = false in no ≡ true) → A
never e = absurd (cc e)

module _ (kind : Kind) (stream : List (List ℕ)) (past : Past) (w : Pair) (h : Stands kind stream past w) where
  stop_fits : stop_refusal w.stopped ≡ None → is_stopped past.stop ≡ false
  stop_fits e = ap is_stopped h.stop ∙ none_stopped w.stopped e

  report_fits : report_refusal w.stopped w.is_reported ≡ None → Fits past Report
  report_fits e =
      let p = stopped_once w.stopped w.is_reported e in
      record {
        stop = λ f. never f;
        stopped = λ f. ap is_stopped h.stop ∙ p.0;
        report = λ f. sym h.reported ∙ p.1;
      }

  pub fits : (x : Line) → refusal w x ≡ None → Fits past x
  fits (Primary d i b n) e = record { stop = λ f. never f; stopped = λ f. never f; report = λ f. never f }
  fits (Secondary d i b n) e = record { stop = λ f. never f; stopped = λ f. never f; report = λ f. never f }
  fits Client e = record { stop = λ f. never f; stopped = λ f. never f; report = λ f. never f }
  fits ToSecondary e = record { stop = λ f. never f; stopped = λ f. never f; report = λ f. never f }
  fits ToPrimary e = record { stop = λ f. never f; stopped = λ f. never f; report = λ f. never f }
  fits StopPrimary e = record { stop = λ f. stop_fits e; stopped = λ f. never f; report = λ f. never f }
  fits StopSecondary e = record { stop = λ f. stop_fits e; stopped = λ f. never f; report = λ f. never f }
  fits Report e = report_fits e
  fits Ask e = record { stop = λ f. never f; stopped = λ f. never f; report = λ f. never f }

-- ---- a history in which no line was refused

abbrev pub HasReached : Start → List Line → Type 0
HasReached a lines = Reached Fits a (pair_log a lines) (past_after a lines)

pub reached_none : (a : Start) → HasReached a []
unfolding pair_log steps_from past_after past_from
reached_none a = begins

pub reached_more : (a : Start) (lines : List Line) (x : Line) → HasReached a lines → Fits (past_after a lines) x
    → HasReached a (lines ++ x ∷ [])
reached_more a lines x h f =
    let o = outcome_of a.kind a.stream (past_after a lines) x in
    subst (λ (steps : List Step). Reached Fits a steps (past_after a (lines ++ x ∷ []))) (sym (log_more a lines x))
    (subst (λ (p : Past). Reached Fits a (pair_log a lines ++ o.step ∷ []) p) (sym (past_then a lines x))
    (goes (pair_log a lines) (past_after a lines) x h f))

-- ---- the survivor

same_stop : (s : Option Node) → is_primary_stop (stop_of s) ≡ is_primary s
same_stop None = refl
same_stop (Some node.Primary) = refl
same_stop (Some node.Secondary) = refl

past_there : (a : Start) (lines : List Line) → past_at a (pair_log a lines) ≡ past_after a lines
unfolding past_after
past_there a lines = past_is a lines

module _ (a : Start) (lines : List Line) (w : Pair) (h : StandsAfter a lines w) (r : HasReached a lines) where
  abbrev past : Past
  past = past_after a lines

  stopped_same : has_primary_stop (entries (pair_log a lines)) ≡ is_primary w.stopped
  stopped_same = stop_named a (pair_log a lines) past r ∙ (ap is_primary_stop h.stop ∙ same_stop w.stopped)

  by_stop : (b : Bool) → (if b then guest_of w.second else w.first.guest).state
      ≡ (if b then past.secondary.run.state else past.primary.run.state)
  by_stop true = ap (λ m. m.state) h.second_guest
  by_stop false = ap (λ m. m.state) h.first_guest

  pub state_survives : (survivor w).state ≡ survivor_of a (pair_log a lines)
  unfolding nodes_at
  state_survives =
      by_stop (is_primary w.stopped)
      ∙ ((λ i. if sym stopped_same i then past.secondary.run.state else past.primary.run.state)
      ∙ ap (λ (p : Past). if has_primary_stop (entries (pair_log a lines)) then p.secondary.run.state
      else p.primary.run.state) (sym (past_there a lines)))

-- ---- so far

-- after some lines: no line was refused, the steps are counted, and the pair stands for the past
pub record GoesOnSoFar (a : Start) (lines : List Line) (counts : Counts) (w : Pair) : Type 0 where
  pub stands : StandsAfter a lines w
  pub reached : HasReached a lines
  pub counted : IsCounted (pair_log a lines) counts

pub so_far_none : (a : Start) (w : Pair) (counts : Counts) → StandsForStart a w → counts.lines ≡ 0
    → counts.released ≡ 0 → counts.captured ≡ 0 → GoesOnSoFar a [] counts w
unfolding pair_log steps_from
so_far_none a w counts stands lines released captured = record {
  stands = stands;
  reached = reached_none a;
  counted = counted_none counts lines released captured;
}

pub so_far_more : (a : Start) (lines : List Line) (x : Line) (old new : Counts) (w v : Pair) (made : HeldStep)
    → GoesOnSoFar a lines old w → refusal w x ≡ None → IsNext a lines x v made → new.lines ≡ old.lines + 1
    → new.released ≡ count (old.released + length made.released)
    → new.captured ≡ count (old.captured + count (sum_by captures_by made.entry.marks))
    → GoesOnSoFar a (lines ++ x ∷ []) new v
so_far_more a lines x old new w v made h good next more released captured = record {
  stands = next.stands;
  reached = reached_more a lines x h.reached (fits a.kind a.stream (past_after a lines) w h.stands x good);
  counted = subst (λ (steps : List Step). IsCounted steps new) (sym (log_more a lines x))
      (counted_more (pair_log a lines) (step_after a lines x) made old new h.counted next.tells more released
      captured);
}

pub so_far_all : (a : Start) (lines : List Line) (counts : Counts) (w : Pair) → GoesOnSoFar a lines counts w
    → HasRun a lines counts w
so_far_all a lines counts w h =
    record { counted = h.counted; state = state_survives a lines w h.stands h.reached }
