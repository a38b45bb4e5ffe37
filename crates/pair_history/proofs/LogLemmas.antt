-- Each event of each log.
use Rattle.std.proofs.Common.{◌≡◌, ℕ, Bool, List, [], ◌∷◌, ◌++◌, Option, None, Some, refl, sym, subst, arith}
use Rattle.std.specs.Prelude.{All}
use Rattle.shared_definitions.specs.Bytes.{AreBytes}
use Rattle.state_wire.specs.Regular.{IsRegular}
use Rattle.replay_log.specs.declared.lines.Line.{Line}
use Rattle.replay_log.specs.declared.lines.Line.TheVariants.{Primary, Secondary, Client, ToSecondary, ToPrimary, StopPrimary, StopSecondary, Report, Ask}
use Rattle.pair_core.specs.Events as core
use Rattle.pair_core.specs.Pair.{Pair}
use Rattle.pair_core.specs.Steps.{refusal, stop_refusal}
use Rattle.pair_core.specs.declared.node.Node as stopped
use Rattle.pair_theorem.specs.Events.{outcome_of}
use Rattle.pair_theorem.specs.History.{pair_log, past_from, steps_from}
use Rattle.pair_theorem.specs.Past.{Past, Start, first_past}
use Rattle.pair_theorem.specs.Starts.{IsStart, boots}
use Rattle.pair_theorem.proofs.EachHistory.{Any, reached_any}
use Rattle.pair_theorem.proofs.HistoryLemmas.{past_from-append}
use Rattle.settle_history.proofs.CallLemmas.{begins_with_nothing}
use Rattle.settle_history.proofs.TrackLemmas.{tracks_none}
use Rattle.theorem_runs.specs.Links.{OneCheckpoint}
use Rattle.theorem_runs.specs.Runs.{AreStates, IsState}
use Rattle.theorem_runs.proofs.Checkpoints.{one_checkpoint}
use Rattle.theorem_runs.proofs.Parts.{starts_plain}
use Rattle.theorem_runs.proofs.States.{states_fit}
use Rattle.pair_history.specs.Laws.{AreEvents, BeginsAtBoot, GoesOn, HappenAs, RunsTheLog, StandsAfter, events_from, past_after}
use Rattle.pair_history.specs.Standing.{Stands}
use Rattle.pair_history.proofs.AskEvents.{ask_alike}
use Rattle.pair_history.proofs.DownEvents.{down_alike}
use Rattle.pair_history.proofs.Goes.{Goes}
use Rattle.pair_history.proofs.LoneClients.{client_alike}
use Rattle.pair_history.proofs.ReportEvents.{report_alike}
use Rattle.pair_history.proofs.SecondEvents.{secondary_alike}
use Rattle.pair_history.proofs.StopEvents.{primary_stops, secondary_stops}
use Rattle.pair_history.proofs.TurnEvents.{primary_alike}
use Rattle.pair_history.proofs.UpEvents.{up_alike}

-- THE START
pub begins_at_boot : BeginsAtBoot
unfolding past_after past_from
begins_at_boot kind stream state m n = record {
  frames = refl;
  next = refl;
  down = refl;
  up = refl;
  sent_heard = refl;
  stop = refl;
  reported = refl;
  first_guest = refl;
  second_guest = refl;
  first = λ f. record {
    inbox = refl;
    room = omega arith;
    accepted = tt;
    compares = begins_with_nothing;
    captures = refl;
    awaits = refl;
    waits = refl;
  };
  second = λ f. (
    refl,
    record {
      inbox = refl;
      lines = tracks_none;
      numbers = λ t client. refl;
      waits = refl;
      due = (refl, refl);
    },
  );
}

-- WHAT HOLDS of the past after lines
record Fits (a : Start) : Type 0 where
  regular : IsRegular a.kind
  state : IsState a.kind a.run.state
  frames : All AreBytes a.stream

fits : (a : Start) → IsStart a → Fits a
fits a (boots kind stream state m n regular sizes bytes frames) =
    record { regular = regular; state = record { fits = sizes; bytes = bytes }; frames = frames }

pub one : (a : Start) (lines : List Line) → OneCheckpoint (past_after a lines)
unfolding past_after
one a lines = one_checkpoint Any a (pair_log a lines) (past_after a lines) (reached_any a lines)

states : (a : Start) (lines : List Line) → IsStart a → AreStates a.kind (past_after a lines)
unfolding past_after
states a lines start =
    let f = fits a start in
    states_fit Any a (starts_plain a start) f.regular f.state (pair_log a lines) (past_after a lines)
    (reached_any a lines)

-- one line more
pub past_then : (a : Start) (lines : List Line) (x : Line)
    → past_after a (lines ++ x ∷ []) ≡ (outcome_of a.kind a.stream (past_after a lines) x).after
unfolding past_after past_from
past_then a lines x = past_from-append a.kind a.stream (first_past a) lines (x ∷ [])

-- AN EVENT that is alike wherever the past is as it is after lines
goes_on : (x : Line) → ((a : Start) (lines : List Line) (w : Pair) → IsStart a
    → Stands a.kind a.stream (past_after a lines) w → refusal w x ≡ None
    → Goes a.kind a.stream (outcome_of a.kind a.stream (past_after a lines) x) (core.event_of w x)) → GoesOn x
goes_on x by a lines w start h good rests =
    by a lines w start h good (subst (λ (q : Past). AreStates a.kind q) (past_then a lines x)
    (states a (lines ++ x ∷ []) start)) rests

none_stopped : (s : Option stopped.Node) → stop_refusal s ≡ None → s ≡ None
none_stopped None e = refl
none_stopped (Some x) e = absurd (cc e)

pub goes_on_primary : (d : ℕ) (i : Bool) (b n : ℕ) → GoesOn (Primary d i b n)
goes_on_primary d i b n = goes_on (Primary d i b n)
    (λ a lines w start h good. primary_alike a.kind a.stream (past_after a lines) w d i b n h (one a lines))

pub goes_on_secondary : (d : ℕ) (i : Bool) (b n : ℕ) → GoesOn (Secondary d i b n)
goes_on_secondary d i b n = goes_on (Secondary d i b n)
    (λ a lines w start h good. secondary_alike a.kind a.stream (past_after a lines) w d i b n h)

pub goes_on_client : GoesOn Client
goes_on_client = goes_on Client
    (λ a lines w start h good. client_alike a.kind a.stream (past_after a lines) w h (fits a start).frames)

pub goes_on_down : GoesOn ToSecondary
goes_on_down = goes_on ToSecondary
    (λ a lines w start h good. down_alike a.kind a.stream (past_after a lines) w h (states a lines start).secondary)

pub goes_on_up : GoesOn ToPrimary
goes_on_up = goes_on ToPrimary
    (λ a lines w start h good. up_alike a.kind a.stream (past_after a lines) w h (one a lines))

pub goes_on_stop : GoesOn StopPrimary
unfolding outcome_of
goes_on_stop = goes_on StopPrimary
    (λ a lines w start h good. primary_stops a.kind a.stream (past_after a lines) w h (none_stopped w.stopped good))

pub goes_on_other_stop : GoesOn StopSecondary
unfolding outcome_of
goes_on_other_stop = goes_on StopSecondary
    (λ a lines w start h good. secondary_stops a.kind a.stream (past_after a lines) w h (none_stopped w.stopped good))

pub goes_on_report : GoesOn Report
goes_on_report = goes_on Report
    (λ a lines w start h good. report_alike a.kind a.stream (past_after a lines) w h good)

pub goes_on_ask : GoesOn Ask
goes_on_ask = goes_on Ask
    (λ a lines w start h good. ask_alike a.kind a.stream (past_after a lines) w h (one a lines))

-- ANY EVENT, and a whole log
pub any_goes_on : (x : Line) → GoesOn x
any_goes_on (Primary d i b n) = goes_on_primary d i b n
any_goes_on (Secondary d i b n) = goes_on_secondary d i b n
any_goes_on Client = goes_on_client
any_goes_on ToSecondary = goes_on_down
any_goes_on ToPrimary = goes_on_up
any_goes_on StopPrimary = goes_on_stop
any_goes_on StopSecondary = goes_on_other_stop
any_goes_on Report = goes_on_report
any_goes_on Ask = goes_on_ask

runs_from : (a : Start) (before lines : List Line) (w : Pair) → IsStart a → StandsAfter a before w → AreEvents w lines
    → HappenAs (steps_from a.kind a.stream (past_after a before) lines) (events_from w lines)
unfolding steps_from events_from
runs_from a before [] w start h events = tt
runs_from a before (x ∷ lines) w start h events =
    let o = outcome_of a.kind a.stream (past_after a before) x in
    let goes = any_goes_on x a before w start h events.0 events.1.0 in
    let then = past_then a before x in (
      goes.happens,
      subst (λ (q : Past). HappenAs (steps_from a.kind a.stream q lines)
          (events_from (core.event_of w x).after lines)) then
          (runs_from a (before ++ x ∷ []) lines (core.event_of w x).after start
          (subst (λ (q : Past). Stands a.kind a.stream q (core.event_of w x).after) (sym then) goes.after) events.1.1),
    )

pub runs_the_log : RunsTheLog
unfolding pair_log past_after past_from
runs_the_log a w lines start h events = runs_from a [] lines w start h events
