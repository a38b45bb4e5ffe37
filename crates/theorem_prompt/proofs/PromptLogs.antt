-- The laws: every agreed acknowledgement is said, and Prompt holds of every log.
use Rattle.std.proofs.Common.{◌≡◌, ℕ, Bool, true, false, not, ◌&&◌, ◌||◌, nat_lt, List, [], ◌∷◌, ◌++◌, append-nil, Option, None, Some, refl, sym, ap, subst, ◌∙◌, arith, eq-eqb, true≢false}
use Rattle.std.specs.Prelude.{IsTrue}
use Rattle.std.specs.List.{list_all}
use Rattle.std.specs.Option.{option_map}
use Rattle.std.proofs.lemmas.Bool.{and_from, and_parts, ltb-true}
use Rattle.std.proofs.lemmas.Grind.{flat_map-append}
use Rattle.inet_frame.specs.declared.tuple.Tuple.{Tuple}
use Rattle.tcp_track.specs.Lines.{order}
use Rattle.tcp_track.specs.declared.openings.Opening.{Opening}
use Rattle.settle_rules.specs.Matching.{BothLines, agreed_ack, agreed_ack_window, has_one_client, have_one_client}
use Rattle.settle_rules.specs.Progress.{AckWindow, progress_of}
use Rattle.settle_rules.specs.Release.{Released}
use Rattle.settle_rules.specs.Settle.{both_lines}
use Rattle.replay_log.specs.declared.lines.Line.{Line}
use Rattle.pair_theorem.specs.Events.{outcome_of}
use Rattle.pair_theorem.specs.FrameParts.{event_acks, is_said, last_ack, lines_in, tuple_acks}
use Rattle.pair_theorem.specs.History.{pair_log, past_from}
use Rattle.pair_theorem.specs.Past.{Outcome, Past, Start, Step, first_past, releasing_items}
use Rattle.pair_theorem.specs.Places.{Event}
use Rattle.pair_theorem.specs.Starts.{IsStart, boots}
use Rattle.pair_theorem.proofs.EachHistory.{Fits, Reached, begins, goes, is_stopped, reached_log, released_by, reported_stopped}
use Rattle.pair_theorem.proofs.EachLog.{frames_are}
use Rattle.pair_theorem.proofs.EventCases.{each_case}
use Rattle.theorem_frames.proofs.EachEvent.{each_event, event_after}
use Rattle.theorem_frames.proofs.ShownLemmas.{symbols_of_each_log}
use Rattle.theorem_prompt.specs.Said.{AcksAreLast, AcksOfEachLog, PromptOfEachLog}
use Rattle.theorem_prompt.proofs.AckEvents.{AgreesAfter, EventSaid, each_said}

released-push : (steps : List Step) (s : Step) → released_by (steps ++ s ∷ []) ≡ released_by steps ++ s.released
released-push steps s =
    flat_map-append (λ (x : Step). x.released) steps (s ∷ [])
    ∙ ap (λ (rs : List Released). released_by steps ++ rs) (append-nil s.released)

-- WHAT HOLDS OF A HISTORY
record HasSaid (a : Start) (steps : List Step) (past : Past) : Type 0 where
  said : AcksAreLast a (released_by steps) past.progress
  agreed : past.awaits_ack ≡ false → AgreesAfter past

first_said : (a : Start) → IsStart a → HasSaid a [] (first_past a)
first_said a (boots kind stream state m n regular fits bytes are) = record {
  said = λ t w e. ap (option_map (λ (v : AckWindow). v.ack)) e;
  agreed = λ calm t o opened some. absurd (omega (arith, some));
}

event_said : (a : Start) (steps : List Step) (past : Past) (x : Line) → Reached Fits a steps past → Fits past x →
    HasSaid a steps past → EventSaid a (released_by steps) (outcome_of a.kind a.stream past x)
event_said a steps past x r fits h =
    each_case a.kind a.stream (λ (p : Past) (l : Line) (o : Outcome). (released : List Released) →
    (p.is_reported ≡ true → is_stopped p.stop ≡ true) → Fits p l → AcksAreLast a released p.progress →
    (p.awaits_ack ≡ false → AgreesAfter p) → EventSaid a released o) (each_said a) past x (released_by steps)
    (reported_stopped a steps past r) fits h.said h.agreed

said_reached : (a : Start) → IsStart a → (steps : List Step) (past : Past) → Reached Fits a steps past →
    HasSaid a steps past
said_reached a start steps past begins = first_said a start
said_reached a start steps past (goes before old x h fits) =
    let o = outcome_of a.kind a.stream old x in
    let now = event_said a before old x h fits (said_reached a start before old h) in
    record {
      said = subst (λ (rs : List Released). AcksAreLast a rs o.after.progress) (sym (released-push before o.step))
          now.said;
      agreed = now.agreed;
    }

-- AS A TEST
all_true : {X : Type 0} (p : X → Bool) (xs : List X) → ((x : X) → p x ≡ true) → list_all p xs ≡ true
all_true p [] h = refl
all_true p (x ∷ xs) h = and_from (p x) (list_all p xs) (h x) (all_true p xs h)

opened_by_client : (mine theirs : Option Opening) → have_one_client mine theirs ≡ true →
    (o : Opening) × (mine ≡ Some o)
opened_by_client None theirs e = absurd (true≢false (sym e))
opened_by_client (Some o) theirs e = (o, refl)

tuple_said : (a : Start) (past : Past) (released : List Released) (t : Tuple) →
    AcksAreLast a released past.progress → AgreesAfter past → tuple_acks a past released t ≡ true
unfolding tuple_acks lines_in both_lines
tuple_said a past released t said agreed =
    by (nat_lt 0 (progress_of t past.progress).edge && has_one_client b) refl
  where
    b : BothLines
    b = lines_in past t

    by : (due : Bool) → (nat_lt 0 (progress_of t past.progress).edge && has_one_client b) ≡ due →
        (not due || is_said (last_ack a t released) (agreed_ack b)) ≡ true
    by false e = refl
    by true e =
        let parts = and_parts (nat_lt 0 (progress_of t past.progress).edge) (has_one_client b) e in
        let opened = opened_by_client b.mine.opening b.theirs.opening parts.1 in
        let last = agreed t opened.0 opened.1 (ltb-true 0 (progress_of t past.progress).edge parts.0) in
        ap (λ (n : Option ℕ). is_said n (agreed_ack b)) (said t (agreed_ack_window b) last)
        ∙ eq-eqb (agreed_ack b) (agreed_ack b) refl

acks_said : (a : Start) (e : Event) → AcksAreLast a (e.released ++ e.step.released) e.outcome.after.progress →
    (e.outcome.after.awaits_ack ≡ false → AgreesAfter e.outcome.after) → IsTrue (event_acks a e)
unfolding event_acks
acks_said a e said agreed = by e.outcome.after.awaits_ack refl
  where
    past : Past
    past = e.outcome.after

    test : Tuple → Bool
    test t = tuple_acks a past (e.released ++ e.step.released) t

    by : (awaits : Bool) → past.awaits_ack ≡ awaits → (awaits || list_all test (order (releasing_items past))) ≡ true
    by true f = refl
    by false f =
        all_true test (order (releasing_items past))
        (λ t. tuple_said a past (e.released ++ e.step.released) t said (agreed f))

pub acks_hold : AcksOfEachLog
acks_hold a schedule start one =
    each_event Fits a (λ (e : Event). IsTrue (event_acks a e))
    (λ steps past x r fits.
    let now = event_said a steps past x r fits (said_reached a start steps past r) in
    acks_said a (event_after a steps past x) now.said now.agreed)
    (pair_log a schedule) (past_from a.kind a.stream (first_past a) schedule) (reached_log a schedule one)

-- THE EIGHTH PART
pub prompt_holds : PromptOfEachLog
prompt_holds a schedule start one = record {
  settled = frames_are a schedule;
  shows = record { symbols = symbols_of_each_log a schedule start; acks = acks_hold a schedule start one };
}
