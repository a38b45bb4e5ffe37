-- The laws: of every log, what is released stands, at once and in the run.
use Rattle.std.proofs.Common.{◌≡◌, Bool, false, if◌then◌else◌, List, [], ◌∷◌, ◌++◌, append-nil, sym, ap, subst, ◌∙◌, All}
use Rattle.std.specs.List.{flat_map}
use Rattle.std.specs.Option.{option_map}
use Rattle.std.proofs.lemmas.Grind.{flat_map-append}
use Rattle.std.proofs.lemmas.List.Elements.{All-append, All-nil, All-weaker}
use Rattle.inet_frame.specs.Fields.{TcpFields}
use Rattle.tcp_track.specs.Lines.{Item, sent_of}
use Rattle.tcp_track.specs.Stands.{segments}
use Rattle.tcp_track.specs.declared.openings.Opening.{Opening}
use Rattle.settle_rules.specs.Release.{Released}
use Rattle.state_wire.specs.Run.{Run}
use Rattle.replay_log.specs.declared.lines.Line.{Line}
use Rattle.splice_run.specs.Log.{has_primary_stop}
use Rattle.splice_run.specs.Single.{primary_turns, secondary_turns, taken_turns}
use Rattle.pair_theorem.specs.Events.{outcome_of}
use Rattle.pair_theorem.specs.FrameParts.{PlaceAcks, PlaceStands}
use Rattle.pair_theorem.specs.History.{entries, pair_log, past_from}
use Rattle.pair_theorem.specs.Past.{Outcome, Past, Start, Step, first_past, secondary_releases}
use Rattle.pair_theorem.specs.Places.{Event, Place, event_places, events, events_from, places}
use Rattle.pair_theorem.specs.Splicing.{StandIn, SurvivorStands}
use Rattle.pair_theorem.specs.Starts.{IsStart}
use Rattle.pair_theorem.specs.TheRun.{run_of, run_segments, the_run}
use Rattle.pair_theorem.proofs.EachHistory.{Fits, Reached, begins, each_log, goes, reached_log, released_by}
use Rattle.pair_theorem.proofs.EventCases.{each_case}
use Rattle.theorem_frames.proofs.EachEvent.{each_event, event_after, one_event_more}
use Rattle.theorem_frames.proofs.GrowthLemmas.{places_go_on}
use Rattle.theorem_frames.proofs.ShapeLemmas.{IsOfBytes, bytes_of_start}
use Rattle.theorem_frames.proofs.ShownLemmas.{bytes_reached}
use Rattle.theorem_runs.proofs.Cuts.{are_cut}
use Rattle.theorem_runs.proofs.Items.{say_items}
use Rattle.theorem_runs.proofs.Parts.{run_is, starts_plain}
use Rattle.theorem_runs.proofs.Running.{are_runs}
use Rattle.theorem_runs.proofs.Stops.{stop_named}
use Rattle.theorem_stands.specs.Numbered.{NumbersAreKept, shown_as}
use Rattle.theorem_stands.proofs.NumberedEvents.{no_survivor, numbers_reached}
use Rattle.theorem_symbols.specs.Releases.{EachReleaseStands, EachSurvivorStands, PrimaryStands, StandsAtOnce, StandsInRun, StandsWithPrimary, StandsWithoutStop}
use Rattle.theorem_symbols.specs.Shown.{AreShown, ShownOfEachLog, SynsAreShown}
use Rattle.theorem_symbols.proofs.GoesOn.{GoesOn, each_front}
use Rattle.theorem_symbols.proofs.PlaceLemmas.{PlaceRight}
use Rattle.theorem_symbols.proofs.ReleaseEvents.{EventRight, each_right}

-- THE SYNS SHOWN
released-push : (steps : List Step) (s : Step) → released_by (steps ++ s ∷ []) ≡ released_by steps ++ s.released
released-push steps s =
    flat_map-append (λ (x : Step). x.released) steps (s ∷ [])
    ∙ ap (λ (rs : List Released). released_by steps ++ rs) (append-nil s.released)

event_right : (a : Start) → IsStart a → (steps : List Step) (past : Past) (x : Line) → Reached Fits a steps past →
    SynsAreShown a (released_by steps) past.progress →
    EventRight a (released_by steps) (outcome_of a.kind a.stream past x)
event_right a start steps past x r shown =
    let bytes = bytes_of_start a start in
    each_case a.kind a.stream (λ (p : Past) (l : Line) (o : Outcome). (released : List Released) →
    IsOfBytes a.kind p → NumbersAreKept p → SynsAreShown a released p.progress → EventRight a released o)
    (each_right a bytes.regular) past x (released_by steps)
    (bytes_reached Fits a bytes.regular bytes.stream bytes.first steps past r) (numbers_reached a start steps past r)
    shown

shown_first : (a : Start) → SynsAreShown a [] a.progress
shown_first a t o e = ap (option_map (λ (q : Opening). q.own)) e

pub shown_reached : (a : Start) → IsStart a → (steps : List Step) (past : Past) → Reached Fits a steps past →
    SynsAreShown a (released_by steps) past.progress
shown_reached a start steps past begins = shown_first a
shown_reached a start steps past (goes before old x h fits) =
    let o = outcome_of a.kind a.stream old x in
    subst (λ (rs : List Released). SynsAreShown a rs o.after.progress) (sym (released-push before o.step))
    (event_right a start before old x h (shown_reached a start before old h)).shown

are_shown : (a : Start) → IsStart a → (steps : List Step) (past : Past) → Reached Fits a steps past →
    AreShown a steps past
are_shown a start steps past r =
    let last = shown_reached a start steps past r in
    let kept = numbers_reached a start steps past r in
    record { last = last; kept = λ t o e some. last t (shown_as t o past.numbers) ((kept t).shown o e some) }

pub shown_holds : ShownOfEachLog
shown_holds a schedule start one = each_log a (AreShown a) (are_shown a start) schedule one

-- AT ONCE
pub stand_in : (said : List TcpFields) (ps : List Place) → All (PlaceRight said) ps → StandIn said ps
stand_in said ps h = (
  All-weaker (PlaceRight said) (PlaceStands said) (λ (p : Place) (g : PlaceRight said p). g.stands) ps h,
  All-weaker (PlaceRight said) (PlaceAcks said) (λ (p : Place) (g : PlaceRight said p). g.acks) ps h,
)

each_stands : (a : Start) → IsStart a → (steps : List Step) (past : Past) → Reached Fits a steps past →
    All (StandsAtOnce a) (events a steps)
unfolding event_places
each_stands a start =
    each_event Fits a (StandsAtOnce a) (λ steps past x r fits.
    stand_in _ _ (event_right a start steps past x r (shown_reached a start steps past r)).right)

pub releases_stand : EachReleaseStands
releases_stand a schedule start one =
    each_stands a start (pair_log a schedule) (past_from a.kind a.stream (first_past a) schedule)
    (reached_log a schedule one)

pub survivor_stands : EachSurvivorStands
survivor_stands a schedule start one =
    All-weaker (StandsAtOnce a) (SurvivorStands a)
    (λ (e : Event) (h : StandsAtOnce a e) s.
    subst (λ (xs : List Item). StandIn (sent_of xs) (event_places a e))
    (ap (λ (b : Bool). if b then e.outcome.after.secondary.items else e.outcome.after.primary.items) s) h)
    (events a (pair_log a schedule)) (releases_stand a schedule start one)

-- UNTIL A SURVIVOR RELEASES
more_right : (old new more : List TcpFields) (ps : List Place) → new ≡ old ++ more → All (PlaceRight old) ps →
    All (PlaceRight new) ps
more_right old new more ps e h =
    subst (λ (said : List TcpFields). All (PlaceRight said) ps) (sym e)
    (All-weaker (PlaceRight old) (PlaceRight (old ++ more))
    (λ (p : Place) (g : PlaceRight old p). record {
      stands = (places_go_on old more p).stands g.stands;
      acks = (places_go_on old more p).acks g.acks;
    }) ps h)

pub places_push : (a : Start) (steps : List Step) (past : Past) (x : Line) → Reached Fits a steps past →
    places a (steps ++ (outcome_of a.kind a.stream past x).step ∷ [])
    ≡ places a steps ++ event_places a (event_after a steps past x)
unfolding places
places_push a steps past x r =
    ap (λ (es : List Event). flat_map (event_places a) es) (one_event_more Fits a steps past x r)
    ∙ (flat_map-append (event_places a) (events a steps) (event_after a steps past x ∷ [])
    ∙ ap (λ (ps : List Place). flat_map (event_places a) (events a steps) ++ ps)
    (append-nil (event_places a (event_after a steps past x))))

primary_right : (a : Start) → IsStart a → (steps : List Step) (past : Past) → Reached Fits a steps past →
    secondary_releases past ≡ false → All (PlaceRight (sent_of past.primary.items)) (places a steps)
unfolding places events events_from event_places
primary_right a start steps past begins e = All-nil (PlaceRight (sent_of past.primary.items))
primary_right a start steps past (goes before old x h fits) e =
    let o = outcome_of a.kind a.stream old x in
    let said = sent_of o.after.primary.items in
    let front : GoesOn old o.after =
    each_case a.kind a.stream (λ (p : Past) (l : Line) (q : Outcome). Fits p l →
    secondary_releases q.after ≡ false → GoesOn p q.after) (each_front a.kind a.stream) old x fits e in
    let now = (event_right a start before old x h (shown_reached a start before old h)).right in
    let here : All (PlaceRight said) (event_places a (event_after a before old x)) =
    subst (λ (xs : List Item). All (PlaceRight (sent_of xs)) (event_places a (event_after a before old x)))
    (ap (λ (b : Bool). if b then o.after.secondary.items else o.after.primary.items) e) now in
    subst (All (PlaceRight said)) (sym (places_push a before old x h))
    (All-append (PlaceRight said) (places a before) (event_places a (event_after a before old x))
    (more_right (sent_of old.primary.items) said front.more (places a before) front.sent_is
    (primary_right a start before old h front.before)) here)

pub stands_with_primary : (a : Start) → IsStart a → (steps : List Step) (past : Past) → Reached Fits a steps past →
    StandsWithPrimary a steps past
stands_with_primary a start steps past r e =
    stand_in (sent_of past.primary.items) (places a steps) (primary_right a start steps past r e)

pub primary_stands : PrimaryStands
primary_stands a schedule start one = each_log a (StandsWithPrimary a) (stands_with_primary a start) schedule one

-- WITHOUT A STOP OF THE PRIMARY the run is the primary's
run_segments_are : (a : Start) → IsStart a → (steps : List Step) (past : Past) → Reached Fits a steps past →
    has_primary_stop (entries steps) ≡ false → sent_of past.primary.items ≡ run_segments a (entries steps)
unfolding run_segments the_run taken_turns primary_turns
run_segments_are a start steps past r e =
    let plain = starts_plain a start in
    let log = entries steps in
    let cut = are_cut Fits a steps past r in
    let runs = are_runs Fits a plain steps past r in
    let run : past.primary.run ≡ run_of a log (primary_turns log) =
    run_is a log past.primary (primary_turns log) plain.inbox cut.primary runs.primary in
    (say_items Fits a plain.said steps past r).primary
    ∙ (ap (λ (x : Run). segments x.sent) run
    ∙ ap (λ (b : Bool). segments (run_of a log (if b then secondary_turns log else primary_turns log)).sent) (sym e))

without_stop : (a : Start) → IsStart a → (steps : List Step) (past : Past) → Reached Fits a steps past →
    has_primary_stop (entries steps) ≡ false → StandsInRun a steps
without_stop a start steps past r e =
    let stop = sym (stop_named a steps past r) ∙ e in
    let all =
    subst (λ (said : List TcpFields). StandIn said (places a steps)) (run_segments_are a start steps past r e)
    (stands_with_primary a start steps past r (no_survivor past stop)) in
    record { stands = all.0; acks = all.1 }

pub stands_without_stop : StandsWithoutStop
stands_without_stop a schedule start one e =
    without_stop a start (pair_log a schedule) (past_from a.kind a.stream (first_past a) schedule)
    (reached_log a schedule one) e
