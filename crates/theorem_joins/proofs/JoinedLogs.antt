-- The laws: all that a log released stands in the run that it names, across a stop of the primary.
use Rattle.std.proofs.Common.{◌≡◌, Bool, true, false, ◌&&◌, if◌then◌else◌, List, [], ◌∷◌, ◌++◌, append-nil, Some, refl, sym, ap, subst, ◌∙◌, All, true≢false}
use Rattle.std.proofs.lemmas.List.Elements.{All-append, All-pop}
use Rattle.inet_frame.specs.Fields.{TcpFields}
use Rattle.tcp_track.specs.Lines.{sent_of}
use Rattle.tcp_track.specs.Stands.{segments}
use Rattle.state_wire.specs.Run.{Run}
use Rattle.replay_log.specs.declared.lines.Line.{Line}
use Rattle.splice_run.specs.Log.{has_primary_stop}
use Rattle.splice_run.specs.Single.{primary_turns, secondary_turns, taken_turns}
use Rattle.pair_theorem.specs.Events.{outcome_of}
use Rattle.pair_theorem.specs.FrameParts.{PlaceAcks, PlaceStands}
use Rattle.pair_theorem.specs.History.{entries, pair_log, past_at}
use Rattle.pair_theorem.specs.Log.{HasOneStop}
use Rattle.pair_theorem.specs.Past.{Outcome, Past, Start, Step, secondary_releases}
use Rattle.pair_theorem.specs.Places.{Place, event_places, events, places}
use Rattle.pair_theorem.specs.Splicing.{StandIn, SurvivorStands}
use Rattle.pair_theorem.specs.Starts.{IsStart}
use Rattle.pair_theorem.specs.TheRun.{run_of, run_segments, the_run}
use Rattle.pair_theorem.proofs.EachHistory.{Fits, Reached, begins, each_log, goes, reported_stopped, stop_facts}
use Rattle.pair_theorem.proofs.EventCases.{each_case}
use Rattle.theorem_frames.proofs.EachEvent.{event_after, one_event_more}
use Rattle.theorem_runs.specs.Links.{OneCheckpoint, calm, coming, going, put}
use Rattle.theorem_runs.proofs.Checkpoints.{one_checkpoint}
use Rattle.theorem_runs.proofs.Cuts.{are_cut}
use Rattle.theorem_runs.proofs.Items.{say_items}
use Rattle.theorem_runs.proofs.Parts.{run_is, starts_plain}
use Rattle.theorem_runs.proofs.Running.{are_runs}
use Rattle.theorem_runs.proofs.Stops.{stop_named}
use Rattle.theorem_splices.specs.Known.{KnowsSecondary, after_ack, has_ack, segments_on}
use Rattle.theorem_splices.proofs.KnownLemmas.{known_holds}
use Rattle.theorem_splices.proofs.KnownSteps.{replies_hold_no_ack}
use Rattle.theorem_symbols.specs.Releases.{StandsInRun}
use Rattle.theorem_symbols.proofs.ReleasedLogs.{places_push, stands_without_stop, survivor_stands}
use Rattle.theorem_known.specs.Fronts.{PrimarySplicesOf}
use Rattle.theorem_known.proofs.StandsLogs.{fronts_hold, more_stand}
use Rattle.theorem_joins.specs.Joins.{AcksOfEachLog, SecondaryCouldGoOn, SecondaryGoesOn, StandsOfEachLog, StandsWithBoth, StandsWithSecondary}
use Rattle.theorem_joins.proofs.Histories.{of_history}
use Rattle.theorem_joins.proofs.SecondarySends.{SendsOn, SendsOnOf, each_sends}

-- UNTIL A REPORT
awaits_heard : (past : Past) → OneCheckpoint past → has_ack past.to_primary ≡ true → past.awaits_ack ≡ true
awaits_heard past (calm h) e = absurd (true≢false (sym e ∙ replies_hold_no_ack past.to_primary h.up))
awaits_heard past (put before later h) e = h.awaits
awaits_heard past (going told rest later h) e = h.awaits
awaits_heard past (coming before later h) e = h.awaits

-- what is known of the secondary is a front of what it sent, and so is what the copy sent from its commit on
in_either : (a : Start) (steps : List Step) (past : Past) → OneCheckpoint past → KnowsSecondary past
    → PrimarySplicesOf a steps past → StandsWithBoth a steps past
in_either a steps past one knows splices alone = by (has_ack past.to_primary) refl
  where
    own : List TcpFields
    own = sent_of past.secondary.items

    by : (b : Bool) → has_ack past.to_primary ≡ b → StandIn own (places a steps)
    by false e =
        let front = (knows alone).front e in
        more_stand (sent_of past.known_items) own front.0 (places a steps) front.1 (splices alone).known
    by true e =
        more_stand (sent_of past.copy.run.items) own (segments_on (after_ack past.to_primary)) (places a steps)
        (sym ((knows alone).copied e)) ((splices alone).copied (awaits_heard past one e))

splices_log : (a : Start) → IsStart a → (lines : List Line) → HasOneStop lines
    → PrimarySplicesOf a (pair_log a lines) (past_at a (pair_log a lines))
splices_log a start lines one =
    (fronts_hold a lines start one (pair_log a lines) [] (sym (append-nil (pair_log a lines)))).primary

both_stand : (a : Start) → IsStart a → (steps : List Step) (past : Past) → Reached Fits a steps past
    → StandsWithBoth a steps past
both_stand a start steps past r =
    in_either a steps past (one_checkpoint Fits a steps past r)
    (of_history a (λ xs p. KnowsSecondary p) (known_holds a) steps past r)
    (of_history a (PrimarySplicesOf a) (splices_log a start) steps past r)

-- FROM THE REPORT ON
last_stands : (a : Start) → IsStart a → (steps : List Step) (past : Past) (x : Line) → Reached Fits a steps past
    → Fits past x → SurvivorStands a (event_after a steps past x)
last_stands a start steps past x r fits =
    let e = event_after a steps past x in
    let all : All (SurvivorStands a) (events a (steps ++ e.step ∷ [])) =
    of_history a (λ xs p. All (SurvivorStands a) (events a xs)) (λ lines one. survivor_stands a lines start one)
    (steps ++ e.step ∷ []) e.outcome.after (goes steps past x r fits) in
    (All-pop (SurvivorStands a) (events a steps ++ e ∷ []) (events a steps) (Some e) refl
    (subst (All (SurvivorStands a)) (one_event_more Fits a steps past x r) all)).1

together : (said : List TcpFields) (ps qs : List Place) → StandIn said ps → StandIn said qs → StandIn said (ps ++ qs)
together said ps qs h g =
    (All-append (PlaceStands said) ps qs h.0 g.0, All-append (PlaceAcks said) ps qs h.1 g.1)

one_more : (a : Start) → IsStart a → (steps : List Step) (past : Past) (x : Line) → Reached Fits a steps past
    → Fits past x → StandsWithSecondary a steps past
    → secondary_releases (outcome_of a.kind a.stream past x).after ≡ true
    → StandIn (sent_of (outcome_of a.kind a.stream past x).after.secondary.items)
    (places a (steps ++ (outcome_of a.kind a.stream past x).step ∷ []))
one_more a start steps past x r fits h releases =
    let o = outcome_of a.kind a.stream past x in
    let said = sent_of o.after.secondary.items in
    let new = event_places a (event_after a steps past x) in
    let sends : SendsOn past o.after =
    each_case a.kind a.stream SendsOnOf (each_sends a.kind a.stream) past x (stop_facts a.kind a.stream past x) fits
    (reported_stopped a steps past r) releases in
    subst (λ (ps : List Place). StandIn said ps) (sym (places_push a steps past x r))
    (together said (places a steps) new
    (more_stand (sent_of past.secondary.items) said sends.more (places a steps) sends.sent_is (h sends.before))
    (last_stands a start steps past x r fits releases))

after_event : (a : Start) → IsStart a → (steps : List Step) (past : Past) (x : Line) → Reached Fits a steps past
    → Fits past x → StandsWithSecondary a steps past
    → StandsWithSecondary a (steps ++ (outcome_of a.kind a.stream past x).step ∷ [])
    (outcome_of a.kind a.stream past x).after
after_event a start steps past x r fits h stop = by o.after.is_reported refl
  where
    o : Outcome
    o = outcome_of a.kind a.stream past x

    by : (b : Bool) → o.after.is_reported ≡ b
        → StandIn (sent_of o.after.secondary.items) (places a (steps ++ o.step ∷ []))
    by true e = one_more a start steps past x r fits h (λ i. stop i && e i)
    by false e = both_stand a start (steps ++ o.step ∷ []) o.after (goes steps past x r fits) e

goes_on : (a : Start) → IsStart a → (steps : List Step) (past : Past) → Reached Fits a steps past
    → StandsWithSecondary a steps past
goes_on a start steps past begins = λ stop. absurd (true≢false (sym stop))
goes_on a start steps past (goes before old x r fits) =
    after_event a start before old x r fits (goes_on a start before old r)

pub could_go_on : SecondaryCouldGoOn
could_go_on a lines start = each_log a (StandsWithBoth a) (both_stand a start) lines

pub secondary_goes_on : SecondaryGoesOn
secondary_goes_on a lines start = each_log a (StandsWithSecondary a) (goes_on a start) lines

-- WITH A STOP OF THE PRIMARY the run is the secondary's
pub run_segments_are : (a : Start) → IsStart a → (steps : List Step) (past : Past) → Reached Fits a steps past
    → has_primary_stop (entries steps) ≡ true → sent_of past.secondary.items ≡ run_segments a (entries steps)
unfolding run_segments the_run taken_turns secondary_turns
run_segments_are a start steps past r e =
    let plain = starts_plain a start in
    let log = entries steps in
    let cut = are_cut Fits a steps past r in
    let runs = are_runs Fits a plain steps past r in
    let run : past.secondary.run ≡ run_of a log (secondary_turns log) =
    run_is a log past.secondary (secondary_turns log) plain.inbox cut.secondary runs.secondary in
    (say_items Fits a plain.said steps past r).secondary
    ∙ (ap (λ (x : Run). segments x.sent) run
    ∙ ap (λ (b : Bool). segments (run_of a log (if b then secondary_turns log else primary_turns log)).sent) (sym e))

with_stop : (a : Start) → IsStart a → (steps : List Step) (past : Past) → Reached Fits a steps past
    → has_primary_stop (entries steps) ≡ true → StandsInRun a steps
with_stop a start steps past r e =
    let all =
    subst (λ (said : List TcpFields). StandIn said (places a steps)) (run_segments_are a start steps past r e)
    (goes_on a start steps past r (sym (stop_named a steps past r) ∙ e)) in
    record { stands = all.0; acks = all.1 }

-- STANDS AND ACKS
abbrev WithStop : Start → List Step → Past → Type 0
WithStop a steps past = has_primary_stop (entries steps) ≡ true → StandsInRun a steps

in_run : (a : Start) → IsStart a → (lines : List Line) → HasOneStop lines → StandsInRun a (pair_log a lines)
in_run a start lines one = by (has_primary_stop (entries (pair_log a lines))) refl
  where
    by : (b : Bool) → has_primary_stop (entries (pair_log a lines)) ≡ b → StandsInRun a (pair_log a lines)
    by true e = each_log a (WithStop a) (with_stop a start) lines one e
    by false e = stands_without_stop a lines start one e

pub stands_hold : StandsOfEachLog
stands_hold a lines start one = (in_run a start lines one).stands

pub acks_hold : AcksOfEachLog
acks_hold a lines start one = (in_run a start lines one).acks
