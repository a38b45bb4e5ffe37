-- After each front of a log all that the primary released stands in what is known of the secondary.
use Rattle.std.proofs.Common.{◌≡◌, false, List, ◌++◌, sym, subst, ◌∙◌}
use Rattle.std.proofs.lemmas.Bool.{or_parts}
use Rattle.std.proofs.lemmas.List.Elements.{All-append, All-nil, All-weaker}
use Rattle.inet_frame.specs.Fields.{TcpFields}
use Rattle.tcp_track.specs.Lines.{line, sent_of}
use Rattle.settle_rules.specs.Release.{Released}
use Rattle.replay_log.specs.declared.lines.Line.{Line}
use Rattle.pair_theorem.specs.Events.{outcome_of}
use Rattle.pair_theorem.specs.FrameParts.{PlaceAcks, PlaceStands}
use Rattle.pair_theorem.specs.Log.{is_report}
use Rattle.pair_theorem.specs.Past.{Outcome, Past, Start, Step}
use Rattle.pair_theorem.specs.Places.{Place, event_places, events, events_from, places}
use Rattle.pair_theorem.specs.Splicing.{StandIn}
use Rattle.pair_theorem.specs.Starts.{IsStart, boots}
use Rattle.pair_theorem.proofs.EachHistory.{Fits, Reached, begins, each_log, goes, released_by, stop_facts}
use Rattle.pair_theorem.proofs.EventCases.{each_case}
use Rattle.theorem_frames.proofs.EachEvent.{event_after}
use Rattle.theorem_frames.proofs.GrowthLemmas.{places_go_on}
use Rattle.theorem_frames.proofs.ShapeLemmas.{IsOfBytes, bytes_of_start}
use Rattle.theorem_frames.proofs.ShownLemmas.{bytes_reached}
use Rattle.theorem_runs.proofs.Pausing.{is_paused}
use Rattle.theorem_stands.specs.Numbered.{NumbersAreKept}
use Rattle.theorem_stands.proofs.NumberedEvents.{not_yet, numbers_reached}
use Rattle.theorem_symbols.specs.Shown.{SynsAreShown}
use Rattle.theorem_symbols.proofs.ReleasedLogs.{places_push, shown_reached, stand_in, stands_with_primary}
use Rattle.theorem_known.specs.Fronts.{FrontsOfEachLog, PrimarySplicesOf}
use Rattle.theorem_known.proofs.BothRight.{AllBelow}
use Rattle.theorem_known.proofs.FrontLemmas.{each_front}
use Rattle.theorem_known.proofs.HeardLemmas.{known_splices_hold}
use Rattle.theorem_known.proofs.StandsEvents.{BelowKnown, Source, With, knows_more, knows_own, with_cases}

-- WHAT STANDS GOES ON
pub more_stand : (old new xs : List TcpFields) (ps : List Place) → new ≡ old ++ xs → StandIn old ps → StandIn new ps
more_stand old new xs ps e h =
    subst (λ (said : List TcpFields). StandIn said ps) (sym e) (
      All-weaker (PlaceStands old) (PlaceStands (old ++ xs))
          (λ (p : Place) (g : PlaceStands old p). (places_go_on old xs p).stands g) ps h.0,
      All-weaker (PlaceAcks old) (PlaceAcks (old ++ xs))
          (λ (p : Place) (g : PlaceAcks old p). (places_go_on old xs p).acks g) ps h.1,
    )

both_stand : (said : List TcpFields) (ps qs : List Place) → StandIn said ps → StandIn said qs → StandIn said (ps ++ qs)
both_stand said ps qs h g =
    (All-append (PlaceStands said) ps qs h.0 g.0, All-append (PlaceAcks said) ps qs h.1 g.1)

-- all that was released, and the symbols below the edges
record StandsKnown (a : Start) (steps : List Step) (past : Past) : Type 0 where
  stand : StandIn (sent_of past.known_items) (places a steps)
  below : AllBelow (sent_of past.known_items) past.primary.items past.progress

first_below : (a : Start) → IsStart a → AllBelow (sent_of a.items) a.items a.progress
unfolding line
first_below a (boots kind stream state m n regular fits bytes are) t o k x e low f = absurd (cc e)

-- the event of a line
event_with : (a : Start) → IsStart a → (steps : List Step) (past : Past) (x : Line) → Reached Fits a steps past
    → BelowKnown past
    → With a (released_by steps) past (outcome_of a.kind a.stream past x).step (outcome_of a.kind a.stream past x).after
event_with a start steps past x r below =
    let bytes = bytes_of_start a start in
    each_case a.kind a.stream (λ (p : Past) (l : Line) (o : Outcome). (released : List Released) → IsOfBytes a.kind p
    → NumbersAreKept p → SynsAreShown a released p.progress → BelowKnown p → With a released p o.step o.after)
    (with_cases a bytes.regular) past x (released_by steps)
    (bytes_reached Fits a bytes.regular bytes.stream bytes.first steps past r) (numbers_reached a start steps past r)
    (shown_reached a start steps past r) below

earlier_stand : (a : Start) (steps : List Step) (known own now : List TcpFields) → Source known own now
    → StandIn known (places a steps) → StandIn own (places a steps) → StandIn now (places a steps)
earlier_stand a steps known own now (knows_more xs e) h g = more_stand known now xs (places a steps) e h
earlier_stand a steps known own now (knows_own e) h g =
    subst (λ (said : List TcpFields). StandIn said (places a steps)) (sym e) g

stands_reached : (a : Start) → IsStart a → (steps : List Step) (past : Past) → Reached Fits a steps past
    → past.is_reported ≡ false → StandsKnown a steps past
unfolding places events events_from event_places
stands_reached a start steps past begins alone = record {
  stand = (All-nil (PlaceStands (sent_of a.items)), All-nil (PlaceAcks (sent_of a.items)));
  below = first_below a start;
}
stands_reached a start steps past (goes before old x h fits) alone =
    let o = outcome_of a.kind a.stream old x in
    let said = sent_of o.after.known_items in
    let earlier = (or_parts old.is_reported (is_report x)
    (sym (stop_facts a.kind a.stream old x).report ∙ alone)).0 in
    let so_far = stands_reached a start before old h earlier in
    let with_it = event_with a start before old x h (λ f. so_far.below) alone in
    let own = stands_with_primary a start before old h (not_yet old earlier) in
    record {
      stand = subst (λ (ps : List Place). StandIn said ps) (sym (places_push a before old x h))
          (both_stand said (places a before) (event_places a (event_after a before old x))
          (earlier_stand a before (sent_of old.known_items) (sent_of old.primary.items) said with_it.source
          so_far.stand own)
          (stand_in said (event_places a (event_after a before old x)) with_it.right));
      below = with_it.below;
    }

splices_reached : (a : Start) → IsStart a → (steps : List Step) (past : Past) → Reached Fits a steps past
    → PrimarySplicesOf a steps past
splices_reached a start steps past r alone = record {
  known = (stands_reached a start steps past r alone).stand;
  copied = λ awaits. subst (λ (said : List TcpFields). StandIn said (places a steps))
      (is_paused a steps past r awaits).said (stands_with_primary a start steps past r (not_yet past alone));
}

pub fronts_hold : FrontsOfEachLog
fronts_hold a lines start one front later e = record {
  known = known_splices_hold a lines start one front later e;
  primary = each_front a (PrimarySplicesOf a)
      (λ xs fits. each_log a (PrimarySplicesOf a) (splices_reached a start) xs fits) lines one front later e;
}
