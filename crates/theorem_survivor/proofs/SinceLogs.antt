-- What was shown until a report: the secondary has the number of each SYN since the last committed capture, and of each
-- connection of which symbols went out the SYN that was shown.
use Rattle.std.proofs.Common.{◌≡◌, ◌⊎◌, inl, inr, ◌<◌, true, false, if◌then◌else◌, List, [], ◌∷◌, ◌++◌, append-nil, append_assoc, fold, Some, refl, sym, ap, subst, ◌∙◌, All, Contains}
use Rattle.std.specs.List.{filter_map, list_any}
use Rattle.std.proofs.lemmas.Bool.{or_parts}
use Rattle.std.proofs.lemmas.Grind.{fold-append}
use Rattle.std.proofs.lemmas.List.Elements.{All-append, All-contains, All-nil, All-weaker, Contains-append_left, Contains-append_right, filter_map-append}
use Rattle.inet_frame.specs.Fields.{TcpFields}
use Rattle.tcp_track.specs.Lines.{line, sent_of}
use Rattle.tcp_track.specs.declared.openings.Opening.{Opening}
use Rattle.settle_rules.specs.Numbers.{KeptNumber}
use Rattle.settle_rules.specs.Progress.{ProgressTable, progress_of}
use Rattle.settle_rules.specs.Release.{Released}
use Rattle.colo_wire.specs.declared.messages.Message.TheVariants.{Known}
use Rattle.replay_log.specs.declared.lines.Line.{Line}
use Rattle.pair_theorem.specs.Events.{outcome_of}
use Rattle.pair_theorem.specs.FrameParts.{Syn, syn_of, syn_shown, syn_shown_on, syns}
use Rattle.pair_theorem.specs.Log.{is_report}
use Rattle.pair_theorem.specs.LogParts.{is_captured, is_committed}
use Rattle.pair_theorem.specs.Past.{Outcome, Past, Start, Step}
use Rattle.pair_theorem.specs.Places.{Event, Place, event_places, events, events_from, places}
use Rattle.pair_theorem.specs.Splicing.{SynsSince, syns_after}
use Rattle.pair_theorem.specs.Starts.{IsStart, boots}
use Rattle.pair_theorem.proofs.EachHistory.{Fits, Reached, begins, goes, released_by, stop_facts}
use Rattle.pair_theorem.proofs.EventCases.{each_case}
use Rattle.theorem_frames.proofs.EachEvent.{event_after, one_event_more}
use Rattle.theorem_frames.proofs.LineLemmas.{lines_are_sound_lem}
use Rattle.theorem_frames.proofs.ShapeLemmas.{bytes_of_start}
use Rattle.theorem_frames.proofs.ShownLemmas.{bytes_reached}
use Rattle.theorem_runs.proofs.Checkpoints.{one_checkpoint, pop_up, reply_calm}
use Rattle.theorem_runs.proofs.Pausing.{is_paused}
use Rattle.theorem_splices.proofs.KnownSteps.{replies_hold_no_ack}
use Rattle.theorem_stands.specs.Numbered.{AreNumbered, shown_as}
use Rattle.theorem_stands.proofs.KeptLemmas.{number_for}
use Rattle.theorem_stands.proofs.NumberedEvents.{not_yet, numbers_reached, when_primary}
use Rattle.theorem_symbols.proofs.ReleasedLogs.{places_push}
use Rattle.theorem_symbols.proofs.SettleRight.{opening_is}
use Rattle.theorem_numbers.proofs.SynLemmas.{HasNumber, has_number}
use Rattle.theorem_survivor.proofs.EventNews.{Goes, GoesOf, Ground, IsFirst, LearnsHad, WasShown, commits, goes_cases, quiet, settles}
use Rattle.theorem_survivor.proofs.HadEvents.{acked_had, agree_reached, had_reached, number_had}
use Rattle.theorem_survivor.proofs.NewsLemmas.{news}
use Rattle.theorem_survivor.proofs.SettleNews.{EdgesShow, opened_by}
use Rattle.theorem_survivor.proofs.SurviveNews.{IsKeptFor}

-- WHAT THE PRIMARY LEARNS is had
learns_had : (a : Start) → IsStart a → (steps : List Step) (past : Past) → Reached Fits a steps past → LearnsHad past
learns_had a start steps past r alone m ms e idle =
    let first = pop_up past m ms e (one_checkpoint Fits a steps past r) in
    let had = had_reached a start steps past r in (
      λ t client number is.
          let calm = reply_calm past m (Known t client number) ms is refl idle first in
          (number_had past m ms t client number e is (replies_hold_no_ack ms calm.up) had alone).known,
      λ n is.
          (acked_had past m n ms e is first (is_paused a steps past r) (agree_reached a start steps past r) had
          alone).known,
    )

-- THE EVENT OF A LINE
event_goes : (a : Start) → IsStart a → (steps : List Step) (past : Past) (x : Line) → Reached Fits a steps past
    → (past.is_reported ≡ false → EdgesShow (WasShown past.secondary_numbers (syns a steps)) past.progress)
    → GoesOf a (released_by steps) (syns a steps) past (outcome_of a.kind a.stream past x)
event_goes a start steps past x r edges =
    let bytes = bytes_of_start a start in
    each_case a.kind a.stream (λ (p : Past) (l : Line) (o : Outcome). (released : List Released) (shown : List Syn)
    → Ground a shown p → LearnsHad p → GoesOf a released shown p o) (goes_cases a bytes.regular) past x
    (released_by steps) (syns a steps) (record {
      bytes = bytes_reached Fits a bytes.regular bytes.stream bytes.first steps past r;
      kept = numbers_reached a start steps past r;
      had = had_reached a start steps past r;
      one = one_checkpoint Fits a steps past r;
      paused = is_paused a steps past r;
      edges = edges;
    }) (learns_had a start steps past r)

-- the SYNs of the event of a line
pub event_news : Start → List Step → Past → Line → List Syn
event_news a steps past x =
    news a (outcome_of a.kind a.stream past x).after (released_by steps)
    (outcome_of a.kind a.stream past x).step.released

pub syns_push : (a : Start) (steps : List Step) (past : Past) (x : Line) → Reached Fits a steps past
    → syns a (steps ++ (outcome_of a.kind a.stream past x).step ∷ []) ≡ syns a steps ++ event_news a steps past x
unfolding syns event_news event_places
syns_push a steps past x r =
    ap (λ (ps : List Place). filter_map syn_shown a.progress ++ filter_map syn_of ps) (places_push a steps past x r)
    ∙ (ap (λ (xs : List Syn). filter_map syn_shown a.progress ++ xs)
    (filter_map-append syn_of (places a steps) (event_places a (event_after a steps past x)))
    ∙ sym (append_assoc (filter_map syn_shown a.progress) (filter_map syn_of (places a steps))
    (filter_map syn_of (event_places a (event_after a steps past x)))))

-- WHAT EDGES SHOW
-- each has a kept number
kept_edges : (past : Past) → AreNumbered past.primary.items past.numbers past.progress
    → EdgesShow (IsKeptFor past.numbers) past.progress
kept_edges past h t s e some =
    let l = line t past.primary.items in
    let here = h t in
    let edge = (progress_of t past.progress).edge in
    let o = opening_is l.opening (opened_by l edge (lines_are_sound_lem past.primary.items t) some here.within) in
    let is = same (shown_as t o.0 past.numbers) s (sym (here.shown o.0 o.1 some) ∙ e) in
    subst (λ (q : Opening). IsKeptFor past.numbers (syn_shown_on t q)) is
    (has_number past.numbers t o.0.client (number_for t o.0.client past.numbers) (here.kept o.0 o.1) refl)
  where
    same : (p q : Opening) → Some p ≡ Some q → p ≡ q
    same p q f = cc

primary_numbered : (a : Start) → IsStart a → (steps : List Step) (past : Past) → Reached Fits a steps past
    → past.is_reported ≡ false → AreNumbered past.primary.items past.numbers past.progress
primary_numbered a start steps past r alone =
    when_primary _ past.secondary.items past.primary.items past.numbers past.progress (not_yet past alone)
    (numbers_reached a start steps past r)

first_edges : (a : Start) → IsStart a → (P : Syn → Type 0) → EdgesShow P a.progress
first_edges a (boots kind stream state m n regular fits bytes are) P t s e some = absurd (cc e)

pub unreported : (a : Start) (old : Past) (x : Line)
    → (outcome_of a.kind a.stream old x).after.is_reported ≡ false → old.is_reported ≡ false
unreported a old x alone =
    (or_parts old.is_reported (is_report x) (sym (stop_facts a.kind a.stream old x).report ∙ alone)).0

edges_after : (shown new : List Syn) (old : Past) (step : Step) (after : Past)
    → AreNumbered old.primary.items old.numbers old.progress
    → EdgesShow (WasShown old.secondary_numbers shown) old.progress → Goes shown old step after new
    → EdgesShow (WasShown after.secondary_numbers (shown ++ new)) after.progress
edges_after shown new old step after numbered h (quiet none q) t s e some =
    let same = q.progress in
    let was = h t s (sym (ap (λ (table : ProgressTable). (progress_of t table).shown) same) ∙ e)
    (subst (λ (table : ProgressTable). 0 < (progress_of t table).edge) same some) in
    (q.theirs t s.client s.own was.0, Contains-append_left shown new (syn_shown_on t s) was.1)
edges_after shown new old step after numbered h (commits none c) t s e some =
    let same = c.progress in
    let shows = sym (ap (λ (table : ProgressTable). (progress_of t table).shown) same) ∙ e in
    let more = subst (λ (table : ProgressTable). 0 < (progress_of t table).edge) same some in (
      subst (λ (ks : List KeptNumber). HasNumber ks t s.client s.own) (sym c.theirs)
          (kept_edges old numbered t s shows more),
      Contains-append_left shown new (syn_shown_on t s) (h t s shows more).1,
    )
edges_after shown new old step after numbered h (settles g) t s e some = by (g.edges t s e some)
  where
    has : WasShown after.secondary_numbers shown (syn_shown_on t s)
        ⊎ IsFirst after.secondary_numbers (sent_of after.known_items) (syn_shown_on t s)
        → HasNumber after.secondary_numbers t s.client s.own
    has (inl w) = w.0
    has (inr f) = f.0

    by : WasShown after.secondary_numbers shown (syn_shown_on t s) ⊎ Contains new (syn_shown_on t s)
        → WasShown after.secondary_numbers (shown ++ new) (syn_shown_on t s)
    by (inl w) = (w.0, Contains-append_left shown new (syn_shown_on t s) w.1)
    by (inr c) = (
      has (All-contains (λ x. WasShown after.secondary_numbers shown x
          ⊎ IsFirst after.secondary_numbers (sent_of after.known_items) x) new (syn_shown_on t s) g.syns c),
      Contains-append_right shown new (syn_shown_on t s) c,
    )

pub edges_reached : (a : Start) → IsStart a → (steps : List Step) (past : Past) → Reached Fits a steps past
    → past.is_reported ≡ false → EdgesShow (WasShown past.secondary_numbers (syns a steps)) past.progress
unfolding event_news
edges_reached a start steps past begins alone = first_edges a start (WasShown a.numbers (syns a []))
edges_reached a start steps past (goes before old x h fits) alone =
    let o = outcome_of a.kind a.stream old x in
    let earlier = unreported a old x alone in
    let so_far = edges_reached a start before old h earlier in
    subst (λ (xs : List Syn). EdgesShow (WasShown o.after.secondary_numbers xs) o.after.progress)
    (sym (syns_push a before old x h))
    (edges_after (syns a before) (event_news a before old x) old o.step o.after
    (primary_numbered a start before old h earlier) so_far
    (event_goes a start before old x h (λ e. so_far) alone))

-- what the event of a line makes, until a report
pub goes_reached : (a : Start) → IsStart a → (steps : List Step) (past : Past) (x : Line) → Reached Fits a steps past
    → (outcome_of a.kind a.stream past x).after.is_reported ≡ false
    → Goes (syns a steps) past (outcome_of a.kind a.stream past x).step (outcome_of a.kind a.stream past x).after
    (event_news a steps past x)
unfolding event_news
goes_reached a start steps past x r = event_goes a start steps past x r (edges_reached a start steps past r)

-- SINCE A CAPTURE
abbrev pub none_since : SynsSince
none_since = record { captured = []; committed = [] }

abbrev pub since_of : Start → List Step → SynsSince
since_of a steps = fold (syns_after a) none_since (events a steps)

record SinceHad (past : Past) (x : SynsSince) : Type 0 where
  captured : past.awaits_ack ≡ true → x.captured ≡ []
  committed : All (IsKeptFor past.secondary_numbers) x.committed

-- what a step's marks and SYNs make of those since
abbrev since_with : SynsSince → Step → List Syn → SynsSince
since_with x step new = record {
  captured = if list_any is_captured step.entry.marks then [] else x.captured ++ new;
  committed = if list_any is_committed step.entry.marks then x.captured else x.committed ++ new;
}

pub kept_by_both : (theirs : List KeptNumber) (shown new : List Syn) (known : List TcpFields)
    → All (λ x. WasShown theirs shown x ⊎ IsFirst theirs known x) new → All (IsKeptFor theirs) new
kept_by_both theirs shown new known h =
    All-weaker (λ x. WasShown theirs shown x ⊎ IsFirst theirs known x) (IsKeptFor theirs) by new h
  where
    by : (x : Syn) → WasShown theirs shown x ⊎ IsFirst theirs known x → IsKeptFor theirs x
    by x (inl w) = w.0
    by x (inr f) = f.0

since_after : (shown new : List Syn) (old : Past) (step : Step) (after : Past) (x : SynsSince) → SinceHad old x
    → Goes shown old step after new → SinceHad after (since_with x step new)
since_after shown new old step after x h (quiet none q) = record {
  captured = λ w. (λ i. if q.captured i then [] else x.captured ++ none i)
      ∙ (append-nil x.captured ∙ h.captured (sym q.awaits ∙ w));
  committed = subst (All (IsKeptFor after.secondary_numbers))
      (sym ((λ i. if q.committed i then x.captured else x.committed ++ none i) ∙ append-nil x.committed))
      (All-weaker (IsKeptFor old.secondary_numbers) (IsKeptFor after.secondary_numbers)
      (λ (y : Syn) (k : IsKeptFor old.secondary_numbers y). q.theirs y.tuple y.client y.number k) x.committed
      h.committed);
}
since_after shown new old step after x h (commits none c) = record {
  captured = λ w. (λ i. if c.captured i then [] else x.captured ++ none i)
      ∙ (append-nil x.captured ∙ h.captured c.awaited);
  committed = subst (All (IsKeptFor after.secondary_numbers))
      (sym ((λ i. if c.committed i then x.captured else x.committed ++ new) ∙ h.captured c.awaited))
      (All-nil (IsKeptFor after.secondary_numbers));
}
since_after shown new old step after x h (settles g) = record {
  captured = λ w. (λ i. if (g.captured ∙ w) i then [] else x.captured ++ new);
  committed = subst (All (IsKeptFor after.secondary_numbers))
      (sym (λ i. if g.committed i then x.captured else x.committed ++ new))
      (All-append (IsKeptFor after.secondary_numbers) x.committed new
      (subst (λ (ks : List KeptNumber). All (IsKeptFor ks) x.committed) (sym g.theirs) h.committed)
      (kept_by_both after.secondary_numbers shown new (sent_of after.known_items) g.syns));
}

since_reached : (a : Start) → IsStart a → (steps : List Step) (past : Past) → Reached Fits a steps past
    → past.is_reported ≡ false → SinceHad past (since_of a steps)
unfolding events events_from event_news event_places
since_reached a start steps past begins alone =
    record { captured = λ e. refl; committed = All-nil (IsKeptFor a.numbers) }
since_reached a start steps past (goes before old x h fits) alone =
    let o = outcome_of a.kind a.stream old x in
    let so_far = since_reached a start before old h (unreported a old x alone) in
    subst (SinceHad o.after)
    (sym (ap (λ (es : List Event). fold (syns_after a) none_since es) (one_event_more Fits a before old x h)
    ∙ fold-append (syns_after a) none_since (events a before) (event_after a before old x ∷ [])))
    (since_after (syns a before) (event_news a before old x) old o.step o.after (since_of a before) so_far
    (goes_reached a start before old x h alone))

pub since_had : (a : Start) → IsStart a → (steps : List Step) (past : Past) → Reached Fits a steps past
    → past.is_reported ≡ false → All (IsKeptFor past.secondary_numbers) (since_of a steps).committed
since_had a start steps past r alone = (since_reached a start steps past r alone).committed
