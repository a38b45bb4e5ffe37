-- The laws: one number is shown to a client, in what the secondary sent until a report and in what a survivor sent; so
-- Numbers holds of each log.
use Rattle.std.proofs.Common.{◌≡◌, inl, inr, ℕ, Bool, true, false, ◌&&◌, if◌then◌else◌, List, [], ◌∷◌, ◌++◌, Option, None, Some, refl, sym, ap, subst, ◌∙◌, All, get_or, true≢false}
use Rattle.std.specs.List.{filter_map}
use Rattle.std.specs.Option.{option_map}
use Rattle.std.proofs.lemmas.List.Elements.{All-weaker}
use Rattle.inet_frame.specs.Fields.{TcpFields}
use Rattle.inet_frame.specs.declared.tuple.Tuple.{Tuple}
use Rattle.tcp_track.specs.Lines.{Item, line, sent_of}
use Rattle.tcp_track.specs.declared.openings.Opening.{Opening}
use Rattle.tcp_track.proofs.SymbolLemmas.{line_fits}
use Rattle.settle_rules.specs.Numbers.{KeptNumber}
use Rattle.settle_rules.specs.Release.{Released}
use Rattle.replay_log.specs.declared.lines.Line.{Line}
use Rattle.splice_run.specs.Log.{has_primary_stop}
use Rattle.pair_theorem.specs.Events.{outcome_of}
use Rattle.pair_theorem.specs.FrameParts.{NumbersPart, ShowOneNumber, Syn, clients_opened, syn_of, syns}
use Rattle.pair_theorem.specs.History.{entries, pair_log}
use Rattle.pair_theorem.specs.Log.{HasOneStop}
use Rattle.pair_theorem.specs.Past.{Outcome, Past, Start, Step, is_primary_stop, releasing_items, secondary_releases}
use Rattle.pair_theorem.specs.Places.{Place, current_client, event_places, places_after}
use Rattle.pair_theorem.specs.Starts.{IsStart}
use Rattle.pair_theorem.specs.TheRun.{run_segments}
use Rattle.pair_theorem.proofs.EachHistory.{Fits, Reached, begins, each_log, goes, released_by, reported_stopped, stop_facts}
use Rattle.pair_theorem.proofs.EventCases.{each_case}
use Rattle.theorem_frames.proofs.ShapeLemmas.{bytes_of_start}
use Rattle.theorem_frames.proofs.ShownLemmas.{bytes_reached}
use Rattle.theorem_runs.proofs.Stops.{stop_named}
use Rattle.theorem_stands.proofs.NumberedEvents.{numbers_reached}
use Rattle.theorem_numbers.proofs.ClientLemmas.{EndsWith, has_client, last_client, last_opened}
use Rattle.theorem_numbers.proofs.NumberLogs.{AllShown, IsNew, clients_placed, numbers_without_stop, syns_push}
use Rattle.theorem_survivor.proofs.HadLemmas.{KeepsAll}
use Rattle.theorem_survivor.proofs.NewsLemmas.{all_found, news, syn_facts}
use Rattle.theorem_survivor.proofs.SurviveNews.{IsKeptFor}
use Rattle.theorem_joins.proofs.JoinedLogs.{run_segments_are}
use Rattle.theorem_joins.proofs.SecondarySends.{SendsOn, SendsOnOf, each_sends}
use Rattle.theorem_shown.specs.Shown.{GoesOnShowing, NumbersOfEachLog, SecondaryCouldShow, SecondaryShows, SurvivorGoesOn, SurvivorShows}
use Rattle.theorem_shown.proofs.ShownLemmas.{IsOldOrNew, as_shown, front_on, more_shown, shown_goes_on}
use Rattle.theorem_shown.proofs.SurvivorEvents.{IsSurvivor, SurvivorGrounds, SurvivorOf, survivor_cases}
use Rattle.theorem_shown.proofs.ToldLogs.{IsTold, told_reached}

-- THE SYNS OF AN EVENT are of clients that are current
current_syn : (past : Past) (p : Place) (x : Syn) → secondary_releases past ≡ true
    → p.client ≡ current_client past p.segment.tuple → syn_of p ≡ Some x
    → EndsWith x.client (clients_opened x.tuple (sent_of past.secondary.items))
unfolding current_client
current_syn past p x e placed is = by (line x.tuple past.secondary.items).opening refl (sym here ∙ client)
  where
    client : current_client past x.tuple ≡ Some x.client
    client =
        let f = syn_facts p x is in
        sym (ap (λ (t : Tuple). current_client past t) f.tuple) ∙ (sym placed ∙ f.client)

    here : current_client past x.tuple
        ≡ option_map (λ (o : Opening). o.client) (line x.tuple past.secondary.items).opening
    here =
        ap (λ (b : Bool). option_map (λ (o : Opening). o.client)
        (line x.tuple (if b then past.secondary.items else past.primary.items)).opening) e

    by : (now : Option Opening) → (line x.tuple past.secondary.items).opening ≡ now
        → option_map (λ (o : Opening). o.client) now ≡ Some x.client
        → EndsWith x.client (clients_opened x.tuple (sent_of past.secondary.items))
    by None f g = absurd (cc g)
    by (Some o) f g =
        let is : o.client ≡ x.client = cc in
        subst (λ (c : ℕ). EndsWith c (clients_opened x.tuple (sent_of past.secondary.items))) is
        (last_opened x.tuple (sent_of past.secondary.items) o ((line_fits x.tuple past.secondary.items).opened ∙ f))

new_syn : (numbers : List KeptNumber) (said : List TcpFields) (x : Syn) → IsKeptFor numbers x
    → EndsWith x.client (clients_opened x.tuple said) → IsNew numbers said x
new_syn numbers said x kept last = record {
  holds = record {
    opened = ap (has_client x.client) last.all ∙ last_client x.client last.front;
    status = inl kept;
  };
  current = last;
}

fresh_news : (a : Start) (past : Past) (released out : List Released) (shown : List Syn)
    → secondary_releases past ≡ true → All (IsKeptFor past.numbers) (news a past released out)
    → All (IsOldOrNew past.numbers (sent_of past.secondary.items) shown) (news a past released out)
fresh_news a past released out shown e kept =
    let said = sent_of past.secondary.items in
    let places = places_after a past released out in
    let current = all_found (λ (x : Syn). EndsWith x.client (clients_opened x.tuple said)) syn_of places
    (λ k d l x is. current_syn past (get_or places k d) x e (clients_placed a past released out k d l) is) in
    λ k d l. inr (new_syn past.numbers said _ (kept k d l) (current k d l))

-- FROM THE REPORT ON
survivor_keeps : (a : Start) → IsStart a → (steps : List Step) (past : Past) (x : Line) → Reached Fits a steps past
    → Fits past x → secondary_releases (outcome_of a.kind a.stream past x).after ≡ true
    → IsSurvivor a (released_by steps) past (outcome_of a.kind a.stream past x)
survivor_keeps a start steps past x r fits =
    let bytes = bytes_of_start a start in
    each_case a.kind a.stream (SurvivorOf a) (survivor_cases a bytes.regular) past x (released_by steps) (record {
      bytes = bytes_reached Fits a bytes.regular bytes.stream bytes.first steps past r;
      kept = numbers_reached a start steps past r;
      facts = stop_facts a.kind a.stream past x;
      fits = fits;
      stopped = reported_stopped a steps past r;
    })

-- before the report none was reported
not_reported : (past : Past) → is_primary_stop past.stop ≡ true → secondary_releases past ≡ false
    → past.is_reported ≡ false
not_reported past e f = sym (ap (λ (b : Bool). b && past.is_reported) e) ∙ f

carried : (a : Start) → IsStart a → (steps : List Step) (past : Past) → Reached Fits a steps past → (o : Outcome)
    → IsSurvivor a (released_by steps) past o → SendsOn past o.after
    → (secondary_releases past ≡ true → AllShown past.numbers (sent_of past.secondary.items) (syns a steps))
    → AllShown o.after.numbers (sent_of o.after.secondary.items) (syns a steps)
carried a start steps past r o survivor sends h = by (secondary_releases past) refl
  where
    old : List TcpFields
    old = sent_of past.secondary.items

    now : List TcpFields
    now = sent_of o.after.secondary.items

    by : (b : Bool) → secondary_releases past ≡ b → AllShown o.after.numbers now (syns a steps)
    by true e =
        shown_goes_on past.numbers o.after.numbers old now (syns a steps) (sends.more, sends.sent_is)
        (survivor.mine e) (h e)
    by false e =
        let told = told_reached a start steps past r (not_reported past sends.before e) in
        shown_goes_on past.secondary_numbers o.after.numbers told.said now (syns a steps)
        (front_on told.said old now told.front (sends.more, sends.sent_is)) (survivor.theirs e) told.all

survivor_shown : (a : Start) → IsStart a → (steps : List Step) (past : Past) → Reached Fits a steps past
    → secondary_releases past ≡ true → AllShown past.numbers (sent_of past.secondary.items) (syns a steps)
unfolding event_places
survivor_shown a start steps past begins e = absurd (true≢false (sym e))
survivor_shown a start steps past (goes before old x r fits) e =
    let o = outcome_of a.kind a.stream old x in
    let survivor = survivor_keeps a start before old x r fits e in
    let sends : SendsOn old o.after =
    each_case a.kind a.stream SendsOnOf (each_sends a.kind a.stream) old x (stop_facts a.kind a.stream old x) fits
    (reported_stopped a before old r) e in
    let shown = syns a before in
    let said = sent_of o.after.secondary.items in
    subst (AllShown o.after.numbers said) (sym (syns_push a before old x r))
    (more_shown o.after.numbers said shown (news a o.after (released_by before) o.step.released)
    (carried a start before old r o survivor sends (survivor_shown a start before old r))
    (fresh_news a o.after (released_by before) o.step.released shown e survivor.syns))

-- THE LAWS
secondary_shows : (a : Start) → IsStart a → (steps : List Step) (past : Past) → Reached Fits a steps past
    → SecondaryShows a steps past
secondary_shows a start steps past r alone =
    let told = told_reached a start steps past r alone in
    as_shown past.secondary_numbers (sent_of past.secondary.items) (syns a steps)
    (shown_goes_on past.secondary_numbers past.secondary_numbers told.said (sent_of past.secondary.items) (syns a steps)
    told.front (λ t client number k. k) told.all)

survivor_shows : (a : Start) → IsStart a → (steps : List Step) (past : Past) → Reached Fits a steps past
    → SurvivorShows a steps past
survivor_shows a start steps past r e =
    as_shown past.numbers (sent_of past.secondary.items) (syns a steps) (survivor_shown a start steps past r e)

pub could_show : SecondaryCouldShow
could_show a lines start = each_log a (SecondaryShows a) (secondary_shows a start) lines

pub survivor_goes_on : SurvivorGoesOn
survivor_goes_on a lines start = each_log a (SurvivorShows a) (survivor_shows a start) lines

-- NUMBERS
with_stop : (a : Start) → IsStart a → (steps : List Step) (past : Past) → Reached Fits a steps past
    → has_primary_stop (entries steps) ≡ true → NumbersPart a steps
with_stop a start steps past r e =
    subst (λ (said : List TcpFields). ShowOneNumber said (syns a steps)) (run_segments_are a start steps past r e)
    (by past.is_reported refl)
  where
    stopped : is_primary_stop past.stop ≡ true
    stopped = sym (stop_named a steps past r) ∙ e

    by : (b : Bool) → past.is_reported ≡ b → ShowOneNumber (sent_of past.secondary.items) (syns a steps)
    by true f = (survivor_shows a start steps past r (λ i. stopped i && f i)).one
    by false f = (secondary_shows a start steps past r f).one

pub numbers_hold : NumbersOfEachLog
numbers_hold a lines start one = by (has_primary_stop (entries (pair_log a lines))) refl
  where
    by : (b : Bool) → has_primary_stop (entries (pair_log a lines)) ≡ b → NumbersPart a (pair_log a lines)
    by true e =
        each_log a (λ (steps : List Step) (past : Past). has_primary_stop (entries steps) ≡ true → NumbersPart a steps)
        (with_stop a start) lines one e
    by false e = numbers_without_stop a lines start one e
