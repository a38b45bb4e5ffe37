-- The numbers of what a survivor shows at the report, of every log.
use Rattle.std.proofs.Common.{◌≡◌, ◌⊎◌, inl, inr, ℕ, ◌==◌, ◌&&◌, ◌||◌, Bool, true, false, if◌then◌else◌, List, [], ◌∷◌, ◌++◌, Option, None, Some, refl, sym, ap, subst, ◌∙◌, All, eqb-true, true≢false}
use Rattle.std.specs.List.{cons_option, filter_map, list_any}
use Rattle.std.proofs.lemmas.Bool.{and_parts, cond_both}
use Rattle.std.proofs.lemmas.List.Elements.{All-cons, All-head, All-nil, All-tail, All-weaker}
use Rattle.inet_frame.specs.declared.tuple.Tuple.{Tuple}
use Rattle.tcp_track.specs.Lines.{line, order}
use Rattle.tcp_track.specs.Segments.{same_tuple}
use Rattle.tcp_track.specs.declared.openings.Opening.{Opening}
use Rattle.tcp_track.proofs.TupleLemmas.{same_tuple-eq}
use Rattle.settle_rules.specs.Numbers.{KeptNumber, kept_number}
use Rattle.settle_rules.specs.Release.{Released}
use Rattle.settle_rules.specs.Survive.{survive}
use Rattle.replay_log.specs.declared.lines.Line.{Line}
use Rattle.replay_log.specs.declared.lines.Line.TheVariants.{Primary, Secondary, Client, ToSecondary, ToPrimary, StopPrimary, StopSecondary, Report, Ask}
use Rattle.replay_log.specs.declared.records.Answer.TheVariants.{Reported}
use Rattle.pair_theorem.specs.Events.{outcome_of, outcome_with, primary_survives, report_event, secondary_survives}
use Rattle.pair_theorem.specs.FrameParts.{Syn, syn_of, syn_with}
use Rattle.pair_theorem.specs.History.{pair_log, past_from}
use Rattle.pair_theorem.specs.Log.{is_report}
use Rattle.pair_theorem.specs.Past.{Outcome, Past, Start, Step, first_past, is_primary_stop, secondary_releases}
use Rattle.pair_theorem.specs.Places.{Event, Place, event_places, events, events_from, places_after}
use Rattle.pair_theorem.specs.Splicing.{HasSurvivorNumber, IsSurvivorNumber, SurvivorNumbers, SplicesEachLog, is_syn_to, syns_since_commit}
use Rattle.pair_theorem.specs.Starts.{IsStart}
use Rattle.pair_theorem.proofs.EachHistory.{Fits, Reached, begins, goes, reached_log, released_by}
use Rattle.pair_theorem.proofs.EventFacts.{event_facts}
use Rattle.pair_theorem.proofs.Unfinished.{unfinished_changes_nothing}
use Rattle.theorem_frames.proofs.EachEvent.{event_after, one_event_more}
use Rattle.theorem_frames.proofs.ShapeLemmas.{bytes_of_start}
use Rattle.theorem_frames.proofs.ShownLemmas.{bytes_reached}
use Rattle.theorem_runs.proofs.ListFacts.{heads_same, tails_same}
use Rattle.theorem_runs.proofs.Settled.{left_settled}
use Rattle.theorem_symbols.proofs.ReleaseEvents.{clients_are}
use Rattle.theorem_symbols.proofs.ReleasedLogs.{survivor_stands}
use Rattle.theorem_known.proofs.PauseLemmas.{pauses_hold}
use Rattle.theorem_known.proofs.StandsLogs.{fronts_hold}
use Rattle.theorem_numbers.proofs.SynLemmas.{HasNumber}
use Rattle.theorem_survivor.specs.Survivor.{SurvivorNumbersOfEachLog}
use Rattle.theorem_survivor.proofs.HadLemmas.{one_number}
use Rattle.theorem_survivor.proofs.SinceLogs.{since_had}
use Rattle.theorem_survivor.proofs.SurviveNews.{IsKeptFor, survive_shows}

-- WHAT HOLDS OF EACH SYN holds of the place of each
all_back : {X Y : Type 0} (P : Y → Type 0) (f : X → Option Y) (xs : List X) → All P (filter_map f xs)
    → All (λ (x : X). (y : Y) → f x ≡ Some y → P y) xs
all_back P f [] h = All-nil (λ x. (y : _) → f x ≡ Some y → P y)
all_back {X} {Y} P f (x ∷ xs) h = by (f x) refl h (all_back P f xs)
  where
    Q : X → Type 0
    Q z = (y : Y) → f z ≡ Some y → P y

    same : (y z : Y) → Some y ≡ Some z → y ≡ z
    same y z e = cc

    by : (o : Option Y) → f x ≡ o → All P (cons_option o (filter_map f xs)) → (All P (filter_map f xs) → All Q xs)
        → All Q (x ∷ xs)
    by None e g rest = All-cons Q x xs (λ y k. absurd (cc (sym e ∙ k))) (rest g)
    by (Some z) e g rest =
        All-cons Q x xs (λ y k. subst P (same z y (sym e ∙ k)) (All-head P z (filter_map f xs) g))
        (rest (All-tail P z (filter_map f xs) g))

-- NO SYN of a client without a number
none_to : (theirs : List KeptNumber) (t : Tuple) (client : ℕ) (xs : List Syn) → kept_number t client theirs ≡ None
    → All (IsKeptFor theirs) xs → list_any (is_syn_to t client) xs ≡ false
none_to theirs t client [] none h = refl
none_to theirs t client (x ∷ xs) none h =
    by (is_syn_to t client x) refl (none_to theirs t client xs none (All-tail (IsKeptFor theirs) x xs h))
  where
    by : (b : Bool) → is_syn_to t client x ≡ b → list_any (is_syn_to t client) xs ≡ false
        → (b || list_any (is_syn_to t client) xs) ≡ false
    by false e rest = rest
    by true e rest =
        let parts = and_parts (same_tuple x.tuple t) (x.client == client) e in
        let here = All-head (IsKeptFor theirs) x xs h in
        let found : kept_number t client theirs ≡ Some here.kept =
        (λ i. kept_number (sym (same_tuple-eq x.tuple t parts.0) i) (sym (eqb-true x.client client parts.1) i) theirs)
        ∙ here.found in
        absurd (cc (sym none ∙ found))

-- THE REPORT
survived_number : (a : Start) (before : List Event) (past after : Past) (released out : List Released)
    (numbers : List KeptNumber) (p : Place)
    → ((client : ℕ) (n : ℕ) → HasNumber past.secondary_numbers p.segment.tuple client n
    → HasNumber numbers p.segment.tuple client n)
    → ((client n : ℕ) → HasNumber numbers p.segment.tuple client n
    → kept_number p.segment.tuple client past.secondary_numbers ≡ None → (o : Opening)
    → (line p.segment.tuple past.secondary.items).opening ≡ Some o → o.own ≡ n)
    → ((client : ℕ) → kept_number p.segment.tuple client past.secondary_numbers ≡ None
    → list_any (is_syn_to p.segment.tuple client) (syns_since_commit a before) ≡ false)
    → ((x : Syn) → syn_of p ≡ Some x → IsKeptFor numbers x) → HasSurvivorNumber a before past p
survived_number a before past after released out numbers p keeps own none shows client now has =
    by (kept_number t client past.secondary_numbers) refl
  where
    t : Tuple
    t = p.segment.tuple

    here : HasNumber numbers t client p.segment.seq
    here = shows (record { tuple = t; client = client; number = p.segment.seq })
        (ap (λ (o : Option ℕ). syn_with p o) now ∙ ap (λ (b : Bool).
        if b then Some (record { tuple = t; client = client; number = p.segment.seq }) else None) has)

    by : (o : Option KeptNumber) → kept_number t client past.secondary_numbers ≡ o
        → IsSurvivorNumber a before past p client o
    by (Some k) e =
        one_number numbers t client k.number p.segment.seq
        (keeps client k.number (record { kept = k; found = e; number_is = refl })) here
    by None e = record { own = λ o f. own client p.segment.seq here e o f; none_released = none client e }

survives : (a : Start) → IsStart a → (steps : List Step) (past : Past) → Reached Fits a steps past
    → past.is_reported ≡ false → is_primary_stop past.stop ≡ true
    → All (HasSurvivorNumber a (events a steps) past)
    (places_after a (secondary_survives past).after (released_by steps) (secondary_survives past).step.released)
unfolding secondary_survives syns_since_commit
survives a start steps past r alone e =
    let items = past.secondary.items in
    let bytes = bytes_of_start a start in
    let of_bytes = bytes_reached Fits a bytes.regular bytes.stream bytes.first steps past r in
    let after = (secondary_survives past).after in
    let x = survive items past.secondary_numbers (order items) in
    let is = ap (λ (b : Bool). if b && true then past.secondary.items else past.primary.items) e in
    let all = survive_shows a after (released_by steps) items past.secondary_numbers of_bytes.told
    of_bytes.secondary.items (clients_are after items is) in
    let ps = places_after a after (released_by steps) x.out in
    All-weaker (λ (p : Place). (y : Syn) → syn_of p ≡ Some y → IsKeptFor x.numbers y)
    (HasSurvivorNumber a (events a steps) past)
    (λ (p : Place) (h : (y : Syn) → syn_of p ≡ Some y → IsKeptFor x.numbers y).
    survived_number a (events a steps) past after (released_by steps) x.out x.numbers p
    (λ client n k. all.keeps p.segment.tuple client n k)
    (λ client n k none o f. all.own p.segment.tuple client n k none o f)
    (λ client none. none_to past.secondary_numbers p.segment.tuple client _ none (since_had a start steps past r alone))
    h) ps (all_back (IsKeptFor x.numbers) syn_of ps all.syns)

-- a primary that is left alone is no survivor
reports : (a : Start) → IsStart a → (steps : List Step) (past : Past) → Reached Fits a steps past
    → past.is_reported ≡ false → secondary_releases (report_event past).after ≡ true
    → All (HasSurvivorNumber a (events a steps) past)
    (places_after a (report_event past).after (released_by steps) (report_event past).step.released)
unfolding report_event
reports a start steps past r alone =
    cond_both (is_primary_stop past.stop) (secondary_survives past)
    (outcome_with Report [] None Reported (primary_survives past))
    (λ (o : Outcome). secondary_releases o.after ≡ true → All (HasSurvivorNumber a (events a steps) past)
    (places_after a o.after (released_by steps) o.step.released))
    (λ e s. survives a start steps past r alone e)
    (λ e. left_settled (λ step after. secondary_releases after ≡ true
    → All (HasSurvivorNumber a (events a steps) past) (places_after a after (released_by steps) step.released)) past
    (λ out ns ps new s. absurd (true≢false (sym s ∙ ap (λ (b : Bool). b && true) e))))

is_the_report : (x : Line) → is_report x ≡ true → x ≡ Report
is_the_report (Primary d i b n) e = absurd (true≢false (sym e))
is_the_report (Secondary d i b n) e = absurd (true≢false (sym e))
is_the_report Client e = absurd (true≢false (sym e))
is_the_report ToSecondary e = absurd (true≢false (sym e))
is_the_report ToPrimary e = absurd (true≢false (sym e))
is_the_report StopPrimary e = absurd (true≢false (sym e))
is_the_report StopSecondary e = absurd (true≢false (sym e))
is_the_report Report e = refl
is_the_report Ask e = absurd (true≢false (sym e))

event_numbers : (a : Start) → IsStart a → (steps : List Step) (past : Past) (x : Line) → Reached Fits a steps past
    → Fits past x → SurvivorNumbers a (events a steps) (event_after a steps past x)
unfolding event_places outcome_of
event_numbers a start steps past x r fits survival =
    let o = outcome_of a.kind a.stream past x in
    let parts = and_parts (is_report o.step.entry.line) (secondary_releases o.after) survival in
    let here = ap is_report (sym (event_facts a.kind a.stream past x).line) ∙ parts.0 in
    let is = is_the_report x here in
    subst (λ (l : Line). secondary_releases (outcome_of a.kind a.stream past l).after ≡ true
    → All (HasSurvivorNumber a (events a steps) past)
    (places_after a (outcome_of a.kind a.stream past l).after (released_by steps)
    (outcome_of a.kind a.stream past l).step.released)) (sym is)
    (reports a start steps past r (fits.report here)) parts.1

-- EVERY EVENT, with those before it
split_last : {X : Type 0} (es before later : List X) (x e : X) → es ++ x ∷ [] ≡ before ++ e ∷ later
    → ((es ≡ before) × (x ≡ e)) ⊎ ((rest : List X) × (es ≡ before ++ e ∷ rest))
split_last [] [] later x e h = inl (refl, heads_same x e [] later h)
split_last [] (b ∷ bs) later x e h = absurd (none bs (tails_same x b [] (bs ++ e ∷ later) h))
  where
    none : (ys : List _) → [] ≡ ys ++ e ∷ later → ⊥
    none [] f = cc f
    none (y ∷ ys) f = cc f
split_last (y ∷ es) [] later x e h = inr (es, λ i. heads_same y e (es ++ x ∷ []) later h i ∷ es)
split_last {X} (y ∷ es) (b ∷ bs) later x e h =
    by (split_last es bs later x e (tails_same y b (es ++ x ∷ []) (bs ++ e ∷ later) h))
  where
    first : y ≡ b
    first = heads_same y b (es ++ x ∷ []) (bs ++ e ∷ later) h

    by : ((es ≡ bs) × (x ≡ e)) ⊎ ((rest : List X) × (es ≡ bs ++ e ∷ rest))
        → (((y ∷ es) ≡ (b ∷ bs)) × (x ≡ e)) ⊎ ((rest : List X) × ((y ∷ es) ≡ (b ∷ bs) ++ e ∷ rest))
    by (inl g) = inl (λ i. first i ∷ g.0 i, g.1)
    by (inr g) = inr (g.0, λ i. first i ∷ g.1 i)

each_number : (a : Start) → IsStart a → (steps : List Step) (past : Past) → Reached Fits a steps past
    → (before later : List Event) (e : Event) → events a steps ≡ before ++ e ∷ later → SurvivorNumbers a before e
unfolding events events_from
each_number a start steps past begins [] later e is = absurd (cc is)
each_number a start steps past begins (b ∷ before) later e is = absurd (cc is)
each_number a start steps past (goes front old x h fits) before later e is =
    let last = event_after a front old x in
    by (split_last (events a front) before later last e (sym (one_event_more Fits a front old x h) ∙ is))
    (λ rest at. each_number a start front old h before rest e at)
  where
    by : ((events a front ≡ before) × (event_after a front old x ≡ e))
        ⊎ ((rest : List Event) × (events a front ≡ before ++ e ∷ rest))
        → ((rest : List Event) → events a front ≡ before ++ e ∷ rest → SurvivorNumbers a before e)
        → SurvivorNumbers a before e
    by (inl g) earlier =
        subst (λ (y : List Event × Event). SurvivorNumbers a y.0 y.1) (λ i. (g.0 i, g.1 i))
        (event_numbers a start front old x h fits)
    by (inr g) earlier = earlier g.0 g.1

pub survivor_numbers_hold : SurvivorNumbersOfEachLog
survivor_numbers_hold a lines start one =
    each_number a start (pair_log a lines) (past_from a.kind a.stream (first_past a) lines) (reached_log a lines one)

-- ALL SIX SENTENCES
pub splices_hold : SplicesEachLog
splices_hold a lines start one = record {
  fronts = λ front later e. fronts_hold a lines start one front later e;
  pause = pauses_hold a lines one;
  survivor_stands = survivor_stands a lines start one;
  survivor_numbers = λ before later e is. survivor_numbers_hold a lines start one before later e is;
  unfinished = unfinished_changes_nothing a lines;
}
