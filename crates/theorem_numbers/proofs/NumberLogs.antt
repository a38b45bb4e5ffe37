-- Until a survivor releases, each number shown is kept or its client was left, and one number is shown to a client.
use Rattle.std.proofs.Common.{◌≡◌, ◌⊎◌, inl, inr, ℕ, Bool, true, false, not, ◌&&◌, ◌||◌, ◌==◌, if◌then◌else◌, List, [], ◌∷◌, ◌++◌, append_assoc, Option, None, Some, is_some, refl, sym, ap, subst, ◌∙◌, All, eq-eqb, eqb-true, get_or, true≢false}
use Rattle.std.specs.Prelude.{IsTrue}
use Rattle.std.specs.List.{cons_option, filter_map}
use Rattle.std.specs.Option.{option_map}
use Rattle.std.proofs.lemmas.Bool.{and_parts}
use Rattle.std.proofs.lemmas.List.Elements.{All-append, All-cons, All-head, All-nil, All-tail, All-weaker, filter_map-append}
use Rattle.inet_frame.specs.Fields.{TcpFields}
use Rattle.inet_frame.specs.Flags.{has_syn}
use Rattle.inet_frame.specs.declared.tuple.Tuple.{Tuple}
use Rattle.tcp_track.specs.Lines.{Item, line, sent_of}
use Rattle.tcp_track.specs.Segments.{same_tuple}
use Rattle.tcp_track.specs.Stands.{segments}
use Rattle.tcp_track.specs.declared.openings.Opening.{Opening}
use Rattle.tcp_track.proofs.SymbolLemmas.{line_fits}
use Rattle.tcp_track.proofs.TupleLemmas.{same_tuple-eq}
use Rattle.settle_rules.specs.Numbers.{KeptNumber, kept_number}
use Rattle.settle_rules.specs.Release.{Released, reply, tcp}
use Rattle.state_wire.specs.Run.{Run}
use Rattle.replay_log.specs.declared.lines.Line.{Line}
use Rattle.splice_run.specs.Log.{has_primary_stop}
use Rattle.splice_run.specs.Single.{primary_turns, secondary_turns, taken_turns}
use Rattle.pair_theorem.specs.Events.{outcome_of}
use Rattle.pair_theorem.specs.FrameParts.{NumbersPart, ShowOneNumber, Syn, clients_opened, comes_back, same_number_shown, syn_of, syn_shown, syn_with, syns}
use Rattle.pair_theorem.specs.History.{entries, pair_log, past_from}
use Rattle.pair_theorem.specs.Past.{Outcome, Past, Start, Step, first_past, releasing_items, secondary_releases}
use Rattle.pair_theorem.specs.Places.{Place, current_client, event_places, events, events_from, places, places_after}
use Rattle.pair_theorem.specs.Starts.{IsStart, boots}
use Rattle.pair_theorem.specs.TheRun.{run_of, run_segments, the_run}
use Rattle.pair_theorem.proofs.EachHistory.{Fits, Reached, begins, each_log, goes, reached_log, released_by}
use Rattle.pair_theorem.proofs.EventCases.{each_case}
use Rattle.theorem_frames.proofs.EachEvent.{event_after}
use Rattle.theorem_frames.proofs.GrowthLemmas.{what_stands_goes_on}
use Rattle.theorem_runs.proofs.Cuts.{are_cut}
use Rattle.theorem_runs.proofs.Items.{say_items}
use Rattle.theorem_runs.proofs.Parts.{run_is, starts_plain}
use Rattle.theorem_runs.proofs.Running.{are_runs}
use Rattle.theorem_runs.proofs.Stops.{stop_named}
use Rattle.theorem_stands.proofs.NumberedEvents.{no_survivor}
use Rattle.theorem_symbols.proofs.GoesOn.{GoesOn, each_front}
use Rattle.theorem_symbols.proofs.ReleasedLogs.{places_push}
use Rattle.theorem_numbers.specs.Kept.{KeptOrLeft, NumbersWithPrimary, NumbersWithoutStop, ShowsOneNumber, has_left, is_number}
use Rattle.theorem_numbers.proofs.ClientLemmas.{EndsWith, back_last, back_more, client_more, has_client, has_opening, last_client, last_opened, left_by, left_more}
use Rattle.theorem_numbers.proofs.KeepingLemmas.{GoOn, NotCurrent, each_on}
use Rattle.theorem_numbers.proofs.SynEvents.{syns_reached}
use Rattle.theorem_numbers.proofs.SynLemmas.{HasNumber, SynIsKept}

-- A SYN THAT WAS SHOWN: its client was opened, and its number is kept or the client was left
pub record SynHolds (numbers : List KeptNumber) (said : List TcpFields) (x : Syn) : Type 0 where
  pub opened : has_client x.client (clients_opened x.tuple said) ≡ true
  pub status : HasNumber numbers x.tuple x.client x.number ⊎ (has_left x.client (clients_opened x.tuple said) ≡ true)

pub as_test : (numbers : List KeptNumber) (said : List TcpFields) (x : Syn) → SynHolds numbers said x →
    KeptOrLeft numbers said x
as_test numbers said x h = by h.status
  where
    or_right : (b c : Bool) → c ≡ true → (b || c) ≡ true
    or_right true c e = refl
    or_right false c e = e

    or_left : (b c : Bool) → b ≡ true → (b || c) ≡ true
    or_left true c e = refl
    or_left false c e = absurd (true≢false (sym e))

    left : Bool
    left = has_left x.client (clients_opened x.tuple said)

    by : HasNumber numbers x.tuple x.client x.number ⊎ (has_left x.client (clients_opened x.tuple said) ≡ true) →
        (is_number (kept_number x.tuple x.client numbers) x.number || left) ≡ true
    by (inl k) =
        or_left (is_number (kept_number x.tuple x.client numbers) x.number) left
        (ap (λ (o : Option KeptNumber). is_number o x.number) k.found ∙ eq-eqb k.kept.number x.number k.number_is)
    by (inr e) = or_right (is_number (kept_number x.tuple x.client numbers) x.number) left e

-- IT GOES ON
left_now : (items : List Item) (t : Tuple) (c : ℕ) →
    has_client c (clients_opened t (sent_of items)) ≡ true → NotCurrent items t c →
    has_left c (clients_opened t (sent_of items)) ≡ true
left_now items t c opened not_current = by (line t items).opening refl
  where
    same : (line t items).opening ≡ None → (is_some (line t items).opening) ≡ true
    same e = ap is_some (sym (line_fits t items).opened) ∙ has_opening t (sent_of items) c opened

    by : (o : Option Opening) → (line t items).opening ≡ o → has_left c (clients_opened t (sent_of items)) ≡ true
    by None e = absurd (true≢false (sym (same e) ∙ ap is_some e))
    by (Some o) e =
        let last = last_opened t (sent_of items) o ((line_fits t items).opened ∙ e) in
        ap (has_left c) last.all
        ∙ left_by c o.client last.front (ap (has_client c) (sym last.all) ∙ opened) (not_current o e)

holds_on : (numbers : List KeptNumber) (new : Past) (said more : List TcpFields) (x : Syn) →
    sent_of new.primary.items ≡ said ++ more → GoOn numbers new → SynHolds numbers said x →
    SynHolds new.numbers (sent_of new.primary.items) x
holds_on numbers new said more x e on h = record { opened = opened; status = by h.status }
  where
    now : List ℕ
    now = clients_opened x.tuple (sent_of new.primary.items)

    grown : now ≡ clients_opened x.tuple said ++ clients_opened x.tuple more
    grown = ap (clients_opened x.tuple) e ∙ (what_stands_goes_on said more x.tuple x.client).clients

    opened : has_client x.client now ≡ true
    opened =
        ap (has_client x.client) grown
        ∙ client_more x.client (clients_opened x.tuple said) (clients_opened x.tuple more) h.opened

    kept : HasNumber new.numbers x.tuple x.client x.number ⊎ NotCurrent new.primary.items x.tuple x.client →
        HasNumber new.numbers x.tuple x.client x.number ⊎ (has_left x.client now ≡ true)
    kept (inl k) = inl k
    kept (inr n) = inr (left_now new.primary.items x.tuple x.client opened n)

    by : HasNumber numbers x.tuple x.client x.number ⊎ (has_left x.client (clients_opened x.tuple said) ≡ true) →
        HasNumber new.numbers x.tuple x.client x.number ⊎ (has_left x.client now ≡ true)
    by (inl k) = kept (on x.tuple x.client x.number k)
    by (inr l) =
        inr (ap (has_left x.client) grown
        ∙ left_more x.client (clients_opened x.tuple said) (clients_opened x.tuple more) l)

-- ONE NUMBER for a client
abbrev pub IsCurrent : List TcpFields → Syn → Type 0
IsCurrent said x = EndsWith x.client (clients_opened x.tuple said)

shows_more : (said more : List TcpFields) (x y : Syn) → same_number_shown said x y ≡ true →
    same_number_shown (said ++ more) x y ≡ true
unfolding same_number_shown
shows_more said more x y e =
    by (not (same_tuple x.tuple y.tuple && x.client == y.client)) (x.number == y.number)
    (comes_back x.client (clients_opened x.tuple said)) e
    (λ b. ap (comes_back x.client) ((what_stands_goes_on said more x.tuple x.client).clients)
    ∙ back_more x.client (clients_opened x.tuple said) (clients_opened x.tuple more) b)
  where
    by : (a b c : Bool) → (a || (b || c)) ≡ true →
        (c ≡ true → comes_back x.client (clients_opened x.tuple (said ++ more)) ≡ true) →
        (a || (b || comes_back x.client (clients_opened x.tuple (said ++ more)))) ≡ true
    by true b c f g = refl
    by false true c f g = refl
    by false false c f g = g f

pub pair_shows : (numbers : List KeptNumber) (said : List TcpFields) (x y : Syn) → SynHolds numbers said x →
    SynHolds numbers said y → IsCurrent said x ⊎ IsCurrent said y → same_number_shown said x y ≡ true
unfolding same_number_shown
pair_shows numbers said x y h g current =
    by (same_tuple x.tuple y.tuple && x.client == y.client) refl
  where
    Back : Type 0
    Back = comes_back x.client (clients_opened x.tuple said) ≡ true

    returns_to : EndsWith x.client (clients_opened x.tuple said) →
        has_left x.client (clients_opened x.tuple said) ≡ true → Back
    returns_to last left =
        ap (comes_back x.client) last.all
        ∙ back_last x.client last.front (ap (has_left x.client) (sym last.all) ∙ left)

    same_kept : (t : Tuple) (c m n : ℕ) → HasNumber numbers t c m → HasNumber numbers t c n → m ≡ n
    same_kept t c m n j k =
        let is : j.kept ≡ k.kept = one j.kept k.kept (sym j.found ∙ k.found) in
        sym j.number_is ∙ (ap (λ (e : KeptNumber). e.number) is ∙ k.number_is)
      where
        one : (a b : KeptNumber) → Some a ≡ Some b → a ≡ b
        one a b e = cc

    ends : (t : Tuple) (c : ℕ) → x.tuple ≡ t → x.client ≡ c →
        EndsWith c (clients_opened t said) → EndsWith x.client (clients_opened x.tuple said)
    ends t c e f last =
        subst (λ (u : Tuple). EndsWith x.client (clients_opened u said)) (sym e)
        (subst (λ (d : ℕ). EndsWith d (clients_opened t said)) (sym f) last)

    last_of : x.tuple ≡ y.tuple → x.client ≡ y.client → IsCurrent said x ⊎ IsCurrent said y →
        EndsWith x.client (clients_opened x.tuple said)
    last_of e f (inl last) = last
    last_of e f (inr last) = ends y.tuple y.client e f last

    one_of : x.tuple ≡ y.tuple → x.client ≡ y.client →
        HasNumber numbers x.tuple x.client x.number ⊎ (has_left x.client (clients_opened x.tuple said) ≡ true) →
        HasNumber numbers y.tuple y.client y.number ⊎ (has_left y.client (clients_opened y.tuple said) ≡ true) →
        (x.number == y.number || comes_back x.client (clients_opened x.tuple said)) ≡ true
    one_of e f (inl j) (inl k) =
        let there : HasNumber numbers x.tuple x.client y.number =
        subst (λ (u : Tuple). HasNumber numbers u x.client y.number) (sym e)
        (subst (λ (d : ℕ). HasNumber numbers y.tuple d y.number) (sym f) k) in
        ap (λ (b : Bool). b || comes_back x.client (clients_opened x.tuple said))
        (eq-eqb x.number y.number (same_kept x.tuple x.client x.number y.number j there))
    one_of e f (inr l) k = or_right (x.number == y.number) _ (returns_to (last_of e f current) l)
      where
        or_right : (b c : Bool) → c ≡ true → (b || c) ≡ true
        or_right true c g = refl
        or_right false c g = g
    one_of e f (inl j) (inr l) =
        or_right (x.number == y.number) _ (returns_to (last_of e f current)
        (subst (λ (u : Tuple). has_left x.client (clients_opened u said) ≡ true) (sym e)
        (subst (λ (d : ℕ). has_left d (clients_opened y.tuple said) ≡ true) (sym f) l)))
      where
        or_right : (b c : Bool) → c ≡ true → (b || c) ≡ true
        or_right true c g = refl
        or_right false c g = g

    by : (same : Bool) → (same_tuple x.tuple y.tuple && x.client == y.client) ≡ same →
        (not same || (x.number == y.number || comes_back x.client (clients_opened x.tuple said))) ≡ true
    by false e = refl
    by true e =
        let parts = and_parts (same_tuple x.tuple y.tuple) (x.client == y.client) e in
        one_of (same_tuple-eq x.tuple y.tuple parts.0) (eqb-true x.client y.client parts.1) h.status g.status

-- THE NEW SYNS of an event
pub record IsNew (numbers : List KeptNumber) (said : List TcpFields) (x : Syn) : Type 0 where
  pub holds : SynHolds numbers said x
  pub current : IsCurrent said x

pub clients_placed : (a : Start) (past : Past) (released out : List Released) →
    All (λ (p : Place). p.client ≡ current_client past p.segment.tuple) (places_after a past released out)
unfolding places_after
clients_placed a past released [] = All-nil (λ (p : Place). p.client ≡ current_client past p.segment.tuple)
clients_placed a past released (reply b ∷ out) = clients_placed a past (released ++ reply b ∷ []) out
clients_placed a past released (tcp s payload ∷ out) =
    All-cons (λ (p : Place). p.client ≡ current_client past p.segment.tuple) _
    (places_after a past (released ++ tcp s payload ∷ []) out) refl
    (clients_placed a past (released ++ tcp s payload ∷ []) out)

new_syn : (past : Past) (p : Place) (x : Syn) → secondary_releases past ≡ false →
    p.client ≡ current_client past p.segment.tuple → SynIsKept past.numbers p → syn_of p ≡ Some x →
    IsNew past.numbers (sent_of past.primary.items) x
unfolding current_client
new_syn past p x primary placed kept e = by p.client refl e
  where
    t : Tuple
    t = p.segment.tuple

    said : List TcpFields
    said = sent_of past.primary.items

    same : (m n : ℕ) → Some m ≡ Some n → m ≡ n
    same m n f = cc

    items : option_map (λ (o : Opening). o.client) (line t (releasing_items past)).opening
        ≡ option_map (λ (o : Opening). o.client) (line t past.primary.items).opening
    items =
        ap (λ (b : Bool). option_map (λ (o : Opening). o.client)
        (line t (if b then past.secondary.items else past.primary.items)).opening) primary

    ends : (client : ℕ) (now : Option Opening) → (line t past.primary.items).opening ≡ now →
        option_map (λ (o : Opening). o.client) now ≡ Some client → EndsWith client (clients_opened t said)
    ends client None f g = absurd (cc g)
    ends client (Some o) f g =
        subst (λ (c : ℕ). EndsWith c (clients_opened t said)) (same o.client client g)
        (last_opened t said o ((line_fits t past.primary.items).opened ∙ f))

    made : (client : ℕ) → p.client ≡ Some client → has_syn p.segment.flags ≡ true →
        IsNew past.numbers said (record { tuple = t; client = client; number = p.segment.seq })
    made client f has =
        let last = ends client (line t past.primary.items).opening refl (sym items ∙ (sym placed ∙ f)) in
        record {
          holds = record {
            opened = ap (has_client client) last.all ∙ last_client client last.front;
            status = inl (kept has client f);
          };
          current = last;
        }

    with_flag : (client : ℕ) → p.client ≡ Some client → (has : Bool) → has_syn p.segment.flags ≡ has →
        (if has then Some (record { tuple = t; client = client; number = p.segment.seq }) else None) ≡ Some x →
        IsNew past.numbers said x
    with_flag client f false has g = absurd (cc g)
    with_flag client f true has g =
        subst (IsNew past.numbers said) (one (record { tuple = t; client = client; number = p.segment.seq }) x g)
        (made client f has)
      where
        one : (y z : Syn) → Some y ≡ Some z → y ≡ z
        one y z k = cc

    by : (c : Option ℕ) → p.client ≡ c → syn_with p c ≡ Some x → IsNew past.numbers said x
    by None f g = absurd (cc g)
    by (Some client) f g = with_flag client f (has_syn p.segment.flags) refl g

all_found : {X Y : Type 0} (P : Y → Type 0) (f : X → Option Y) (xs : List X) →
    All (λ (x : X). (y : Y) → f x ≡ Some y → P y) xs → All P (filter_map f xs)
all_found P f [] h = All-nil P
all_found {X} {Y} P f (x ∷ xs) h =
    by (f x) refl (all_found P f xs (All-tail (λ (z : X). (y : Y) → f z ≡ Some y → P y) x xs h))
  where
    by : (o : Option Y) → f x ≡ o → All P (filter_map f xs) → All P (cons_option o (filter_map f xs))
    by None e rest = rest
    by (Some y) e rest =
        All-cons P y (filter_map f xs) (All-head (λ (z : X). (w : Y) → f z ≡ Some w → P w) x xs h y e) rest

new_syns : (past : Past) (ps : List Place) → secondary_releases past ≡ false →
    All (λ (p : Place). p.client ≡ current_client past p.segment.tuple) ps → All (SynIsKept past.numbers) ps →
    All (IsNew past.numbers (sent_of past.primary.items)) (filter_map syn_of ps)
new_syns past ps primary placed kept =
    all_found (IsNew past.numbers (sent_of past.primary.items)) syn_of ps
    (λ k d l x e. new_syn past (get_or ps k d) x primary (placed k d l) (kept k d l) e)

-- ALL PAIRS
all_shows : (numbers : List KeptNumber) (said : List TcpFields) (old new : List Syn) → All (SynHolds numbers said) old →
    All (IsNew numbers said) new → ShowOneNumber said old → ShowOneNumber said (old ++ new)
all_shows numbers said old new holds fresh h =
    All-append (λ (x : Syn). All (λ (y : Syn). IsTrue (same_number_shown said x y)) (old ++ new)) old new
    (λ k d l.
    let x = get_or old k d in
    All-append (λ (y : Syn). IsTrue (same_number_shown said x y)) old new (h k d l)
    (All-weaker (IsNew numbers said) (λ (y : Syn). IsTrue (same_number_shown said x y))
    (λ (y : Syn) (g : IsNew numbers said y). pair_shows numbers said x y (holds k d l) g.holds (inr g.current)) new
    fresh))
    (All-weaker (IsNew numbers said) (λ (x : Syn). All (λ (y : Syn). IsTrue (same_number_shown said x y)) (old ++ new))
    (λ (x : Syn) (f : IsNew numbers said x).
    All-append (λ (y : Syn). IsTrue (same_number_shown said x y)) old new
    (All-weaker (SynHolds numbers said) (λ (y : Syn). IsTrue (same_number_shown said x y))
    (λ (y : Syn) (g : SynHolds numbers said y). pair_shows numbers said x y f.holds g (inl f.current)) old holds)
    (All-weaker (IsNew numbers said) (λ (y : Syn). IsTrue (same_number_shown said x y))
    (λ (y : Syn) (g : IsNew numbers said y). pair_shows numbers said x y f.holds g.holds (inl f.current)) new fresh))
    new fresh)

pub shows_on : (old new more : List TcpFields) (shown : List Syn) → new ≡ old ++ more → ShowOneNumber old shown →
    ShowOneNumber new shown
shows_on old new more shown e h =
    subst (λ (said : List TcpFields). ShowOneNumber said shown) (sym e)
    (λ k d l i c j. shows_more old more (get_or shown k d) (get_or shown i c) (h k d l i c j))

-- EVERY HISTORY
pub syns_push : (a : Start) (steps : List Step) (past : Past) (x : Line) → Reached Fits a steps past →
    syns a (steps ++ (outcome_of a.kind a.stream past x).step ∷ [])
    ≡ syns a steps ++ filter_map syn_of (event_places a (event_after a steps past x))
unfolding syns
syns_push a steps past x r =
    ap (λ (ps : List Place). filter_map syn_shown a.progress ++ filter_map syn_of ps) (places_push a steps past x r)
    ∙ (ap (λ (xs : List Syn). filter_map syn_shown a.progress ++ xs)
    (filter_map-append syn_of (places a steps) (event_places a (event_after a steps past x)))
    ∙ sym (append_assoc (filter_map syn_shown a.progress) (filter_map syn_of (places a steps))
    (filter_map syn_of (event_places a (event_after a steps past x)))))

-- what holds of all SYNs shown
pub record AllShown (numbers : List KeptNumber) (said : List TcpFields) (shown : List Syn) : Type 0 where
  pub holds : All (SynHolds numbers said) shown
  pub one : ShowOneNumber said shown

pub first_shown : (a : Start) → IsStart a → AllShown a.numbers (sent_of a.items) (syns a [])
unfolding syns places events events_from
first_shown a (boots kind stream state m n regular fits bytes are) =
    record { holds = All-nil (SynHolds [] []); one = All-nil _ }

pub all_shown : (a : Start) → IsStart a → (steps : List Step) (past : Past) → Reached Fits a steps past →
    secondary_releases past ≡ false → AllShown past.numbers (sent_of past.primary.items) (syns a steps)
unfolding event_places
all_shown a start steps past begins e = first_shown a start
all_shown a start steps past (goes before old x h fits) e =
    let o = outcome_of a.kind a.stream old x in
    let said = sent_of o.after.primary.items in
    let front : GoesOn old o.after =
    each_case a.kind a.stream (λ (p : Past) (l : Line) (q : Outcome). Fits p l →
    secondary_releases q.after ≡ false → GoesOn p q.after) (each_front a.kind a.stream) old x fits e in
    let on : GoOn old.numbers o.after =
    each_case a.kind a.stream (λ (p : Past) (l : Line) (q : Outcome). secondary_releases q.after ≡ false →
    GoOn p.numbers q.after) (each_on a.kind a.stream) old x e in
    let earlier = all_shown a start before old h front.before in
    let fresh =
    new_syns o.after (places_after a o.after (released_by before) o.step.released) e
    (clients_placed a o.after (released_by before) o.step.released) (syns_reached a start before old x h e) in
    let shown = syns a before in
    let holds =
    All-weaker (SynHolds old.numbers (sent_of old.primary.items)) (SynHolds o.after.numbers said)
    (λ (y : Syn) (g : SynHolds old.numbers (sent_of old.primary.items) y).
    holds_on old.numbers o.after (sent_of old.primary.items) front.more y front.sent_is on g) shown earlier.holds in
    let new = filter_map syn_of (event_places a (event_after a before old x)) in
    subst (AllShown o.after.numbers said) (sym (syns_push a before old x h)) (record {
      holds = All-append (SynHolds o.after.numbers said) shown new holds
          (All-weaker (IsNew o.after.numbers said) (SynHolds o.after.numbers said)
          (λ (y : Syn) (g : IsNew o.after.numbers said y). g.holds) new fresh);
      one = all_shows o.after.numbers said shown new holds fresh
          (shows_on (sent_of old.primary.items) said front.more shown front.sent_is earlier.one);
    })

shows_one : (a : Start) → IsStart a → (steps : List Step) (past : Past) → Reached Fits a steps past →
    ShowsOneNumber a steps past
shows_one a start steps past r = record {
  kept = λ e. All-weaker (SynHolds past.numbers (sent_of past.primary.items))
      (KeptOrLeft past.numbers (sent_of past.primary.items)) (as_test past.numbers (sent_of past.primary.items))
      (syns a steps) (all_shown a start steps past r e).holds;
  one = λ e. (all_shown a start steps past r e).one;
}

pub numbers_with_primary : NumbersWithPrimary
numbers_with_primary a schedule start one = each_log a (ShowsOneNumber a) (shows_one a start) schedule one

-- WITHOUT A STOP OF THE PRIMARY the run is the primary's
run_segments_are : (a : Start) → IsStart a → (steps : List Step) (past : Past) → Reached Fits a steps past →
    has_primary_stop (entries steps) ≡ false → sent_of past.primary.items ≡ run_segments a (entries steps)
unfolding run_segments the_run taken_turns primary_turns
run_segments_are a start steps past r e =
    let plain = starts_plain a start in
    let log = entries steps in
    let cut = are_cut Fits a steps past r in
    let runs = are_runs Fits a plain steps past r in
    let run : past.primary.run ≡ run_of a log (primary_turns log) =
    run_is a log past.primary (primary_turns log) plain.inbox cut.primary runs.primary in
    (say_items Fits a plain.said steps past r).primary
    ∙ (ap (λ (x : Run). segments x.sent) run
    ∙ ap (λ (b : Bool). segments (run_of a log (if b then secondary_turns log else primary_turns log)).sent) (sym e))

without_stop : (a : Start) → IsStart a → (steps : List Step) (past : Past) → Reached Fits a steps past →
    has_primary_stop (entries steps) ≡ false → NumbersPart a steps
without_stop a start steps past r e =
    subst (λ (said : List TcpFields). ShowOneNumber said (syns a steps)) (run_segments_are a start steps past r e)
    (all_shown a start steps past r (no_survivor past (sym (stop_named a steps past r) ∙ e))).one

pub numbers_without_stop : NumbersWithoutStop
numbers_without_stop a schedule start one e =
    without_stop a start (pair_log a schedule) (past_from a.kind a.stream (first_past a) schedule)
    (reached_log a schedule one) e
