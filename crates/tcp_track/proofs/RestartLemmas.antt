-- A tracker knows of each tuple which clients were opened since the last commit or had their opening current at it.
use Rattle.std.proofs.Common.{◌≡◌, ℕ, Bool, true, false, not, ◌&&◌, ◌||◌, ◌==◌, if◌then◌else◌, List, [], ◌∷◌, ◌++◌, map, fold, Option, None, Some, refl, sym, ap, ap₂, subst, ◌∙◌, true≢false, eqb-true, eq-eqb, min}
use Rattle.std.specs.Prelude.{is_some, unwrap_or}
use Rattle.std.specs.List.{list_any, cons_option}
use Rattle.std.specs.Option.{option_map}
use Rattle.std.proofs.lemmas.Bool.{and_parts}
use Rattle.std.proofs.lemmas.List.Folds.{list_any-append}
use Rattle.inet_frame.specs.Counted.{counted, tuple_of}
use Rattle.inet_frame.specs.Fields.{TcpFields}
use Rattle.inet_frame.specs.Flags.{has_rst, has_syn, has_ack}
use Rattle.inet_frame.specs.declared.tuple.Tuple.{Tuple}
use Rattle.tcp_track.specs.Segments.{same_tuple, same_opening, may_open, is_refusal, opens_anew, opening_in, refused_in, start_of}
use Rattle.tcp_track.specs.Stands.{is_of_client}
use Rattle.tcp_track.specs.Lines.{sent, line}
use Rattle.tcp_track.specs.LineFields.{LineFields, fields_refused, fields_reset, fields_opened, fields_with, fields_after, fields_trimmed, cut, bytes_end, grows, grow_fields}
use Rattle.tcp_track.specs.Restarts.{Openings, no_openings, openings_after, openings, is_known_client as is_known_opening, is_restart}
use Rattle.tcp_track.specs.Tracking.{Tracking, nothing_tracked, entry_of, entry_or_none, no_entry, put_entry, entries_after, trim_entry, tracking_after, tracking_with, trim_tracking, commit_entry, commit_tracking, same_incarnation, insert_incarnation, since_after, current_at, is_known_client, what_of, what_in, took_in, span_in}
use Rattle.tcp_track.specs.Laws.{Call, takes, trims, commits, call_after, items_of, took_after}
use Rattle.tcp_track.specs.declared.openings.Opening.{Opening}
use Rattle.tcp_track.specs.declared.openings.Incarnation.{Incarnation}
use Rattle.tcp_track.specs.declared.table.Entry.{Entry}
use Rattle.tcp_track.specs.declared.answers.What.{What}
use Rattle.tcp_track.specs.declared.answers.What.TheVariants.{Ignored, Opened, Restarted, Reset, Refused}
use Rattle.tcp_track.proofs.TupleLemmas.{same_tuple-refl, same_tuple-eq, entry_of-put_same, entry_of-put_other}
use Rattle.tcp_track.proofs.StandingLemmas.{same_tuple-sym, commit_found, entry_of-commit}

-- THE OPENING OF A LINE

opening-with : (k : LineFields) (o : Option Opening) (s : TcpFields) → (fields_with k o s).opening ≡ k.opening
opening-with k None s = refl
opening-with k (Some o) s = by (grows k o.own s)
  where
    by : (b : Bool) → (if b then grow_fields k (start_of o.own s) s else k).opening ≡ k.opening
    by true = refl
    by false = refl

-- a segment with RST opens nothing
no_opening : (o : Option Opening) (s : TcpFields) → has_rst s.flags ≡ true → opens_anew o s ≡ false
unfolding may_open
no_opening o s r = by_syn (has_syn s.flags)
  where
    by_ack : (b : Bool) → ((b && not (has_rst s.flags)) && not (same_opening o (opening_in s))) ≡ false
    by_ack true = ap (λ (c : Bool). not c && not (same_opening o (opening_in s))) r
    by_ack false = refl

    by_syn : (b : Bool) → ((b && (has_ack s.flags && not (has_rst s.flags))) && not (same_opening o
        (opening_in s))) ≡ false
    by_syn true = by_ack (has_ack s.flags)
    by_syn false = refl

refusal_has_rst : (s : TcpFields) → is_refusal s ≡ true → has_rst s.flags ≡ true
unfolding is_refusal
refusal_has_rst s p = (and_parts (has_rst s.flags) (has_ack s.flags && s.seq == 0) p).0

pub opening-after : (k : LineFields) (s : TcpFields) → (fields_after k s).opening
    ≡ (if opens_anew k.opening s then Some (opening_in s) else k.opening)
unfolding fields_after
opening-after k s = by_refusal (is_refusal s) refl
  where
    target : Option Opening
    target = if opens_anew k.opening s then Some (opening_in s) else k.opening

    by_opens : (b : Bool) → (if b then fields_opened k s else fields_with k k.opening s).opening
        ≡ (if b then Some (opening_in s) else k.opening)
    by_opens true = refl
    by_opens false = opening-with k k.opening s

    by_rst : (b : Bool) → has_rst s.flags ≡ b → (if b then fields_reset k else
        (if opens_anew k.opening s then fields_opened k s else fields_with k k.opening s)).opening ≡ target
    by_rst true r = ap (λ (b : Bool). if b then Some (opening_in s) else k.opening) (sym (no_opening k.opening s r))
    by_rst false r = by_opens (opens_anew k.opening s)

    by_refusal : (b : Bool) → is_refusal s ≡ b → (if b then fields_refused k s else
        (if has_rst s.flags then fields_reset k else
        (if opens_anew k.opening s then fields_opened k s else fields_with k k.opening s))).opening ≡ target
    by_refusal true p = ap (λ (b : Bool). if b then Some (opening_in s) else k.opening) (sym (no_opening k.opening s
        (refusal_has_rst s p)))
    by_refusal false p = by_rst (has_rst s.flags) refl

opening-trimmed : (k : LineFields) (client to : ℕ) → (fields_trimmed k client to).opening ≡ k.opening
unfolding fields_trimmed
opening-trimmed k client to = by (is_of_client k.opening client)
  where
    by : (b : Bool) → (if b then cut k (min to (bytes_end k)) else k).opening ≡ k.opening
    by true = refl
    by false = refl

-- THE CLIENTS OPENED SINCE THE LAST COMMIT

eqb-sym : (a b : ℕ) → (a == b) ≡ (b == a)
eqb-sym a b = by (a == b) (b == a) refl refl
  where
    by : (x y : Bool) → (a == b) ≡ x → (b == a) ≡ y → x ≡ y
    by true true p q = refl
    by true false p q = absurd (true≢false (sym (eq-eqb b a (sym (eqb-true a b p))) ∙ q))
    by false true p q = absurd (true≢false (sym (eq-eqb a b (sym (eqb-true b a q))) ∙ p))
    by false false p q = refl

or-false : (b : Bool) → (b || false) ≡ b
or-false true = refl
or-false false = refl

or-swap : (a b : Bool) → (a || b) ≡ (b || a)
or-swap true true = refl
or-swap true false = refl
or-swap false true = refl
or-swap false false = refl

-- whether a client of a tuple is among the incarnations
abbrev pub has_client : List Incarnation → Tuple → ℕ → Bool
has_client since t client = list_any (same_incarnation (record { tuple = t; client = client })) since

has_client-same : (since : List Incarnation) (t : Tuple) (d c : ℕ) →
    has_client (insert_incarnation since (record { tuple = t; client = d })) t c ≡ ((d == c) || has_client since t c)
has_client-same since t d c = by (has_client since t d) refl
  where
    new : Incarnation
    new = record { tuple = t; client = d }

    known : (b : Bool) → (d == c) ≡ b → has_client since t d ≡ true → has_client since t c ≡ (b || has_client since t c)
    known true p h = ap (λ (n : ℕ). has_client since t n) (sym (eqb-true d c p)) ∙ h
    known false p h = refl

    by : (b : Bool) → has_client since t d ≡ b → has_client (if b then since else since ++ new ∷ []) t c
        ≡ ((d == c) || has_client since t c)
    by true h = known (d == c) refl h ∙ refl
    by false h =
        list_any-append (same_incarnation (record { tuple = t; client = c })) since (new ∷ [])
        ∙ (ap (λ b. has_client since t c || ((b && c == d) || false)) (same_tuple-refl t)
        ∙ (ap (λ b. has_client since t c || b) (or-false (c == d) ∙ eqb-sym c d)
        ∙ or-swap (has_client since t c) (d == c)))

has_client-other : (since : List Incarnation) (t u : Tuple) (d c : ℕ) → same_tuple t u ≡ false →
    has_client (insert_incarnation since (record { tuple = u; client = d })) t c ≡ has_client since t c
has_client-other since t u d c other = by (has_client since u d)
  where
    new : Incarnation
    new = record { tuple = u; client = d }

    by : (b : Bool) → has_client (if b then since else since ++ new ∷ []) t c ≡ has_client since t c
    by true = refl
    by false =
        list_any-append (same_incarnation (record { tuple = t; client = c })) since (new ∷ [])
        ∙ (ap (λ b. has_client since t c || ((b && c == d) || false)) other ∙ or-false (has_client since t c))

-- WHAT A TRACKER KNOWS OF A TUPLE'S OPENINGS

pub record Knows (t : Tuple) (o : Openings) (tracking : Tracking) : Type 0 where
  pub current : o.current ≡ (entry_or_none tracking.entries t).line.opening
  pub at_commit : o.at_commit ≡ (entry_or_none tracking.entries t).at_commit
  pub since : (c : ℕ) → list_any (λ x. x == c) o.since ≡ has_client tracking.since t c

knows_none : (t : Tuple) → Knows t no_openings nothing_tracked
knows_none t = record { current = refl; at_commit = refl; since = λ c. refl }

-- an entry of the tuple with this opening and this one of the last commit
abbrev pub HasEntry : List (Tuple × Entry) → Tuple → Option Opening → Option Opening → Type 0
HasEntry entries t current at_commit = ((entry_or_none entries t).line.opening
    ≡ current) × ((entry_or_none entries t).at_commit ≡ at_commit)

put_has : (t : Tuple) (entries : List (Tuple × Entry)) (e : Entry) →
    HasEntry (put_entry entries t e) t e.line.opening e.at_commit
put_has t entries e =
    let at = entry_of-put_same t e entries in (
      ap (λ (o : Option Entry). (unwrap_or o no_entry).line.opening) at,
      ap (λ (o : Option Entry). (unwrap_or o no_entry).at_commit) at,
    )

put_keeps : (t u : Tuple) (entries : List (Tuple × Entry)) (e : Entry) → same_tuple t u ≡ false →
    HasEntry (put_entry entries u e) t (entry_or_none entries t).line.opening (entry_or_none entries t).at_commit
put_keeps t u entries e other =
    let at = entry_of-put_other t u e entries other in (
      ap (λ (o : Option Entry). (unwrap_or o no_entry).line.opening) at,
      ap (λ (o : Option Entry). (unwrap_or o no_entry).at_commit) at,
    )

-- the opening of a segment's own tuple
segment_has : (entries : List (Tuple × Entry)) (t : Tuple) (s : TcpFields) →
    HasEntry (entries_after entries t s) t (if opens_anew (entry_or_none entries t).line.opening s then Some
    (opening_in s) else (entry_or_none entries t).line.opening) (entry_or_none entries t).at_commit
segment_has entries t s = by (is_some (entry_of entries t) || (may_open s || is_refusal s)) refl
  where
    e : Entry
    e = entry_or_none entries t

    after : Option Opening
    after = if opens_anew e.line.opening s then Some (opening_in s) else e.line.opening

    opens_not : (b m : Bool) → (b || (m || is_refusal s)) ≡ false →
        (m && not (same_opening e.line.opening (opening_in s))) ≡ false
    opens_not true m p = absurd (true≢false p)
    opens_not false true p = absurd (true≢false p)
    opens_not false false p = refl

    by : (b : Bool) → (is_some (entry_of entries t) || (may_open s || is_refusal s)) ≡ b →
        HasEntry (if b then put_entry entries t
        (record e { line = fields_after e.line s }) else entries) t after e.at_commit
    by true p = let h = put_has t entries (record e { line = fields_after e.line s }) in (
      h.0
          ∙ opening-after e.line s,
      h.1,
    )
    by false p = (
      ap (λ (b : Bool). if b then Some (opening_in s) else e.line.opening) (sym (opens_not (is_some
          (entry_of entries t)) (may_open s) p)),
      refl,
    )

other_has : (entries : List (Tuple × Entry)) (t u : Tuple) (s : TcpFields) → same_tuple t u ≡ false →
    HasEntry (entries_after entries u s) t (entry_or_none entries t).line.opening (entry_or_none entries t).at_commit
other_has entries t u s other = by (is_some (entry_of entries u) || (may_open s || is_refusal s))
  where
    by : (b : Bool) → HasEntry (if b then put_entry entries u (record (entry_or_none entries u) {
      line = fields_after
          (entry_or_none entries u).line s;
    }) else entries) t (entry_or_none entries t).line.opening
        (entry_or_none entries t).at_commit
    by true = put_keeps t u entries (record (entry_or_none entries u) {
      line = fields_after
          (entry_or_none entries u).line s;
    }) other
    by false = (refl, refl)

-- a segment on the tuple
knows_same : (o : Openings) (tracking : Tracking) (s : TcpFields) → Knows (tuple_of s) o tracking →
    Knows (tuple_of s) (if opens_anew o.current s then record o {
      current = Some (opening_in s);
      since =
          (opening_in s).client ∷ o.since;
    } else o) (tracking_after tracking s)
unfolding tracking_after
knows_same o tracking s h = subst (λ (b : Bool). Knows' (if b then record o {
  current = Some (opening_in s);
  since =
      (opening_in s).client ∷ o.since;
} else o)) (sym (ap (λ (p : Option Opening). opens_anew p s) h.current)) (by
    (opens_anew (current_at tracking t) s) refl)
  where
    t : Tuple
    t = tuple_of s

    Knows' : Openings → Type 0
    Knows' p = Knows t p (record { entries = entries_after tracking.entries t s; since = since_after tracking s })

    has : HasEntry (entries_after tracking.entries t s) t (if opens_anew (current_at tracking t) s then Some
        (opening_in s) else current_at tracking t) (entry_or_none tracking.entries t).at_commit
    has = segment_has tracking.entries t s

    new : Incarnation
    new = record { tuple = t; client = (opening_in s).client }

    noted : (b : Bool) → opens_anew (current_at tracking t) s ≡ b →
        since_after tracking s ≡ (if b then insert_incarnation tracking.since new else tracking.since)
    noted b p = ap (λ (c : Bool). if c then insert_incarnation tracking.since new else tracking.since) p

    by : (b : Bool) → opens_anew (current_at tracking t) s ≡ b →
        Knows' (if b then record o { current = Some (opening_in s); since = (opening_in s).client ∷ o.since } else o)
    by true p = record {
      current = sym (has.0 ∙ ap (λ (c : Bool). if c then Some (opening_in s) else current_at tracking t) p);
      at_commit = h.at_commit ∙ sym has.1;
      since = λ c. ap (λ b. ((opening_in s).client == c) || b) (h.since c)
          ∙ sym (ap (λ xs. has_client xs t c) (noted true p)
          ∙ has_client-same tracking.since t (opening_in s).client c);
    }
    by false p = record {
      current = h.current ∙ sym (has.0 ∙ ap (λ (c : Bool). if c then Some (opening_in s) else current_at tracking t) p);
      at_commit = h.at_commit ∙ sym has.1;
      since = λ c. h.since c ∙ sym (ap (λ xs. has_client xs t c) (noted false p));
    }

-- a segment on another tuple
knows_other : (t : Tuple) (o : Openings) (tracking : Tracking) (s : TcpFields) → same_tuple t (tuple_of s) ≡ false →
    Knows t o tracking → Knows t o (tracking_after tracking s)
unfolding tracking_after
knows_other t o tracking s other h = let has = other_has tracking.entries t (tuple_of s) s other in record {
  current = h.current ∙ sym has.0;
  at_commit = h.at_commit ∙ sym has.1;
  since = λ c. h.since c ∙ sym (by c (opens_anew (current_at tracking (tuple_of s)) s));
}
  where
    by : (c : ℕ) (b : Bool) → has_client (if b then insert_incarnation tracking.since
        (record { tuple = tuple_of s; client = (opening_in s).client }) else tracking.since) t c
        ≡ has_client tracking.since t c
    by c true = has_client-other tracking.since t (tuple_of s) (opening_in s).client c other
    by c false = refl

knows_segment : (t : Tuple) (o : Openings) (tracking : Tracking) (s : TcpFields) → Knows t o tracking →
    Knows t (openings_after t o (sent s)) (tracking_after tracking s)
unfolding openings_after
knows_segment t o tracking s h = by (same_tuple (tuple_of s) t) refl
  where
    by : (b : Bool) → same_tuple (tuple_of s) t ≡ b → Knows t
        (if b && opens_anew o.current s then record o {
          current = Some (opening_in s);
          since =
              (opening_in s).client ∷ o.since;
        } else o) (tracking_after tracking s)
    by true p =
        let e = same_tuple-eq (tuple_of s) t p in
        subst (λ (u : Tuple). Knows u (if opens_anew o.current s then record o {
          current = Some
              (opening_in s);
          since = (opening_in s).client ∷ o.since;
        } else o) (tracking_after tracking s)) e
        (knows_same o tracking s (subst (λ (u : Tuple). Knows u o tracking) (sym e) h))
    by false p = knows_other t o tracking s (same_tuple-sym t (tuple_of s) p) h

knows_trim : (t u : Tuple) (o : Openings) (tracking : Tracking) (client to : ℕ) → Knows t o tracking →
    Knows t o (trim_tracking tracking u client to)
unfolding trim_tracking
knows_trim t u o tracking client to h = record {
  current = h.current ∙ sym has.0;
  at_commit = h.at_commit ∙ sym has.1;
  since = h.since;
}
  where
    es : List (Tuple × Entry)
    es = tracking.entries

    same : (e : Entry) → entry_of es u ≡ Some e → u ≡ t → HasEntry (put_entry es u
        (record e { line = fields_trimmed e.line client to })) t (entry_or_none es t).line.opening
        (entry_or_none es t).at_commit
    same e p q =
        let at = put_has u es (record e { line = fields_trimmed e.line client to }) in
        let found : entry_or_none es u ≡ e = ap (λ (x : Option Entry). unwrap_or x no_entry) p in
        subst (λ (v : Tuple). HasEntry (put_entry es u (record e { line = fields_trimmed e.line client to })) v
        (entry_or_none es v).line.opening (entry_or_none es v).at_commit) q (
          at.0 ∙ (opening-trimmed e.line client to ∙ sym (ap (λ (x : Entry). x.line.opening) found)),
          at.1
              ∙ sym (ap (λ (x : Entry). x.at_commit) found),
        )

    by : (x : Option Entry) → entry_of es u ≡ x → (b : Bool) → same_tuple u t ≡ b →
        HasEntry (trim_entry x es u client to) t (entry_or_none es t).line.opening (entry_or_none es t).at_commit
    by None p b q = (refl, refl)
    by (Some e) p true q = same e p (same_tuple-eq u t q)
    by (Some e) p false q = put_keeps t u es (record e { line = fields_trimmed e.line client to })
        (same_tuple-sym t u q)

    has : HasEntry (trim_entry (entry_of es u) es u client to) t (entry_or_none es t).line.opening
        (entry_or_none es t).at_commit
    has = by (entry_of es u) refl (same_tuple u t) refl

knows_commit : (t : Tuple) (o : Openings) (tracking : Tracking) → Knows t o tracking →
    Knows t (record { current = o.current; at_commit = o.current; since = [] }) (commit_tracking tracking)
knows_commit t o tracking h = record {
  current = h.current ∙ sym (ap (λ (x : Option Entry). (unwrap_or x no_entry).line.opening) at
      ∙ by_current (entry_of tracking.entries t));
  at_commit = h.current ∙ sym (ap (λ (x : Option Entry). (unwrap_or x no_entry).at_commit) at
      ∙ by_commit (entry_of tracking.entries t));
  since = λ c. refl;
}
  where
    at : entry_of (map commit_entry tracking.entries) t ≡ commit_found (entry_of tracking.entries t)
    at = entry_of-commit t tracking.entries

    by_current : (x : Option Entry) → (unwrap_or (commit_found x) no_entry).line.opening
        ≡ (unwrap_or x no_entry).line.opening
    by_current None = refl
    by_current (Some e) = refl

    by_commit : (x : Option Entry) → (unwrap_or (commit_found x) no_entry).at_commit
        ≡ (unwrap_or x no_entry).line.opening
    by_commit None = refl
    by_commit (Some e) = refl

knows_calls : (t : Tuple) (calls : List Call) (o : Openings) (tracking : Tracking) → Knows t o tracking →
    Knows t (fold (openings_after t) o (items_of calls)) (fold call_after tracking calls)
unfolding openings_after
knows_calls t [] o tracking h = h
knows_calls t (takes frame ∷ calls) o tracking h = by (counted frame) (knows_calls t calls)
  where
    by : (x : Option TcpFields) → ((p : Openings) (now : Tracking) → Knows t p now →
        Knows t (fold (openings_after t) p (items_of calls)) (fold call_after now calls)) →
        Knows t (fold (openings_after t) o (cons_option (option_map sent x) (items_of calls))) (fold call_after
        (tracking_with tracking x) calls)
    by None more = more o tracking h
    by (Some s) more = more (openings_after t o (sent s)) (tracking_after tracking s) (knows_segment t o tracking s h)
knows_calls t (trims u client to ∷ calls) o tracking h = knows_calls t calls o (trim_tracking tracking u client to)
    (knows_trim t u o tracking client to h)
knows_calls t (commits ∷ calls) o tracking h = knows_calls t calls
    (record { current = o.current; at_commit = o.current; since = [] }) (commit_tracking tracking)
    (knows_commit t o tracking h)

-- THE ANSWER

-- whether an opening of the client would be a restart matters only of a segment that opens
what-restart : (current : Option Opening) (known : Bool) (s : TcpFields) →
    what_of current known s ≡ what_of current (opens_anew current s && known) s
unfolding what_of
what-restart current known s = ap (λ w. if is_refusal s then Refused (refused_in s) else (if has_rst s.flags then
    (if is_some current then Reset else Ignored) else w)) (by (opens_anew current s))
  where
    by : (b : Bool) → (if b then (if known then Restarted (opening_in s) else Opened
        (opening_in s)) else span_in current s) ≡ (if b then (if b && known then Restarted (opening_in s) else Opened
        (opening_in s)) else span_in current s)
    by true = refl
    by false = refl

-- the answer, where the line's opening is that of the openings
pub answers_what : (calls : List Call) (s : TcpFields) (line_opening : (line (tuple_of s) (items_of calls)).opening
    ≡ current_at (fold call_after nothing_tracked calls) (tuple_of s)) →
    took_in (fold call_after nothing_tracked calls) (Some s) ≡ took_after (items_of calls) s
unfolding took_after what_in is_restart openings
answers_what calls s line_opening = ap (λ (w : What). record { tuple = t; what = w }) what
  where
    t : Tuple
    t = tuple_of s

    now : Tracking
    now = fold call_after nothing_tracked calls

    o : Openings
    o = fold (openings_after t) no_openings (items_of calls)

    h : Knows t o now
    h = knows_calls t calls no_openings nothing_tracked (knows_none t)

    client : ℕ
    client = (opening_in s).client

    known : is_known_client now t client ≡ is_known_opening o client
    known = sym (ap₂ (λ a b. a || b) (h.since client) (ap (λ (p : Option Opening). is_of_client p client) h.at_commit))

    what : what_of (current_at now t) (is_known_client now t client) s
        ≡ what_of (line t (items_of calls)).opening (opens_anew o.current s && is_known_opening o client) s
    what = what-restart (current_at now t) (is_known_client now t client) s
        ∙ (λ i. what_of (sym line_opening i) (opens_anew (sym h.current i) s && known i) s)
