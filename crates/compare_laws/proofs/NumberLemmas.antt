-- The kept numbers, call by call.
use Rattle.std.proofs.Common.{◌≡◌, ℕ, Bool, true, false, not, ◌&&◌, ◌||◌, ◌==◌, cond, List, [], ◌∷◌, ◌++◌, append-nil, append_assoc, map, filter, find, Option, None, Some, is_some, if◌then◌else◌, unwrap_or, refl, sym, ap, ap₂, subst, ◌∙◌, true≢false}
use Rattle.std.specs.List.{list_any, cons_option}
use Rattle.std.specs.Map.{lookup}
use Rattle.std.specs.Option.{option_map}
use Rattle.std.proofs.lemmas.Bool.{and_parts, eq-eqb}
use Rattle.std.proofs.lemmas.Grind.{fold-append}
use Rattle.std.proofs.lemmas.List.{map-append}
use Rattle.std.proofs.lemmas.List.Elements.{filter_map-append}
use Rattle.inet_frame.specs.Counted.{counted, tuple_of}
use Rattle.inet_frame.specs.Fields.{TcpFields}
use Rattle.inet_frame.specs.Flags.{has_ack, has_rst}
use Rattle.inet_frame.specs.declared.tuple.Tuple.{Tuple}
use Rattle.tcp_track.specs.Lines.{line}
use Rattle.tcp_track.specs.Segments.{Symbol, same_tuple, same_opening, may_open, opens_anew, opening_in, is_refusal, refused_in, start_of, symbols_in}
use Rattle.tcp_track.specs.Stands.{is_of_client, opening_of, segments}
use Rattle.tcp_track.specs.Tracking.{Tracking, current_at, insert_incarnation, is_known_client, same_incarnation, span_in, span_of, took_in, what_in, what_of}
use Rattle.tcp_track.specs.declared.answers.What.TheVariants.{Ignored, Opened, Restarted, Reset, Refused}
use Rattle.tcp_track.specs.declared.openings.Incarnation.{Incarnation}
use Rattle.tcp_track.specs.declared.openings.Opening.{Opening}
use Rattle.tcp_track.proofs.StandingLemmas.{opening_of_line}
use Rattle.tcp_track.proofs.SymbolLemmas.{opening_more, rst_opens_not, same_opening_is}
use Rattle.tcp_track.proofs.TupleLemmas.{same_tuple-eq}
use Rattle.seq_rewriter.specs.Kept.{KeptNumbers, keep_number, number_of}
use Rattle.settle_rules.specs.Matching.{client_or_zero}
use Rattle.settle_rules.specs.Numbers.{KeptNumber, kept_number, number_or_zero, is_known, is_number_of, learn_number, learn_all, new_number, thin, learn as learn_kept}
use Rattle.settle_table.specs.Kept.{both_kept}
use Rattle.out_compare.specs.Comparing.{Comparing, nothing_compared, is_kept, take_own, take_heard, learn, settle, capture, acknowledge}
use Rattle.out_compare.specs.Noting.{note_number, note_unknown, number_with, opening_made, unknown_with}
use Rattle.compare_laws.specs.Calls.{CompareCall, sends, hears, learns, settles, looks, captures, acknowledges, remains, compare_after, comparing_of, frame_sent, frames_sent, incarnation_of, numbers_after, numbers_from, numbers_of, numbers_with, own_calls, own_items, table_of}
use Rattle.compare_laws.specs.Laws.{KeepsNumbers, KnowsNumbers, SettlesWithKeptNumbers}
use Rattle.compare_laws.proofs.FindLemmas.{any-filter, any-find, any-insert, find-filter, find-holds, find-map, find-push, find-same, found_first, found_first-none, same_incarnation-comm, same_incarnation-eq, same_incarnation-refl}
use Rattle.compare_laws.proofs.LineLemmas.{current_of, goes_on}

-- a number of this client
abbrev pub is_of : Incarnation → KeptNumber → Bool
is_of i k = same_incarnation i (incarnation_of k)

pub number_of-is : (t : Tuple) (client : ℕ) (k : KeptNumber) →
    is_number_of t client k ≡ is_of (record { tuple = t; client = client }) k
number_of-is t client k = same_incarnation-comm (incarnation_of k) (record { tuple = t; client = client })

-- the kept numbers that are known are those that don't wait to be
abbrev pub WaitsRightly : List Incarnation → List KeptNumber → Type 0
WaitsRightly unknown kept =
    (i : Incarnation) →
    is_known (find (is_of i) kept) ≡ (is_some (find (is_of i) kept) && not (list_any (same_incarnation i) unknown))

-- the numbers of a comparer, and which of them wait to be known, are those of a list
record Tied (numbers : KeptNumbers) (unknown : List Incarnation) (kept : List KeptNumber) : Type 0 where
  table : numbers ≡ table_of kept
  known : WaitsRightly unknown kept

-- the client of each current opening has a number
abbrev pub AreNumbered : List TcpFields → List KeptNumber → Type 0
AreNumbered said kept = (t : Tuple) (o : Opening) → opening_of t said ≡ Some o →
    is_some (find (is_of (record { tuple = t; client = o.client })) kept) ≡ true

record Numbered (numbers : KeptNumbers) (unknown : List Incarnation) (said : List TcpFields)
    (kept : List KeptNumber) : Type 0 where
  tied : Tied numbers unknown kept
  are : AreNumbered said kept

through : (found found' : Option KeptNumber) (waits waits' : Bool) → found' ≡ found → waits' ≡ waits →
    is_known found ≡ (is_some found && not waits) → is_known found' ≡ (is_some found' && not waits')
through found found' waits waits' e f h =
    ap (λ (o : Option KeptNumber). is_known o) e
    ∙ (h ∙ sym (ap₂ (λ (o : Option KeptNumber) (b : Bool). is_some o && not b) e f))

lookup-table : (i : Incarnation) (kept : List KeptNumber) →
    lookup (same_incarnation i) (table_of kept) ≡ option_map (λ (k : KeptNumber). k.number) (find (is_of i) kept)
lookup-table i [] = refl
lookup-table i (k ∷ kept) = by (is_of i k) (lookup-table i kept)
  where
    by : (b : Bool) → lookup (same_incarnation i) (table_of kept)
        ≡ option_map (λ (k : KeptNumber). k.number) (find (is_of i) kept) →
        cond b (Some k.number) (lookup (same_incarnation i) (table_of kept))
        ≡ option_map (λ (k : KeptNumber). k.number) (cond b (Some k) (find (is_of i) kept))
    by true more = refl
    by false more = more

pub some_number : (o : Option KeptNumber) → is_some (option_map (λ (k : KeptNumber). k.number) o) ≡ is_some o
some_number None = refl
some_number (Some k) = refl

-- a client has a number in both or in neither
has_number : (numbers : KeptNumbers) (unknown : List Incarnation) (kept : List KeptNumber) (i : Incarnation) →
    Tied numbers unknown kept → is_some (lookup (same_incarnation i) numbers) ≡ is_some (find (is_of i) kept)
has_number numbers unknown kept i h =
    ap (λ (ns : KeptNumbers). is_some (lookup (same_incarnation i) ns)) h.table
    ∙ (ap (λ (o : Option ℕ). is_some o) (lookup-table i kept) ∙ some_number (find (is_of i) kept))

-- A NUMBER THAT IS KEPT NEWLY

pub waits_push : (unknown : List Incarnation) (kept : List KeptNumber) (new : KeptNumber) →
    new.known ≡ false → is_some (find (is_of (incarnation_of new)) kept) ≡ false → WaitsRightly unknown kept →
    WaitsRightly (insert_incarnation unknown (incarnation_of new)) (kept ++ new ∷ [])
waits_push unknown kept new waits absent h = λ i. by i (same_incarnation i (incarnation_of new)) refl
  where
    none_there : (o : Option KeptNumber) → is_some o ≡ false → found_first o (Some new) ≡ Some new
    none_there None e = refl
    none_there (Some k) e = absurd (true≢false e)

    by : (i : Incarnation) (b : Bool) → same_incarnation i (incarnation_of new) ≡ b →
        is_known (find (is_of i) (kept ++ new ∷ [])) ≡ (is_some (find (is_of i) (kept ++ new ∷ []))
        && not (list_any (same_incarnation i) (insert_incarnation unknown (incarnation_of new))))
    by i true e =
        let same = same_incarnation-eq i (incarnation_of new) e in
        let no : is_some (find (is_of i) kept) ≡ false =
        ap (λ (j : Incarnation). is_some (find (is_of j) kept)) same ∙ absent in
        through (Some new) (find (is_of i) (kept ++ new ∷ [])) true
        (list_any (same_incarnation i) (insert_incarnation unknown (incarnation_of new)))
        (find-push (is_of i) kept new
        ∙ (ap (λ (b : Bool). found_first (find (is_of i) kept) (cond b (Some new) None)) e
        ∙ none_there (find (is_of i) kept) no))
        (any-insert i (incarnation_of new) unknown ∙ ap (λ (b : Bool). b || list_any (same_incarnation i) unknown) e)
        waits
    by i false e =
        through (find (is_of i) kept) (find (is_of i) (kept ++ new ∷ [])) (list_any (same_incarnation i) unknown)
        (list_any (same_incarnation i) (insert_incarnation unknown (incarnation_of new)))
        (find-push (is_of i) kept new
        ∙ (ap (λ (b : Bool). found_first (find (is_of i) kept) (cond b (Some new) None)) e
        ∙ found_first-none (find (is_of i) kept)))
        (any-insert i (incarnation_of new) unknown ∙ ap (λ (b : Bool). b || list_any (same_incarnation i) unknown) e)
        (h i)

tied_push : (numbers : KeptNumbers) (unknown : List Incarnation) (kept : List KeptNumber) (new : KeptNumber) →
    new.known ≡ false → is_some (find (is_of (incarnation_of new)) kept) ≡ false → Tied numbers unknown kept →
    Tied (numbers ++ (incarnation_of new, new.number) ∷ []) (insert_incarnation unknown (incarnation_of new))
    (kept ++ new ∷ [])
tied_push numbers unknown kept new waits absent h = record {
  table = ap (λ (ns : KeptNumbers). ns ++ (incarnation_of new, new.number) ∷ []) h.table
      ∙ sym (map-append (λ (k : KeptNumber). (incarnation_of k, k.number)) kept (new ∷ []));
  known = waits_push unknown kept new waits absent h.known;
}

-- WHAT A SEGMENT OPENS

reset_makes : (b : Bool) → opening_made (if b then Reset else Ignored) ≡ None
reset_makes true = refl
reset_makes false = refl

span_makes : (current : Option Opening) (s : TcpFields) → opening_made (span_in current s) ≡ None
span_makes None s = refl
span_makes (Some o) s = by (start_of o.own s) (symbols_in o.own s)
  where
    by : (from : ℕ) (xs : List Symbol) → opening_made (span_of from xs) ≡ None
    by from [] = refl
    by from (x ∷ xs) = refl

opens_not : (current : Option Opening) (s : TcpFields) → has_rst s.flags ≡ true → opens_anew current s ≡ false
opens_not current s r = ap (λ (b : Bool). b && not (same_opening current (opening_in s))) (rst_opens_not s r)

refusal_resets : (s : TcpFields) → is_refusal s ≡ true → has_rst s.flags ≡ true
unfolding is_refusal
refusal_resets s h = (and_parts (has_rst s.flags) (has_ack s.flags && s.seq == 0) h).0

pub what_makes : (current : Option Opening) (known : Bool) (s : TcpFields) →
    opening_made (what_of current known s) ≡ (if opens_anew current s then Some (opening_in s) else None)
unfolding what_of
what_makes current known s = by_refusal (is_refusal s) refl
  where
    target : Bool → Option Opening
    target b = if b then Some (opening_in s) else None

    by_known : (k : Bool) → opening_made (if k then Restarted (opening_in s) else Opened (opening_in s))
        ≡ Some (opening_in s)
    by_known true = refl
    by_known false = refl

    by_opens : (b : Bool) → opening_made (if b then (if known then Restarted (opening_in s) else Opened
        (opening_in s)) else span_in current s) ≡ target b
    by_opens true = by_known known
    by_opens false = span_makes current s

    by_rst : (b : Bool) → has_rst s.flags ≡ b → opening_made (if b then (if is_some current then Reset else Ignored)
        else (if opens_anew current s then (if known then Restarted (opening_in s) else Opened (opening_in s))
        else span_in current s)) ≡ target (opens_anew current s)
    by_rst true r = reset_makes (is_some current) ∙ ap target (sym (opens_not current s r))
    by_rst false r = by_opens (opens_anew current s)

    by_refusal : (b : Bool) → is_refusal s ≡ b → opening_made (if b then Refused (refused_in s)
        else (if has_rst s.flags then (if is_some current then Reset else Ignored)
        else (if opens_anew current s then (if known then Restarted (opening_in s) else Opened (opening_in s))
        else span_in current s))) ≡ target (opens_anew current s)
    by_refusal true e = ap target (sym (opens_not current s (refusal_resets s e)))
    by_refusal false e = by_rst (has_rst s.flags) refl

-- what an opening changes only where it is new, changes exactly where no number is kept, since the
-- client of a current opening has one
pub choose : {X : Type 0} (opens same has : Bool) (old new : X) → (opens ≡ true → same ≡ true → has ≡ true) →
    (if opens && not same then (if has then old else new) else old) ≡ (if opens && not has then new else old)
choose false same has old new h = refl
choose true true true old new h = refl
choose true true false old new h = absurd (true≢false (sym (h refl refl)))
choose true false true old new h = refl
choose true false false old new h = refl

number_if : (b : Bool) (numbers : KeptNumbers) (t : Tuple) (o : Opening) →
    number_with numbers t (if b then Some o else None) ≡ (if b then keep_number numbers t o.client o.own else numbers)
number_if true numbers t o = refl
number_if false numbers t o = refl

unknown_if : (b : Bool) (numbers : KeptNumbers) (unknown : List Incarnation) (t : Tuple) (o : Opening) →
    unknown_with numbers unknown t (if b then Some o else None) ≡ (if b then (if is_some (number_of numbers t o.client)
    then unknown else insert_incarnation unknown (record { tuple = t; client = o.client })) else unknown)
unknown_if true numbers unknown t o = refl
unknown_if false numbers unknown t o = refl

-- the number that a segment's opening would have
abbrev pub new_of : TcpFields → KeptNumber
new_of s = record { tuple = tuple_of s; client = (opening_in s).client; number = s.seq; known = false }

abbrev pub has_new : List KeptNumber → TcpFields → Bool
has_new kept s = is_some (find (is_of (incarnation_of (new_of s))) kept)

abbrev pub is_new : List KeptNumber → TcpFields → Bool
is_new kept s = may_open s && not (has_new kept s)

pub kept_then : (kept : List KeptNumber) (s : TcpFields) →
    kept ++ new_number kept s ≡ (if is_new kept s then kept ++ new_of s ∷ [] else kept)
unfolding new_number
kept_then kept s =
    ap (λ (b : Bool). kept ++ (if may_open s && not b then new_of s ∷ [] else []))
    (any-find (is_number_of (tuple_of s) (opening_in s).client) kept
    ∙ ap (λ (o : Option KeptNumber). is_some o) (find-same (is_number_of (tuple_of s) (opening_in s).client)
    (is_of (incarnation_of (new_of s))) (number_of-is (tuple_of s) (opening_in s).client) kept))
    ∙ by (is_new kept s)
  where
    by : (b : Bool) → kept ++ (if b then new_of s ∷ [] else []) ≡ (if b then kept ++ new_of s ∷ [] else kept)
    by true = refl
    by false = append-nil kept

-- a current opening's client has a number
pub current_has : (current : Option Opening) (said : List TcpFields) (kept : List KeptNumber) (s : TcpFields) →
    current ≡ opening_of (tuple_of s) said → AreNumbered said kept →
    same_opening current (opening_in s) ≡ true → has_new kept s ≡ true
current_has current said kept s e are same =
    are (tuple_of s) (opening_in s) (sym e ∙ same_opening_is current (opening_in s) same)

pub numbers_then : (mine : Tracking) (numbers : KeptNumbers) (unknown : List Incarnation) (said : List TcpFields)
    (kept : List KeptNumber) (s : TcpFields) → current_at mine (tuple_of s) ≡ opening_of (tuple_of s) said →
    is_some (number_of numbers (tuple_of s) (opening_in s).client) ≡ has_new kept s → AreNumbered said kept →
    note_number numbers (took_in mine (Some s))
    ≡ (if is_new kept s then numbers ++ (incarnation_of (new_of s), s.seq) ∷ [] else numbers)
unfolding what_in
numbers_then mine numbers unknown said kept s e has are =
    let t = tuple_of s in
    let o = opening_in s in
    let current = current_at mine t in
    let same = same_opening current o in
    ap (λ (made : Option Opening). number_with numbers t made) (what_makes current (is_known_client mine t o.client) s)
    ∙ (number_if (may_open s && not same) numbers t o
    ∙ (ap (λ (b : Bool). if may_open s && not same then (if b then numbers else numbers
    ++ (incarnation_of (new_of s), s.seq) ∷ []) else numbers)
    has
    ∙ choose (may_open s) same (has_new kept s) numbers (numbers ++ (incarnation_of (new_of s), s.seq) ∷ [])
    (λ opens is. current_has current said kept s e are is)))

pub unknown_then : (mine : Tracking) (numbers : KeptNumbers) (unknown : List Incarnation) (said : List TcpFields)
    (kept : List KeptNumber) (s : TcpFields) → current_at mine (tuple_of s) ≡ opening_of (tuple_of s) said →
    is_some (number_of numbers (tuple_of s) (opening_in s).client) ≡ has_new kept s → AreNumbered said kept →
    note_unknown numbers unknown (took_in mine (Some s))
    ≡ (if is_new kept s then insert_incarnation unknown (incarnation_of (new_of s)) else unknown)
unfolding what_in
unknown_then mine numbers unknown said kept s e has are =
    let t = tuple_of s in
    let o = opening_in s in
    let current = current_at mine t in
    let same = same_opening current o in
    ap (λ (made : Option Opening). unknown_with numbers unknown t made)
    (what_makes current (is_known_client mine t o.client) s)
    ∙ (unknown_if (may_open s && not same) numbers unknown t o
    ∙ (ap (λ (b : Bool). if may_open s && not same then (if b then unknown
    else insert_incarnation unknown (incarnation_of (new_of s))) else unknown)
    has
    ∙ choose (may_open s) same (has_new kept s) unknown (insert_incarnation unknown (incarnation_of (new_of s)))
    (λ opens is. current_has current said kept s e are is)))

tied_then : (b : Bool) (numbers : KeptNumbers) (unknown : List Incarnation) (kept : List KeptNumber) (s : TcpFields) →
    (b ≡ true → has_new kept s ≡ false) → Tied numbers unknown kept →
    Tied (if b then numbers ++ (incarnation_of (new_of s), s.seq) ∷ [] else numbers)
    (if b then insert_incarnation unknown (incarnation_of (new_of s)) else unknown)
    (if b then kept ++ new_of s ∷ [] else kept)
tied_then true numbers unknown kept s absent h = tied_push numbers unknown kept (new_of s) refl (absent refl) h
tied_then false numbers unknown kept s absent h = h

-- a number is new only where none is there
pub not_there : (kept : List KeptNumber) (s : TcpFields) → is_new kept s ≡ true → has_new kept s ≡ false
not_there kept s e = by (may_open s) (has_new kept s) e
  where
    by : (m has : Bool) → (m && not has) ≡ true → has ≡ false
    by true true e = absurd (true≢false (sym e))
    by true false e = refl
    by false has e = absurd (true≢false (sym e))

pub found_stays : (i : Incarnation) (kept : List KeptNumber) (new : KeptNumber) (b : Bool) →
    is_some (find (is_of i) kept) ≡ true → is_some (find (is_of i) (if b then kept ++ new ∷ [] else kept)) ≡ true
found_stays i kept new false h = h
found_stays i kept new true h =
    ap (λ (o : Option KeptNumber). is_some o) (find-push (is_of i) kept new) ∙ by (find (is_of i) kept) h
  where
    by : (o : Option KeptNumber) → is_some o ≡ true →
        is_some (found_first o (cond (is_of i new) (Some new) None)) ≡ true
    by None h = absurd (true≢false (sym h))
    by (Some k) h = refl

-- after a segment that may open, its client has a number
opened_has : (kept : List KeptNumber) (s : TcpFields) → may_open s ≡ true →
    is_some (find (is_of (incarnation_of (new_of s))) (if is_new kept s then kept ++ new_of s ∷ [] else kept)) ≡ true
opened_has kept s opens = by (has_new kept s) refl
  where
    i : Incarnation
    i = incarnation_of (new_of s)

    last : (o : Option KeptNumber) → is_some (found_first o (Some (new_of s))) ≡ true
    last None = refl
    last (Some k) = refl

    pushed : (b : Bool) → b ≡ true → is_some (find (is_of i) (if b then kept ++ new_of s ∷ [] else kept)) ≡ true
    pushed true e =
        ap (λ (o : Option KeptNumber). is_some o) (find-push (is_of i) kept (new_of s))
        ∙ (ap (λ (b : Bool). is_some (found_first (find (is_of i) kept) (cond b (Some (new_of s)) None)))
        (same_incarnation-refl i) ∙ last (find (is_of i) kept))
    pushed false e = absurd (true≢false (sym e))

    by : (b : Bool) → has_new kept s ≡ b →
        is_some (find (is_of i) (if is_new kept s then kept ++ new_of s ∷ [] else kept)) ≡ true
    by true h = found_stays i kept (new_of s) (is_new kept s) h
    by false h = pushed (is_new kept s) (ap₂ (λ (x y : Bool). x && not y) opens h)

some-same : (o p : Opening) → Some o ≡ Some p → o ≡ p
some-same o p e = cc

pub are_then : (said : List TcpFields) (kept : List KeptNumber) (s : TcpFields) → AreNumbered said kept →
    AreNumbered (said ++ s ∷ []) (if is_new kept s then kept ++ new_of s ∷ [] else kept)
are_then said kept s are t o e =
    by (same_tuple (tuple_of s) t) refl (may_open s) refl (sym (opening_more t said s) ∙ e)
  where
    goal : Type 0
    goal = is_some (find (is_of (record { tuple = t; client = o.client }))
        (if is_new kept s then kept ++ new_of s ∷ [] else kept)) ≡ true

    old : opening_of t said ≡ Some o → goal
    old e = found_stays (record { tuple = t; client = o.client }) kept (new_of s) (is_new kept s) (are t o e)

    by : (b : Bool) → same_tuple (tuple_of s) t ≡ b → (m : Bool) → may_open s ≡ m →
        (if b && m then Some (opening_in s) else opening_of t said) ≡ Some o → goal
    by true same true opens e =
        let there = same_tuple-eq (tuple_of s) t same in
        let is : opening_in s ≡ o = some-same (opening_in s) o e in
        ap₂ (λ (u : Tuple) (p : Opening). is_some (find (is_of (record { tuple = u; client = p.client }))
        (if is_new kept s then kept ++ new_of s ∷ [] else kept))) (sym there) (sym is) ∙ opened_has kept s opens
    by true same false opens e = old e
    by false same m opens e = old e

sends_one : (mine : Tracking) (numbers : KeptNumbers) (unknown : List Incarnation) (said : List TcpFields)
    (kept : List KeptNumber) (o : Option TcpFields) → ((t : Tuple) → current_at mine t ≡ opening_of t said) →
    Numbered numbers unknown said kept →
    Numbered (note_number numbers (took_in mine o)) (note_unknown numbers unknown (took_in mine o))
    (said ++ cons_option o []) (numbers_with kept o)
sends_one mine numbers unknown said kept None current h =
    subst (λ (xs : List TcpFields). Numbered numbers unknown xs kept) (sym (append-nil said)) h
sends_one mine numbers unknown said kept (Some s) current h =
    let e = current (tuple_of s) in
    let has = has_number numbers unknown kept (incarnation_of (new_of s)) h.tied in
    let n = numbers_then mine numbers unknown said kept s e has h.are in
    let u = unknown_then mine numbers unknown said kept s e has h.are in
    let k = kept_then kept s in
    let tied = tied_then (is_new kept s) numbers unknown kept s (not_there kept s) h.tied in
    record {
      tied = subst (λ (ks : List KeptNumber). Tied (note_number numbers (took_in mine (Some s)))
          (note_unknown numbers unknown (took_in mine (Some s))) ks) (sym k)
          (subst (λ (us : List Incarnation). Tied (note_number numbers (took_in mine (Some s))) us
          (if is_new kept s then kept ++ new_of s ∷ [] else kept)) (sym u)
          (subst (λ (ns : KeptNumbers). Tied ns
          (if is_new kept s then insert_incarnation unknown (incarnation_of (new_of s)) else unknown)
          (if is_new kept s then kept ++ new_of s ∷ [] else kept)) (sym n) tied));
      are = subst (λ (ks : List KeptNumber). AreNumbered (said ++ s ∷ []) ks) (sym k) (are_then said kept s h.are);
    }

-- A CAPTURE

table-filter : (q : KeptNumber → Bool) (r : Incarnation → Bool) → ((k : KeptNumber) → q k ≡ r (incarnation_of k)) →
    (kept : List KeptNumber) → filter (λ (n : Incarnation × ℕ). r n.0) (table_of kept) ≡ table_of (filter q kept)
table-filter q r same [] = refl
table-filter q r same (k ∷ kept) =
    ap (λ (b : Bool). cond b ((incarnation_of k, k.number) ∷ filter (λ (n : Incarnation × ℕ). r n.0) (table_of kept))
    (filter (λ (n : Incarnation × ℕ). r n.0) (table_of kept))) (sym (same k))
    ∙ by (q k) (table-filter q r same kept)
  where
    by : (b : Bool) → filter (λ (n : Incarnation × ℕ). r n.0) (table_of kept) ≡ table_of (filter q kept) →
        cond b ((incarnation_of k, k.number) ∷ filter (λ (n : Incarnation × ℕ). r n.0) (table_of kept))
        (filter (λ (n : Incarnation × ℕ). r n.0) (table_of kept))
        ≡ table_of (cond b (k ∷ filter q kept) (filter q kept))
    by true more = ap (λ (ns : KeptNumbers). (incarnation_of k, k.number) ∷ ns) more
    by false more = more

-- what is found of the numbers that pass a test
pub found-thin : (kept : List KeptNumber) (q : KeptNumber → Bool) (r : Incarnation → Bool) →
    ((k : KeptNumber) → q k ≡ r (incarnation_of k)) → (i : Incarnation) →
    find (is_of i) (filter q kept) ≡ cond (r i) (find (is_of i) kept) None
found-thin kept q r same i = find-filter (is_of i) q (r i)
    (λ k e. same k ∙ ap r (sym (same_incarnation-eq i (incarnation_of k) e))) kept

pub waits_thin : (unknown : List Incarnation) (kept : List KeptNumber) (q : KeptNumber → Bool)
    (r : Incarnation → Bool) → ((k : KeptNumber) → q k ≡ r (incarnation_of k)) → WaitsRightly unknown kept →
    WaitsRightly (filter r unknown) (filter q kept)
waits_thin unknown kept q r same h = λ i. through (cond (r i) (find (is_of i) kept) None)
    (find (is_of i) (filter q kept)) (r i && list_any (same_incarnation i) unknown)
    (list_any (same_incarnation i) (filter r unknown)) (found-thin kept q r same i)
    (any-filter (same_incarnation i) r (r i) (λ j e. ap r (sym (same_incarnation-eq i j e))) unknown) (by i (r i))
  where
    by : (i : Incarnation) (b : Bool) → is_known (cond b (find (is_of i) kept) None)
        ≡ (is_some (cond b (find (is_of i) kept) None) && not (b && list_any (same_incarnation i) unknown))
    by i true = h i
    by i false = refl

pub are_thin : (said : List TcpFields) (kept : List KeptNumber) (q : KeptNumber → Bool) (r : Incarnation → Bool) →
    ((k : KeptNumber) → q k ≡ r (incarnation_of k)) →
    ((t : Tuple) (o : Opening) → opening_of t said ≡ Some o → r (record { tuple = t; client = o.client }) ≡ true) →
    AreNumbered said kept → AreNumbered said (filter q kept)
are_thin said kept q r same stays h = λ t o e.
    ap (λ (x : Option KeptNumber). is_some x) (found-thin kept q r same (record { tuple = t; client = o.client }))
    ∙ (ap (λ (b : Bool). is_some (cond b (find (is_of (record { tuple = t; client = o.client })) kept) None))
    (stays t o e) ∙ h t o e)

thins : (numbers : KeptNumbers) (unknown : List Incarnation) (said : List TcpFields) (kept : List KeptNumber)
    (q : KeptNumber → Bool) (r : Incarnation → Bool) → ((k : KeptNumber) → q k ≡ r (incarnation_of k)) →
    ((t : Tuple) (o : Opening) → opening_of t said ≡ Some o → r (record { tuple = t; client = o.client }) ≡ true) →
    Numbered numbers unknown said kept →
    Numbered (filter (λ (n : Incarnation × ℕ). r n.0) numbers) (filter r unknown) said (filter q kept)
thins numbers unknown said kept q r same stays h = record {
  tied = record {
    table = ap (λ (ns : KeptNumbers). filter (λ (n : Incarnation × ℕ). r n.0) ns) h.tied.table
        ∙ table-filter q r same kept;
    known = waits_thin unknown kept q r same h.tied.known;
  };
  are = are_thin said kept q r same stays h.are;
}

-- NUMBERS THAT ARE KNOWN

-- the same numbers, of which some more are known
pub record KeepsKeys (f : KeptNumber → KeptNumber) : Type 0 where
  pub key : (k : KeptNumber) → incarnation_of (f k) ≡ incarnation_of k
  pub number : (k : KeptNumber) → (f k).number ≡ k.number

table-map : (f : KeptNumber → KeptNumber) → KeepsKeys f → (kept : List KeptNumber) →
    table_of (map f kept) ≡ table_of kept
table-map f keeps [] = refl
table-map f keeps (k ∷ kept) =
    ap₂ (λ (n : Incarnation × ℕ) (ns : KeptNumbers). n ∷ ns)
    (ap₂ (λ (i : Incarnation) (n : ℕ). (i, n)) (keeps.key k) (keeps.number k)) (table-map f keeps kept)

pub found-map : (f : KeptNumber → KeptNumber) → KeepsKeys f → (kept : List KeptNumber) (i : Incarnation) →
    find (is_of i) (map f kept) ≡ option_map f (find (is_of i) kept)
found-map f keeps kept i =
    find-map (is_of i) f (λ k. ap (λ (j : Incarnation). same_incarnation i j) (keeps.key k)) kept

pub still_some : (f : KeptNumber → KeptNumber) (o : Option KeptNumber) → is_some (option_map f o) ≡ is_some o
still_some f None = refl
still_some f (Some k) = refl

pub waits_map : (now : List Incarnation) (kept : List KeptNumber) (f : KeptNumber → KeptNumber) → KeepsKeys f →
    ((i : Incarnation) (k : KeptNumber) → find (is_of i) kept ≡ Some k →
    (f k).known ≡ not (list_any (same_incarnation i) now)) → WaitsRightly now (map f kept)
waits_map now kept f keeps known = λ i. through (option_map f (find (is_of i) kept)) (find (is_of i) (map f kept))
    (list_any (same_incarnation i) now) (list_any (same_incarnation i) now) (found-map f keeps kept i) refl
    (by i (find (is_of i) kept) refl)
  where
    by : (i : Incarnation) (o : Option KeptNumber) → find (is_of i) kept ≡ o →
        is_known (option_map f o) ≡ (is_some (option_map f o) && not (list_any (same_incarnation i) now))
    by i None e = refl
    by i (Some k) e = known i k e

pub are_map : (said : List TcpFields) (kept : List KeptNumber) (f : KeptNumber → KeptNumber) → KeepsKeys f →
    AreNumbered said kept → AreNumbered said (map f kept)
are_map said kept f keeps h = λ t o e.
    ap (λ (x : Option KeptNumber). is_some x) (found-map f keeps kept (record { tuple = t; client = o.client }))
    ∙ (still_some f (find (is_of (record { tuple = t; client = o.client })) kept) ∙ h t o e)

knows_more : (numbers : KeptNumbers) (unknown now : List Incarnation) (said : List TcpFields) (kept : List KeptNumber)
    (f : KeptNumber → KeptNumber) → KeepsKeys f → Numbered numbers unknown said kept →
    WaitsRightly now (map f kept) → Numbered numbers now said (map f kept)
knows_more numbers unknown now said kept f keeps h known = record {
  tied = record { table = h.tied.table ∙ sym (table-map f keeps kept); known = known };
  are = are_map said kept f keeps h.are;
}

pub learns_keys : (t : Tuple) (client number : ℕ) → KeepsKeys (learn_kept t client number)
learns_keys t client number = record {
  key = λ k. by_key k (is_number_of t client k && k.number == number);
  number = λ k. by_number k (is_number_of t client k && k.number == number);
}
  where
    by_key : (k : KeptNumber) (b : Bool) →
        incarnation_of (if b then record k { known = true } else k) ≡ incarnation_of k
    by_key k true = refl
    by_key k false = refl

    by_number : (k : KeptNumber) (b : Bool) → (if b then record k { known = true } else k).number ≡ k.number
    by_number k true = refl
    by_number k false = refl

-- what is still unknown after one number was said to be known
abbrev pub unknown_still : Bool → List Incarnation → Incarnation → List Incarnation
unknown_still b unknown j =
    if b then filter (λ (i : Incarnation). not (same_incarnation i j)) unknown else unknown

pub waits_learn : (numbers : KeptNumbers) (unknown : List Incarnation) (kept : List KeptNumber) (t : Tuple)
    (client number : ℕ) → ((k : KeptNumber) → find (is_of (record { tuple = t; client = client })) kept ≡ Some k →
    number_of numbers t client ≡ Some k.number) → WaitsRightly unknown kept →
    WaitsRightly (unknown_still (is_kept (number_of numbers t client) number) unknown
    (record { tuple = t; client = client })) (learn_number kept t client number)
waits_learn numbers unknown kept t client number looked h = waits_map
    (unknown_still (is_kept (number_of numbers t client) number) unknown j) kept (learn_kept t client number)
    (learns_keys t client number) known
  where
    j : Incarnation
    j = record { tuple = t; client = client }

    was : (i : Incarnation) (k : KeptNumber) → find (is_of i) kept ≡ Some k →
        k.known ≡ not (list_any (same_incarnation i) unknown)
    was i k e = subst (λ (o : Option KeptNumber). is_known o ≡ (is_some o
        && not (list_any (same_incarnation i) unknown))) e (h i)

    here : (k : KeptNumber) → find (is_of j) kept ≡ Some k → (m : Bool) →
        (if m then record k { known = true } else k).known
        ≡ not (list_any (same_incarnation j) (unknown_still m unknown j))
    here k e true = ap not (sym (any-filter (same_incarnation j) (λ (i : Incarnation). not (same_incarnation i j)) false
        (λ i f. ap not (same_incarnation-comm i j ∙ f)) unknown))
    here k e false = was j k e

    elsewhere : (i : Incarnation) (k : KeptNumber) → find (is_of i) kept ≡ Some k → same_incarnation i j ≡ false →
        (m : Bool) → k.known ≡ not (list_any (same_incarnation i) (unknown_still m unknown j))
    elsewhere i k e other true = was i k e ∙ ap not (sym (any-filter (same_incarnation i)
        (λ (x : Incarnation). not (same_incarnation x j)) true
        (λ x f. ap not (ap (λ (y : Incarnation). same_incarnation y j) (sym (same_incarnation-eq i x f)) ∙ other))
        unknown))
    elsewhere i k e other false = was i k e

    is_here : (k : KeptNumber) (b : Bool) → is_of j k ≡ b →
        (learn_kept t client number k).known ≡ (if b && k.number == number then record k { known = true } else k).known
    is_here k b e = ap (λ (c : Bool). (if c && k.number == number then record k { known = true } else k).known)
        (number_of-is t client k ∙ e)

    by : (i : Incarnation) (k : KeptNumber) → find (is_of i) kept ≡ Some k → (b : Bool) → same_incarnation i j ≡ b →
        (learn_kept t client number k).known ≡ not (list_any (same_incarnation i)
        (unknown_still (is_kept (number_of numbers t client) number) unknown j))
    by i k e true same =
        let same_key = same_incarnation-eq i j same in
        let at : find (is_of j) kept ≡ Some k = subst (λ (x : Incarnation). find (is_of x) kept ≡ Some k) same_key e in
        is_here k true (find-holds (is_of j) kept k at)
        ∙ (here k at (k.number == number)
        ∙ ap₂ (λ (x : Incarnation) (o : Option ℕ). not (list_any (same_incarnation x)
        (unknown_still (is_kept o number) unknown j))) (sym same_key) (sym (looked k at)))
    by i k e false other =
        let key = same_incarnation-eq i (incarnation_of k) (find-holds (is_of i) kept k e) in
        is_here k false (same_incarnation-comm j (incarnation_of k)
        ∙ (ap (λ (x : Incarnation). same_incarnation x j) (sym key) ∙ other))
        ∙ elsewhere i k e other (is_kept (number_of numbers t client) number)

    known : (i : Incarnation) (k : KeptNumber) → find (is_of i) kept ≡ Some k →
        (learn_kept t client number k).known ≡ not (list_any (same_incarnation i)
        (unknown_still (is_kept (number_of numbers t client) number) unknown j))
    known i k e = by i k e (same_incarnation i j) refl

learns_one : (numbers : KeptNumbers) (unknown : List Incarnation) (said : List TcpFields) (kept : List KeptNumber)
    (t : Tuple) (client number : ℕ) → Numbered numbers unknown said kept →
    Numbered numbers (unknown_still (is_kept (number_of numbers t client) number) unknown
    (record { tuple = t; client = client })) said (learn_number kept t client number)
learns_one numbers unknown said kept t client number h = knows_more numbers unknown
    (unknown_still (is_kept (number_of numbers t client) number) unknown j) said kept (learn_kept t client number)
    (learns_keys t client number) h (waits_learn numbers unknown kept t client number looked h.tied.known)
  where
    j : Incarnation
    j = record { tuple = t; client = client }

    looked : (k : KeptNumber) → find (is_of j) kept ≡ Some k → number_of numbers t client ≡ Some k.number
    looked k e = ap (λ (ns : KeptNumbers). number_of ns t client) h.tied.table
        ∙ (lookup-table j kept ∙ ap (λ (o : Option KeptNumber). option_map (λ (k : KeptNumber). k.number) o) e)

abbrev pub all_known : KeptNumber → KeptNumber
all_known k = record k { known = true }

pub all_keys : KeepsKeys all_known
all_keys = record { key = λ k. refl; number = λ k. refl }

pub waits_none : (kept : List KeptNumber) → WaitsRightly [] (learn_all kept)
waits_none kept = waits_map [] kept all_known all_keys (λ i k e. refl)

learns_all : (numbers : KeptNumbers) (unknown : List Incarnation) (said : List TcpFields) (kept : List KeptNumber) →
    Numbered numbers unknown said kept → Numbered numbers [] said (learn_all kept)
learns_all numbers unknown said kept h = knows_more numbers unknown [] said kept all_known all_keys h
    (waits_none kept)

-- ANY LIST OF CALLS

abbrev said_in : List CompareCall → List TcpFields
said_in calls = segments (frames_sent calls)

abbrev AreKept : Comparing → List TcpFields → List KeptNumber → Type 0
AreKept x said kept = Numbered x.numbers x.unknown said kept

said_next : (before : List CompareCall) (call : CompareCall) →
    said_in (before ++ call ∷ []) ≡ said_in before ++ said_in (call ∷ [])
said_next before call =
    ap (λ (frames : List (List ℕ)). segments frames) (filter_map-append frame_sent before (call ∷ []))
    ∙ filter_map-append counted (frames_sent before) (frames_sent (call ∷ []))

silent : (before : List CompareCall) (call : CompareCall) → said_in (call ∷ []) ≡ [] →
    said_in before ≡ said_in (before ++ call ∷ [])
silent before call e = sym (said_next before call ∙ (ap (λ (xs : List TcpFields). said_in before ++ xs) e
    ∙ append-nil (said_in before)))

captures_one : (before : List CompareCall) (kept : List KeptNumber) →
    AreKept (comparing_of before) (said_in before) kept →
    AreKept (capture (comparing_of before)) (said_in before) (thin (own_items before) kept)
unfolding capture thin
captures_one before kept h =
    let x = comparing_of before in
    thins x.numbers x.unknown (said_in before) kept
    (λ (k : KeptNumber). is_of_client (line k.tuple (own_items before)).opening k.client)
    (λ (i : Incarnation). is_of_client (current_at x.mine i.tuple) i.client)
    (λ k. ap (λ (o : Option Opening). is_of_client o k.client)
    (opening_of_line (own_calls nothing_compared before) k.tuple
    ∙ sym (ap (λ (m : Tracking). current_at m k.tuple) (goes_on nothing_compared before))))
    (λ t o e. ap (λ (p : Option Opening). is_of_client p o.client) (current_of before t ∙ e)
    ∙ eq-eqb o.client o.client refl)
    h

next : (before : List CompareCall) (kept : List KeptNumber) (call : CompareCall) →
    AreKept (comparing_of before) (said_in before) kept →
    AreKept (compare_after (comparing_of before) call) (said_in (before ++ call ∷ [])) (numbers_after before kept call)
unfolding take_own take_heard learn settle acknowledge
next before kept (sends frame) h =
    let x = comparing_of before in
    subst (λ (xs : List TcpFields). AreKept (take_own x frame) xs (numbers_with kept (counted frame)))
    (sym (said_next before (sends frame)))
    (sends_one x.mine x.numbers x.unknown (said_in before) kept (counted frame) (current_of before) h)
next before kept (hears frame) h = subst (λ (xs : List TcpFields). AreKept (comparing_of before) xs kept)
    (silent before (hears frame) refl) h
next before kept (learns t client number) h =
    let x = comparing_of before in
    subst (λ (xs : List TcpFields). AreKept (learn x t client number) xs (learn_number kept t client number))
    (silent before (learns t client number) refl)
    (learns_one x.numbers x.unknown (said_in before) kept t client number h)
next before kept (settles is_turn) h = subst (λ (xs : List TcpFields). AreKept (comparing_of before) xs kept)
    (silent before (settles is_turn) refl) h
next before kept (looks s) h = subst (λ (xs : List TcpFields). AreKept (comparing_of before) xs kept)
    (silent before (looks s) refl) h
next before kept captures h =
    subst (λ (xs : List TcpFields). AreKept (capture (comparing_of before)) xs (thin (own_items before) kept))
    (silent before captures refl) (captures_one before kept h)
next before kept acknowledges h =
    let x = comparing_of before in
    subst (λ (xs : List TcpFields). AreKept (acknowledge x) xs (learn_all kept)) (silent before acknowledges refl)
    (learns_all x.numbers x.unknown (said_in before) kept h)
next before kept remains h = subst (λ (xs : List TcpFields). AreKept (comparing_of before) xs kept)
    (silent before remains refl) h

abbrev AreKeptAfter : List CompareCall → List KeptNumber → Type 0
AreKeptAfter calls kept = AreKept (comparing_of calls) (said_in calls) kept

numbered : (before calls : List CompareCall) (kept : List KeptNumber) → AreKeptAfter before kept →
    AreKeptAfter (before ++ calls) (numbers_from before kept calls)
numbered before [] kept h = subst (λ (cs : List CompareCall). AreKeptAfter cs kept) (sym (append-nil before)) h
numbered before (call ∷ calls) kept h =
    let more = before ++ call ∷ [] in
    let now = numbers_after before kept call in
    let one : AreKeptAfter more now = subst (λ (x : Comparing). AreKept x (said_in more) now)
    (sym (fold-append compare_after nothing_compared before (call ∷ []))) (next before kept call h) in
    subst (λ (cs : List CompareCall). AreKeptAfter cs (numbers_from more now calls))
    (append_assoc before (call ∷ []) calls) (numbered more calls now one)

numbered_at_first : AreKeptAfter [] []
unfolding opening_of
numbered_at_first = record {
  tied = record { table = refl; known = λ i. refl };
  are = λ t o e. absurd (true≢false (sym (ap is_some e)));
}

pub keeps_numbers : KeepsNumbers
keeps_numbers calls = (numbered [] calls [] numbered_at_first).tied.table

pub knows_numbers : KnowsNumbers
knows_numbers calls is_turn t client =
    let i : Incarnation = record { tuple = t; client = client } in
    let x = comparing_of calls in
    let kept = numbers_from [] [] calls in
    let h = (numbered [] calls [] numbered_at_first).tied in
    ap (λ (b : Bool). b && not (list_any (same_incarnation i) x.unknown)) (has_number x.numbers x.unknown kept i h)
    ∙ (sym (h.known i)
    ∙ sym (ap (λ (o : Option KeptNumber). is_known o) (find-same (is_number_of t client) (is_of i)
    (number_of-is t client) kept)))

-- THE NUMBERS THAT A SETTLING READS

number_is : (kept : List KeptNumber) (t : Tuple) (client : ℕ) →
    unwrap_or (number_of (table_of kept) t client) 0 ≡ number_or_zero (kept_number t client kept)
number_is kept t client =
    let i : Incarnation = record { tuple = t; client = client } in
    ap (λ (o : Option ℕ). unwrap_or o 0) (lookup-table i kept)
    ∙ by (find (is_of i) kept)
    ∙ sym (ap (λ (o : Option KeptNumber). number_or_zero o) (find-same (is_number_of t client) (is_of i)
    (number_of-is t client) kept))
  where
    by : (o : Option KeptNumber) → unwrap_or (option_map (λ (k : KeptNumber). k.number) o) 0 ≡ number_or_zero o
    by None = refl
    by (Some k) = refl

pub settles_with_kept_numbers : SettlesWithKeptNumbers
unfolding both_kept
settles_with_kept_numbers calls is_turn t l =
    let x = comparing_of calls in
    let client = client_or_zero l.opening in
    record {
      number = ap (λ (ns : KeptNumbers). unwrap_or (number_of ns t client) 0) (keeps_numbers calls)
          ∙ number_is (numbers_of calls) t client;
      known = ap (λ (b : Bool). x.is_alone || b) (knows_numbers calls is_turn t client);
      mine = refl;
      theirs = refl;
    }
