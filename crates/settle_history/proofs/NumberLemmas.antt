-- The kept numbers, by what is found of them, call by call.
use Rattle.std.proofs.Common.{◌≡◌, ℕ, Bool, true, false, not, ◌&&◌, cond, List, [], ◌∷◌, ◌++◌, filter, find, map, Option, None, Some, is_some, if◌then◌else◌, refl, sym, ap, subst, ◌∙◌}
use Rattle.std.specs.List.{list_any}
use Rattle.std.specs.Map.{lookup}
use Rattle.std.specs.Option.{option_map}
use Rattle.std.proofs.lemmas.List.Elements.{filter_map-append}
use Rattle.std.proofs.lemmas.Map.Entries.{lookup-filter-keys}
use Rattle.inet_frame.specs.Counted.{tuple_of}
use Rattle.inet_frame.specs.Fields.{TcpFields}
use Rattle.inet_frame.specs.declared.tuple.Tuple.{Tuple}
use Rattle.tcp_track.specs.Lines.{Item, sent, segment_of, sent_of}
use Rattle.tcp_track.specs.Segments.{same_opening, may_open, opening_in}
use Rattle.tcp_track.specs.Stands.{opening_of}
use Rattle.tcp_track.specs.Tracking.{Tracking, current_at, insert_incarnation, is_known_client, same_incarnation, took_in, what_in}
use Rattle.tcp_track.specs.declared.openings.Incarnation.{Incarnation}
use Rattle.tcp_track.specs.declared.openings.Opening.{Opening}
use Rattle.seq_rewriter.specs.Kept.{KeptNumbers, keep_number, number_of}
use Rattle.settle_rules.specs.Numbers.{KeptNumber, kept_number, is_number_of, is_known, learn_number, learn_all, new_number}
use Rattle.settle_rules.specs.Numbers as rules
use Rattle.out_compare.specs.Comparing.{is_kept}
use Rattle.out_compare.specs.Noting.{note_number, note_unknown, number_made, opening_made}
use Rattle.out_compare.specs.Noting as noting
use Rattle.compare_laws.specs.Calls.{incarnation_of}
use Rattle.compare_laws.proofs.FindLemmas.{any-find, find-push, find-same, found_first, same_incarnation-eq, same_incarnation-refl}
use Rattle.compare_laws.proofs.NumberLemmas.{WaitsRightly, KeepsKeys, all_keys, all_known, are_map, are_then, are_thin, choose, current_has, found-map, found-thin, found_stays, has_new, is_new, is_of, kept_then, learns_keys, new_of, not_there, number_of-is, numbers_then, some_number, unknown_still, unknown_then, waits_learn, waits_none, waits_push, waits_thin, what_makes}
use Rattle.compare_laws.proofs.NumberLemmas as laws
use Rattle.settle_history.specs.Standing.{AreNumbered, SameKnown, SameNumbers, number_said}

-- BY INCARNATIONS

abbrev named : Tuple → ℕ → Incarnation
named t client = record { tuple = t; client = client }

pub kept_is : (t : Tuple) (client : ℕ) (kept : List KeptNumber) →
    kept_number t client kept ≡ find (is_of (named t client)) kept
kept_is t client kept = find-same (is_number_of t client) (is_of (named t client)) (number_of-is t client) kept

abbrev FindsNumbers : List KeptNumber → KeptNumbers → Type 0
FindsNumbers kept numbers =
    (i : Incarnation) →
    lookup (same_incarnation i) numbers ≡ option_map (λ (k : KeptNumber). k.number) (find (is_of i) kept)

finds : (kept : List KeptNumber) (numbers : KeptNumbers) → SameNumbers kept numbers → FindsNumbers kept numbers
finds kept numbers h i = h i.tuple i.client
    ∙ ap (λ (o : Option KeptNumber). option_map (λ (k : KeptNumber). k.number) o) (kept_is i.tuple i.client kept)

same : (kept : List KeptNumber) (numbers : KeptNumbers) → FindsNumbers kept numbers → SameNumbers kept numbers
same kept numbers h t client = h (named t client)
    ∙ sym (ap (λ (o : Option KeptNumber). option_map (λ (k : KeptNumber). k.number) o) (kept_is t client kept))

waits_of : (kept : List KeptNumber) (unknown : List Incarnation) → SameKnown kept unknown → WaitsRightly unknown kept
waits_of kept unknown h i =
    subst (λ (o : Option KeptNumber). is_known o ≡ (is_some o && not (list_any (same_incarnation i) unknown)))
    (kept_is i.tuple i.client kept) (h i.tuple i.client)

known_of : (kept : List KeptNumber) (unknown : List Incarnation) → WaitsRightly unknown kept → SameKnown kept unknown
known_of kept unknown h t client =
    subst (λ (o : Option KeptNumber). is_known o
    ≡ (is_some o && not (list_any (same_incarnation (named t client)) unknown)))
    (sym (kept_is t client kept)) (h (named t client))

are_of : (items : List Item) (kept : List KeptNumber) → AreNumbered items kept →
    laws.AreNumbered (sent_of items) kept
are_of items kept h t o e = sym (ap (λ (k : Option KeptNumber). is_some k) (kept_is t o.client kept)) ∙ h t o e

numbered_of : (items : List Item) (kept : List KeptNumber) → laws.AreNumbered (sent_of items) kept →
    AreNumbered items kept
numbered_of items kept h t o e = ap (λ (k : Option KeptNumber). is_some k) (kept_is t o.client kept) ∙ h t o e

-- a client has a number in both or in neither
has_one : (kept : List KeptNumber) (numbers : KeptNumbers) (i : Incarnation) → SameNumbers kept numbers →
    is_some (lookup (same_incarnation i) numbers) ≡ is_some (find (is_of i) kept)
has_one kept numbers i h =
    ap (λ (o : Option ℕ). is_some o) (finds kept numbers h i) ∙ some_number (find (is_of i) kept)

any_of : (t : Tuple) (client : ℕ) (kept : List KeptNumber) →
    list_any (is_number_of t client) kept ≡ is_some (find (is_of (named t client)) kept)
any_of t client kept =
    any-find (is_number_of t client) kept ∙ ap (λ (o : Option KeptNumber). is_some o) (kept_is t client kept)

-- A NUMBER NEWLY KEPT

lookup-push : (test : Incarnation → Bool) (numbers : KeptNumbers) (i : Incarnation) (v : ℕ) →
    lookup test (numbers ++ (i, v) ∷ []) ≡ found_first (lookup test numbers) (cond (test i) (Some v) None)
lookup-push test [] i v = refl
lookup-push test (n ∷ numbers) i v = by (test n.0) (lookup-push test numbers i v)
  where
    by : (b : Bool) → lookup test (numbers ++ (i, v) ∷ []) ≡ found_first (lookup test numbers) (cond (test i)
        (Some v) None) →
        cond b (Some n.1) (lookup test (numbers ++ (i, v) ∷ []))
        ≡ found_first (cond b (Some n.1) (lookup test numbers)) (cond (test i) (Some v) None)
    by true rest = refl
    by false rest = rest

finds_push : (kept : List KeptNumber) (numbers : KeptNumbers) (new : KeptNumber) → FindsNumbers kept numbers →
    FindsNumbers (kept ++ new ∷ []) (numbers ++ (incarnation_of new, new.number) ∷ [])
finds_push kept numbers new h i =
    lookup-push (same_incarnation i) numbers (incarnation_of new) new.number
    ∙ (ap (λ (o : Option ℕ). found_first o (cond (is_of i new) (Some new.number) None)) (h i)
    ∙ (by (find (is_of i) kept) (is_of i new)
    ∙ ap (λ (o : Option KeptNumber). option_map (λ (k : KeptNumber). k.number) o) (sym (find-push (is_of i) kept new))))
  where
    by : (o : Option KeptNumber) (b : Bool) →
        found_first (option_map (λ (k : KeptNumber). k.number) o) (cond b (Some new.number) None)
        ≡ option_map (λ (k : KeptNumber). k.number) (found_first o (cond b (Some new) None))
    by None true = refl
    by None false = refl
    by (Some k) b = refl

-- A SEGMENT OF THE NODE'S OWN GUEST

pub numbers_own : (mine : Tracking) (items : List Item) (numbers : KeptNumbers) (kept : List KeptNumber)
    (s : TcpFields) → current_at mine (tuple_of s) ≡ opening_of (tuple_of s) (sent_of items) →
    AreNumbered items kept → SameNumbers kept numbers →
    SameNumbers (kept ++ new_number kept s) (note_number numbers (took_in mine (Some s)))
numbers_own mine items numbers kept s current are h =
    let has = has_one kept numbers (incarnation_of (new_of s)) h in
    subst (λ (ks : List KeptNumber). SameNumbers ks (note_number numbers (took_in mine (Some s))))
    (sym (kept_then kept s))
    (subst (λ (ns : KeptNumbers). SameNumbers (if is_new kept s then kept ++ new_of s ∷ [] else kept) ns)
    (sym (numbers_then mine numbers [] (sent_of items) kept s current has (are_of items kept are)))
    (by (is_new kept s)))
  where
    by : (b : Bool) → SameNumbers (if b then kept ++ new_of s ∷ [] else kept)
        (if b then numbers ++ (incarnation_of (new_of s), s.seq) ∷ [] else numbers)
    by true = same (kept ++ new_of s ∷ []) (numbers ++ (incarnation_of (new_of s), s.seq) ∷ [])
        (finds_push kept numbers (new_of s) (finds kept numbers h))
    by false = h

pub known_own : (mine : Tracking) (items : List Item) (numbers : KeptNumbers) (unknown : List Incarnation)
    (kept : List KeptNumber) (s : TcpFields) →
    current_at mine (tuple_of s) ≡ opening_of (tuple_of s) (sent_of items) → AreNumbered items kept →
    SameNumbers kept numbers → SameKnown kept unknown →
    SameKnown (kept ++ new_number kept s) (note_unknown numbers unknown (took_in mine (Some s)))
known_own mine items numbers unknown kept s current are h known =
    let has = has_one kept numbers (incarnation_of (new_of s)) h in
    subst (λ (ks : List KeptNumber). SameKnown ks (note_unknown numbers unknown (took_in mine (Some s))))
    (sym (kept_then kept s))
    (subst (λ (us : List Incarnation). SameKnown (if is_new kept s then kept ++ new_of s ∷ [] else kept) us)
    (sym (unknown_then mine numbers unknown (sent_of items) kept s current has (are_of items kept are)))
    (by (is_new kept s) (not_there kept s)))
  where
    by : (b : Bool) → (b ≡ true → has_new kept s ≡ false) →
        SameKnown (if b then kept ++ new_of s ∷ [] else kept)
        (if b then insert_incarnation unknown (incarnation_of (new_of s)) else unknown)
    by true absent = known_of (kept ++ new_of s ∷ []) (insert_incarnation unknown (incarnation_of (new_of s)))
        (waits_push unknown kept (new_of s) refl (absent refl) (waits_of kept unknown known))
    by false absent = known

pub numbered_own : (items : List Item) (kept : List KeptNumber) (s : TcpFields) → AreNumbered items kept →
    AreNumbered (items ++ sent s ∷ []) (kept ++ new_number kept s)
numbered_own items kept s are =
    numbered_of (items ++ sent s ∷ []) (kept ++ new_number kept s)
    (subst (λ (said : List TcpFields). laws.AreNumbered said (kept ++ new_number kept s))
    (sym (filter_map-append segment_of items (sent s ∷ [])))
    (subst (λ (ks : List KeptNumber). laws.AreNumbered (sent_of items ++ s ∷ []) ks) (sym (kept_then kept s))
    (are_then (sent_of items) kept s (are_of items kept are))))

-- what a segment makes newly kept is what its answer says
new_is : (kept : List KeptNumber) (s : TcpFields) →
    new_number kept s ≡ (if is_new kept s then new_of s ∷ [] else [])
unfolding new_number
new_is kept s =
    ap (λ (b : Bool). if may_open s && not b then new_of s ∷ [] else [])
    (any_of (tuple_of s) (opening_in s).client kept)

said_if : (b : Bool) (numbers : KeptNumbers) (t : Tuple) (o : Opening) →
    number_said t (if b then Some o else None) (number_made numbers t (if b then Some o else None))
    ≡ (if b then (if is_some (number_of numbers t o.client) then [] else record {
      tuple = t;
      client = o.client;
      number = o.own;
      known = false;
    } ∷ []) else [])
said_if false numbers t o = refl
said_if true numbers t o = by (number_of numbers t o.client)
  where
    by : (n : Option ℕ) → number_said t (Some o) (noting.number_if_new n o) ≡ (if is_some n then [] else record {
      tuple = t;
      client = o.client;
      number = o.own;
      known = false;
    } ∷ [])
    by None = refl
    by (Some n) = refl

pub said_own : (mine : Tracking) (items : List Item) (numbers : KeptNumbers) (kept : List KeptNumber) (s : TcpFields) →
    current_at mine (tuple_of s) ≡ opening_of (tuple_of s) (sent_of items) → AreNumbered items kept →
    SameNumbers kept numbers →
    number_said (tuple_of s) (opening_made (what_in mine s)) (noting.new_number numbers (took_in mine (Some s)))
    ≡ new_number kept s
unfolding what_in
said_own mine items numbers kept s e are h =
    let t = tuple_of s in
    let o = opening_in s in
    let current = current_at mine t in
    let again = same_opening current o in
    ap (λ (made : Option Opening). number_said t made (number_made numbers t made))
    (what_makes current (is_known_client mine t o.client) s)
    ∙ (said_if (may_open s && not again) numbers t o
    ∙ (ap (λ (b : Bool). if may_open s && not again then (if b then [] else new_of s ∷ []) else [])
    (has_one kept numbers (incarnation_of (new_of s)) h)
    ∙ (choose (may_open s) again (has_new kept s) [] (new_of s ∷ [])
    (λ opens is. current_has current (sent_of items) kept s e (are_of items kept are) is)
    ∙ sym (new_is kept s))))

-- A CAPTURE

pub numbers_thin : (kept : List KeptNumber) (numbers : KeptNumbers) (q : KeptNumber → Bool) (r : Incarnation → Bool) →
    ((k : KeptNumber) → q k ≡ r (incarnation_of k)) → SameNumbers kept numbers →
    SameNumbers (filter q kept) (filter (λ (n : Incarnation × ℕ). r n.0) numbers)
numbers_thin kept numbers q r alike h = same (filter q kept) (filter (λ (n : Incarnation × ℕ). r n.0) numbers)
    (λ i. lookup-filter-keys (same_incarnation i) r (r i) (λ k e. ap r (sym (same_incarnation-eq i k e))) numbers
    ∙ (ap (λ (o : Option ℕ). cond (r i) o None) (finds kept numbers h i)
    ∙ (by (r i) (find (is_of i) kept)
    ∙ ap (λ (o : Option KeptNumber). option_map (λ (k : KeptNumber). k.number) o)
    (sym (found-thin kept q r alike i)))))
  where
    by : (b : Bool) (o : Option KeptNumber) → cond b (option_map (λ (k : KeptNumber). k.number) o) None
        ≡ option_map (λ (k : KeptNumber). k.number) (cond b o None)
    by true o = refl
    by false o = refl

pub known_thin : (kept : List KeptNumber) (unknown : List Incarnation) (q : KeptNumber → Bool)
    (r : Incarnation → Bool) → ((k : KeptNumber) → q k ≡ r (incarnation_of k)) → SameKnown kept unknown →
    SameKnown (filter q kept) (filter r unknown)
known_thin kept unknown q r alike h =
    known_of (filter q kept) (filter r unknown) (waits_thin unknown kept q r alike (waits_of kept unknown h))

pub numbered_thin : (items : List Item) (kept : List KeptNumber) (q : KeptNumber → Bool) (r : Incarnation → Bool) →
    ((k : KeptNumber) → q k ≡ r (incarnation_of k)) → ((t : Tuple) (o : Opening) →
    opening_of t (sent_of items) ≡ Some o → r (named t o.client) ≡ true) → AreNumbered items kept →
    AreNumbered items (filter q kept)
numbered_thin items kept q r alike stays h =
    numbered_of items (filter q kept) (are_thin (sent_of items) kept q r alike stays (are_of items kept h))

-- NUMBERS THAT ARE KNOWN

pub numbers_map : (kept : List KeptNumber) (numbers : KeptNumbers) (f : KeptNumber → KeptNumber) → KeepsKeys f →
    SameNumbers kept numbers → SameNumbers (map f kept) numbers
numbers_map kept numbers f keeps h = same (map f kept) numbers
    (λ i. finds kept numbers h i
    ∙ (sym (by (find (is_of i) kept))
    ∙ ap (λ (o : Option KeptNumber). option_map (λ (k : KeptNumber). k.number) o) (sym (found-map f keeps kept i))))
  where
    by : (o : Option KeptNumber) → option_map (λ (k : KeptNumber). k.number) (option_map f o)
        ≡ option_map (λ (k : KeptNumber). k.number) o
    by None = refl
    by (Some k) = ap (λ (n : ℕ). Some n) (keeps.number k)

pub numbered_map : (items : List Item) (kept : List KeptNumber) (f : KeptNumber → KeptNumber) → KeepsKeys f →
    AreNumbered items kept → AreNumbered items (map f kept)
numbered_map items kept f keeps h =
    numbered_of items (map f kept) (are_map (sent_of items) kept f keeps (are_of items kept h))

pub known_learn : (kept : List KeptNumber) (numbers : KeptNumbers) (unknown : List Incarnation) (t : Tuple)
    (client number : ℕ) → SameNumbers kept numbers → SameKnown kept unknown →
    SameKnown (learn_number kept t client number)
    (unknown_still (is_kept (number_of numbers t client) number) unknown (named t client))
known_learn kept numbers unknown t client number h known =
    known_of (learn_number kept t client number)
    (unknown_still (is_kept (number_of numbers t client) number) unknown (named t client))
    (waits_learn numbers unknown kept t client number
    (λ k e. finds kept numbers h (named t client)
    ∙ ap (λ (o : Option KeptNumber). option_map (λ (x : KeptNumber). x.number) o) e)
    (waits_of kept unknown known))

pub known_all : (kept : List KeptNumber) → SameKnown (learn_all kept) []
known_all kept = known_of (learn_all kept) [] (waits_none kept)

-- A SURVIVOR'S NUMBERS

-- the first number of a client is kept, in both
pub numbers_keep : (kept : List KeptNumber) (numbers : KeptNumbers) (t : Tuple) (client number : ℕ) (known : Bool) →
    SameNumbers kept numbers →
    SameNumbers (rules.keep_number t client number known kept) (keep_number numbers t client number)
numbers_keep kept numbers t client number known h =
    subst (λ (b : Bool). SameNumbers (rules.keep_number t client number known kept)
    (if b then numbers else numbers ++ (named t client, number) ∷ []))
    (sym (has_one kept numbers (named t client) h ∙ sym (any_of t client kept)))
    (by (list_any (is_number_of t client) kept))
  where
    new : KeptNumber
    new = record { tuple = t; client = client; number = number; known = known }

    by : (b : Bool) → SameNumbers (if b then kept else kept ++ new ∷ [])
        (if b then numbers else numbers ++ (named t client, number) ∷ [])
    by true = h
    by false = same (kept ++ new ∷ []) (numbers ++ (named t client, number) ∷ [])
        (finds_push kept numbers new (finds kept numbers h))

-- and then the client has one
pub keep_has : (kept : List KeptNumber) (t : Tuple) (client number : ℕ) (known : Bool) →
    is_some (kept_number t client (rules.keep_number t client number known kept)) ≡ true
keep_has kept t client number known = by (list_any (is_number_of t client) kept) refl
  where
    new : KeptNumber
    new = record { tuple = t; client = client; number = number; known = known }

    last : (o : Option KeptNumber) → is_some (found_first o (Some new)) ≡ true
    last None = refl
    last (Some k) = refl

    by : (b : Bool) → list_any (is_number_of t client) kept ≡ b →
        is_some (kept_number t client (if b then kept else kept ++ new ∷ [])) ≡ true
    by true e = sym (any-find (is_number_of t client) kept) ∙ e
    by false e =
        ap (λ (o : Option KeptNumber). is_some o)
        (kept_is t client (kept ++ new ∷ []) ∙ find-push (is_of (named t client)) kept new)
        ∙ (ap (λ (b : Bool). is_some (found_first (find (is_of (named t client)) kept) (cond b (Some new) None)))
        (same_incarnation-refl (named t client)) ∙ last (find (is_of (named t client)) kept))

-- and each that had one has one still
pub keep_stays : (kept : List KeptNumber) (u : Tuple) (other : ℕ) (t : Tuple) (client number : ℕ) (known : Bool) →
    is_some (kept_number u other kept) ≡ true →
    is_some (kept_number u other (rules.keep_number t client number known kept)) ≡ true
keep_stays kept u other t client number known h = by (list_any (is_number_of t client) kept)
  where
    new : KeptNumber
    new = record { tuple = t; client = client; number = number; known = known }

    by : (b : Bool) → is_some (kept_number u other (if b then kept else kept ++ new ∷ [])) ≡ true
    by true = h
    by false =
        ap (λ (o : Option KeptNumber). is_some o) (kept_is u other (kept ++ new ∷ []))
        ∙ found_stays (named u other) kept new true
        (sym (ap (λ (o : Option KeptNumber). is_some o) (kept_is u other kept)) ∙ h)
