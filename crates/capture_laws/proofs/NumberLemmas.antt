-- The numbers that are kept of a capture's lines are found as the captured ones are.
use Rattle.std.proofs.Common.{◌≡◌, ℕ, Bool, true, false, ◌&&◌, ◌||◌, ◌==◌, cond, List, [], ◌∷◌, ◌++◌, map, fold, refl, sym, ap, ◌∙◌, Option, None, Some, is_some, if◌then◌else◌, true≢false, eqb-true, eq-eqb}
use Rattle.std.specs.Prelude.{unwrap_or, length}
use Rattle.std.specs.List.{AllByRecursion, enumerate_from, list_any}
use Rattle.std.specs.Map.{keys_of, lookup}
use Rattle.inet_frame.specs.declared.tuple.Tuple.{Tuple}
use Rattle.tcp_track.specs.LineFields.{LineFields}
use Rattle.tcp_track.specs.Segments.{same_tuple}
use Rattle.tcp_track.specs.Stands.{is_of_client}
use Rattle.tcp_track.specs.Tracking.{Tracking, current_at, entry_or_none, no_entry, same_incarnation}
use Rattle.tcp_track.specs.declared.openings.Incarnation.{Incarnation}
use Rattle.tcp_track.specs.declared.openings.Opening.{Opening}
use Rattle.tcp_track.specs.declared.table.Entry.{Entry}
use Rattle.tcp_track.proofs.TupleLemmas.{same_tuple-eq}
use Rattle.compare_laws.proofs.FindLemmas.{found_first, found_first-none, same_incarnation-eq}
use Rattle.seq_rewriter.specs.Kept.{KeptNumbers, keep_number, number_of}
use Rattle.settle_rules.specs.Pieces.{pieces_of}
use Rattle.colo_wire.specs.declared.messages.Message.{Message}
use Rattle.colo_wire.specs.declared.messages.Message.TheVariants.{Page}
use Rattle.checkpoint_form.specs.Captured.{lines_of}
use Rattle.checkpoint_form.specs.Inbox.{held_message, inbox_messages}
use Rattle.checkpoint_form.specs.Rows.{number_for}
use Rattle.checkpoint_form.specs.State.{disk_message, disk_messages, page_messages, sectors_together}
use Rattle.kept_checkpoint.specs.Kept.{Kept, begin_kept, keep, keep_all}
use Rattle.theorem_runs.proofs.ListFacts.{all_map}
use Rattle.capture_laws.specs.Captures.{AreDistinct, AreOfOpenings, AreRegular, Capture, kept_of}
use Rattle.capture_laws.proofs.LineLemmas.{number_of_row, numbers_kept, put_number}
use Rattle.capture_laws.proofs.PartLemmas.{parts_split}
use Rattle.capture_laws.proofs.TrackerLemmas.{line_of_entry, plain_lines}

-- ONE NUMBER MORE

find_push : (i : Incarnation) (ns : KeptNumbers) (j : Incarnation) (v : ℕ)
    → lookup (same_incarnation i) (ns ++ (j, v) ∷ [])
    ≡ found_first (lookup (same_incarnation i) ns) (cond (same_incarnation i j) (Some v) None)
find_push i [] j v = refl
find_push i (n ∷ ns) j v = by (same_incarnation i n.0) (find_push i ns j v)
  where
    by : (b : Bool) → lookup (same_incarnation i) (ns ++ (j, v) ∷ [])
        ≡ found_first (lookup (same_incarnation i) ns) (cond (same_incarnation i j) (Some v) None)
        → cond b (Some n.1) (lookup (same_incarnation i) (ns ++ (j, v) ∷ []))
        ≡ found_first (cond b (Some n.1) (lookup (same_incarnation i) ns)) (cond (same_incarnation i j) (Some v) None)
    by true more = refl
    by false more = more

found_there : (o : Option ℕ) (b : Bool) (v : ℕ) → (b ≡ true → is_some o ≡ true)
    → o ≡ found_first o (cond b (Some v) None)
found_there (Some w) b v there = refl
found_there None false v there = refl
found_there None true v there = absurd (true≢false (sym (there refl)))

number_kept : (t : Tuple) (c : ℕ) (ns : KeptNumbers) (u : Tuple) (d v : ℕ)
    → number_of (keep_number ns u d v) t c
    ≡ found_first (number_of ns t c)
    (cond (same_incarnation (record { tuple = t; client = c }) (record { tuple = u; client = d })) (Some v) None)
number_kept t c ns u d v = by (is_some (number_of ns u d)) refl
  where
    i : Incarnation
    i = record { tuple = t; client = c }

    j : Incarnation
    j = record { tuple = u; client = d }

    by : (b : Bool) → is_some (number_of ns u d) ≡ b
        → lookup (same_incarnation i) (if b then ns else ns ++ (j, v) ∷ [])
        ≡ found_first (lookup (same_incarnation i) ns) (cond (same_incarnation i j) (Some v) None)
    by true is =
        found_there (lookup (same_incarnation i) ns) (same_incarnation i j) v
        (λ e. ap (λ (k : Incarnation). is_some (lookup (same_incarnation k) ns)) (same_incarnation-eq i j e) ∙ is)
    by false is = find_push i ns j v

-- A ROW of a client

abbrev is_row : Tuple → ℕ → Tuple × LineFields → Bool
is_row t c x = same_tuple t x.0 && is_of_client x.1.opening c

equal_turned : (a b : ℕ) → (a == b) ≡ (b == a)
equal_turned a b = by (a == b) refl (b == a) refl
  where
    by : (p : Bool) → (a == b) ≡ p → (q : Bool) → (b == a) ≡ q → p ≡ q
    by true e true f = refl
    by false e false f = refl
    by true e false f = absurd (true≢false (sym (eq-eqb b a (sym (eqb-true a b e))) ∙ f))
    by false e true f = absurd (true≢false (sym (eq-eqb a b (sym (eqb-true b a f))) ∙ e))

-- what a row of a client gives, where it is one
abbrev given : Bool → Option ℕ → Option ℕ
given b known = cond b (Some (unwrap_or known 0)) None

row_given : (t : Tuple) (c : ℕ) (numbers ns : KeptNumbers) (x : Tuple × LineFields)
    → number_of (put_number numbers ns x) t c
    ≡ found_first (number_of ns t c) (given (is_row t c x) (number_of numbers t c))
row_given t c numbers ns x = by x.1.opening
  where
    i : Incarnation
    i = record { tuple = t; client = c }

    closed : (b : Bool) → number_of ns t c ≡ found_first (number_of ns t c)
        (given (b && false) (number_of numbers t c))
    closed true = sym (found_first-none (number_of ns t c))
    closed false = sym (found_first-none (number_of ns t c))

    same : (o : Opening) (b : Bool) → same_incarnation i (record { tuple = x.0; client = o.client }) ≡ b
        → cond b (Some (unwrap_or (number_of numbers x.0 o.client) 0)) None ≡ given b (number_of numbers t c)
    same o true e =
        ap (λ (k : Incarnation). Some (unwrap_or (number_of numbers k.tuple k.client) 0))
        (sym (same_incarnation-eq i (record { tuple = x.0; client = o.client }) e))
    same o false e = refl

    by : (o : Option Opening) → number_of (number_of_row ns x.0 o (number_for numbers x.0 o)) t c
        ≡ found_first (number_of ns t c) (given (same_tuple t x.0 && is_of_client o c) (number_of numbers t c))
    by None = closed (same_tuple t x.0)
    by (Some o) =
        number_kept t c ns x.0 o.client (unwrap_or (number_of numbers x.0 o.client) 0)
        ∙ ap (λ (y : Option ℕ). found_first (number_of ns t c) y)
        (same o (same_incarnation i (record { tuple = x.0; client = o.client })) refl
        ∙ ap (λ (b : Bool). given (same_tuple t x.0 && b) (number_of numbers t c)) (equal_turned c o.client))

given_twice : (a : Option ℕ) (b more : Bool) (known : Option ℕ)
    → found_first (found_first a (given b known)) (given more known) ≡ found_first a (given (b || more) known)
given_twice None true more known = refl
given_twice None false more known = refl
given_twice (Some v) b more known = refl

rows_given : (t : Tuple) (c : ℕ) (numbers : KeptNumbers) (xs : List (Tuple × LineFields)) (ns : KeptNumbers)
    → number_of (fold (put_number numbers) ns xs) t c
    ≡ found_first (number_of ns t c) (given (list_any (is_row t c) xs) (number_of numbers t c))
rows_given t c numbers [] ns = sym (found_first-none (number_of ns t c))
rows_given t c numbers (x ∷ xs) ns =
    rows_given t c numbers xs (put_number numbers ns x)
    ∙ ap (λ (o : Option ℕ). found_first o (given (list_any (is_row t c) xs) (number_of numbers t c)))
    (row_given t c numbers ns x)
    ∙ given_twice (number_of ns t c) (is_row t c x) (list_any (is_row t c) xs) (number_of numbers t c)

-- THE ROW OF A TUPLE is that of its current opening

no_row : (t z : Tuple) (c : ℕ) (es : List (Tuple × Entry)) → same_tuple t z ≡ true
    → AllByRecursion (λ (u : Tuple). same_tuple u z ≡ false) (keys_of es)
    → list_any (is_row t c) (map line_of_entry es) ≡ false
no_row t z c [] same other = refl
no_row t z c (x ∷ es) same other = by (same_tuple t x.0) refl (no_row t z c es same other.1)
  where
    by : (b : Bool) → same_tuple t x.0 ≡ b → list_any (is_row t c) (map line_of_entry es) ≡ false
        → ((b && is_of_client x.1.line.opening c) || list_any (is_row t c) (map line_of_entry es)) ≡ false
    by true e more = absurd (true≢false (sym same
        ∙ ap (λ (u : Tuple). same_tuple u z) (same_tuple-eq t x.0 e) ∙ other.0))
    by false e more = more

rows_are : (t : Tuple) (c : ℕ) (es : List (Tuple × Entry)) → AreDistinct (keys_of es)
    → list_any (is_row t c) (map line_of_entry es) ≡ is_of_client (entry_or_none es t).line.opening c
rows_are t c [] distinct = refl
rows_are t c (x ∷ es) distinct = by (same_tuple t x.0) refl (rows_are t c es distinct.1)
  where
    or_false : (b : Bool) → (b || false) ≡ b
    or_false true = refl
    or_false false = refl

    by : (b : Bool) → same_tuple t x.0 ≡ b
        → list_any (is_row t c) (map line_of_entry es) ≡ is_of_client (entry_or_none es t).line.opening c
        → ((b && is_of_client x.1.line.opening c) || list_any (is_row t c) (map line_of_entry es))
        ≡ is_of_client (unwrap_or (cond b (Some x.1) (lookup (same_tuple t) es)) no_entry).line.opening c
    by true e more =
        ap (λ (b : Bool). is_of_client x.1.line.opening c || b) (no_row t x.0 c es e distinct.0)
        ∙ or_false (is_of_client x.1.line.opening c)
    by false e more = more

-- BY LOOKUP the numbers are the captured ones

numbers_found : (lines : Tracking) (numbers : KeptNumbers) (t : Tuple) (c : ℕ) → AreOfOpenings numbers lines
    → given (is_of_client (current_at lines t) c) (number_of numbers t c) ≡ number_of numbers t c
numbers_found lines numbers t c of = by (current_at lines t) refl (number_of numbers t c) refl
  where
    none : (o : Option Opening) → current_at lines t ≡ o → is_of_client o c ≡ false
        → (n : Option ℕ) → number_of numbers t c ≡ n → None ≡ n
    none o is other None e = refl
    none o is other (Some n) e =
        absurd (true≢false (sym (of.current t c (ap is_some e))
        ∙ ap (λ (p : Option Opening). is_of_client p c) is ∙ other))

    some : (o : Opening) → current_at lines t ≡ Some o → (o.client == c) ≡ true
        → (n : Option ℕ) → number_of numbers t c ≡ n → Some (unwrap_or n 0) ≡ n
    some o is same (Some n) e = refl
    some o is same None e =
        absurd (true≢false (sym (of.numbered t o is)
        ∙ ap (λ (d : ℕ). is_some (number_of numbers t d)) (eqb-true o.client c same) ∙ ap is_some e))

    opened : (o : Opening) → current_at lines t ≡ Some o → (b : Bool) → (o.client == c) ≡ b
        → (n : Option ℕ) → number_of numbers t c ≡ n → given b n ≡ n
    opened o is true same n e = some o is same n e
    opened o is false other n e = none (Some o) is other n e

    by : (o : Option Opening) → current_at lines t ≡ o → (n : Option ℕ) → number_of numbers t c ≡ n
        → given (is_of_client o c) n ≡ n
    by None is n e = none None is refl n e
    by (Some o) is n e = opened o is (o.client == c) refl n e

-- WHAT STOOD BEFORE the lines: no number

abbrev LeavesNumbers : Message → Type 0
LeavesNumbers m = (k : Kept) → (keep k m).numbers ≡ k.numbers

numbers_left : (ms : List Message) → AllByRecursion LeavesNumbers ms → (k : Kept)
    → (fold keep k ms).numbers ≡ k.numbers
numbers_left [] h k = refl
numbers_left (m ∷ ms) h k = numbers_left ms h.1 (keep k m) ∙ h.0 k

pub keeps_the_numbers : (x : Capture) (e : ℕ) → AreRegular x.lines → AreOfOpenings x.numbers x.lines
    → (t : Tuple) (client : ℕ) → number_of (kept_of x e).numbers t client ≡ number_of x.numbers t client
unfolding keep_all
keeps_the_numbers x e regular of t c =
    let k = begin_kept x.state.bytes (length x.state.pages) (length x.state.sectors) in
    let paged = fold keep k (page_messages x.state.pages) in
    let whole = fold keep paged (disk_messages x.state.sectors) in
    let held = fold keep whole (inbox_messages x.inbox) in
    let xs = lines_of x.lines in
    let none : held.numbers ≡ [] =
    numbers_left (inbox_messages x.inbox) (all_map LeavesNumbers held_message x.inbox (λ w y. refl)) whole
    ∙ numbers_left (disk_messages x.state.sectors)
    (all_map LeavesNumbers disk_message (enumerate_from 0 (pieces_of sectors_together x.state.sectors))
    (λ y q. refl)) paged
    ∙ numbers_left (page_messages x.state.pages)
    (all_map LeavesNumbers (λ (p : ℕ × List ℕ). Page p.0 p.1) (enumerate_from 0 x.state.pages) (λ y q. refl)) k in
    ap (λ (y : Kept). number_of y.numbers t c) (parts_split x e k)
    ∙ ap (λ (ns : KeptNumbers). number_of ns t c)
    (numbers_kept x.numbers xs held (plain_lines x.lines.entries regular.plain)
    ∙ ap (λ (ns : KeptNumbers). fold (put_number x.numbers) ns xs) none)
    ∙ rows_given t c x.numbers xs []
    ∙ ap (λ (b : Bool). given b (number_of x.numbers t c)) (rows_are t c x.lines.entries regular.distinct)
    ∙ numbers_found x.lines x.numbers t c of
