-- Each message of a capture is due when it comes, and what is heard of all of them is what is kept.
use Rattle.std.proofs.Common.{◌≡◌, ℕ, zero, suc, ◌+◌, ◌*◌, ◌/◌, ◌<◌, ◌≤◌, Bool, true, false, ◌&&◌, List, [], ◌∷◌, ◌++◌, length, map, fold, take, drop, refl, sym, ap, subst, ◌∙◌, arith, Option, None, Some, is_some, true≢false, length-append, length-set, length-drop, length-take, eq-eqb}
use Rattle.std.specs.Prelude.{nat_lt, ⊤}
use Rattle.std.specs.List.{AllByRecursion, concat, enumerate_from, flat_map, range_with_len}
use Rattle.std.proofs.lemmas.Bool.{le-leb, lt-ltb}
use Rattle.inet_frame.specs.declared.tuple.Tuple.{Tuple}
use Rattle.tcp_track.specs.LineFields.{IsWithin, LineFields, end_of, no_fields}
use Rattle.tcp_track.specs.Tracking.{Tracking}
use Rattle.tcp_track.specs.declared.openings.Opening.{Opening}
use Rattle.tcp_track.specs.declared.table.Entry.{Entry}
use Rattle.seq_rewriter.specs.Kept.{KeptNumbers}
use Rattle.frame_mirror.specs.Accepted.{is_accepted}
use Rattle.frame_mirror.specs.Inboxes.{AreAccepted}
use Rattle.frame_mirror.specs.declared.ring.Waiting.{Waiting}
use Rattle.settle_rules.specs.Pieces.{piece_at, pieces_of}
use Rattle.state_wire.specs.Guest.{Kind}
use Rattle.colo_wire.specs.declared.messages.Message.{Message}
use Rattle.colo_wire.specs.declared.messages.Message.TheVariants.{Frame, Number, Begin, State, Page, Disk, Write, Held, Line, Bytes, End, Known, Sent, Ack}
use Rattle.checkpoint_capture.specs.Sizes.{HaveSize}
use Rattle.checkpoint_capture.proofs.ListLemmas.{length_sectors}
use Rattle.checkpoint_form.specs.Captured.{captured_messages, lines_of}
use Rattle.checkpoint_form.specs.Inbox.{held_message, inbox_messages}
use Rattle.checkpoint_form.specs.Rows.{bytes_messages, bytes_together, line_message, line_messages, line_with, number_for}
use Rattle.checkpoint_form.specs.State.{disk_message, disk_messages, page_messages, sectors_together}
use Rattle.kept_checkpoint.specs.Kept.{Kept, begin_kept, close_lines, fits, keep, keep_all}
use Rattle.kept_checkpoint.specs.Lines.{line_fits, line_in}
use Rattle.kept_checkpoint.specs.Slots.{no_parts}
use Rattle.kept_checkpoint.specs.declared.lines.LastLine.{LastLine}
use Rattle.kept_checkpoint.proofs.SpelledLemmas.{sectors_length}
use Rattle.node_secondary.specs.Hearing.{commit, hear_due, is_due_at, keep_part}
use Rattle.node_secondary.specs.Node.{Node}
use Rattle.node_secondary.specs.declared.under_way.UnderWay.{UnderWay}
use Rattle.node_secondary.specs.declared.under_way.UnderWay.TheVariants.{Nothing, Begun, Heard}
use Rattle.theorem_runs.proofs.ListFacts.{all_append, all_map}
use Rattle.capture_laws.specs.Captures.{ArePlain, AreWithin, CanBeHeard, Capture, IsOfKind, IsPlain, kept_of, messages_of, parts_of}
use Rattle.capture_laws.specs.Ways.{AreDue, way, way_after_end}
use Rattle.capture_laws.proofs.LineLemmas.{joined, number_of_row, row_kept, with_last}
use Rattle.capture_laws.proofs.TrackerLemmas.{line_of_entry}
use Rattle.capture_laws.proofs.PartLemmas.{LeavesInbox, inbox_left}

-- FITTING, one after the other

abbrev AreFit : Kept → List Message → Type 0
AreFit k [] = ⊤
AreFit k (m ∷ ms) = (fits k m ≡ true) × AreFit (keep k m) ms

fit_append : (ms ns : List Message) (k : Kept) → AreFit k ms → AreFit (fold keep k ms) ns → AreFit k (ms ++ ns)
fit_append [] ns k h g = g
fit_append (m ∷ ms) ns k h g = (h.0, fit_append ms ns (keep k m) h.1 g)

-- what fits is due within a checkpoint, and is kept
record IsHeard (kind : Kind) (next : ℕ) (k : Kept) (m : Message) : Type 0 where
  due : is_due_at kind next (Heard k) m ≡ true
  goes : way kind (Heard k) m ≡ Heard (keep k m)

fit_heard : (kind : Kind) (next : ℕ) (k : Kept) (m : Message) → fits k m ≡ true → IsHeard kind next k m
fit_heard kind next k (Page i bytes) h = record { due = h; goes = refl }
fit_heard kind next k (Disk first bytes) h = record { due = h; goes = refl }
fit_heard kind next k (Held index seen trim frame) h = record { due = h; goes = refl }
fit_heard kind next k (Line t mac flags client own n refused acked window mss base) h =
    record { due = h; goes = refl }
fit_heard kind next k (Bytes bytes) h = record { due = h; goes = refl }
fit_heard kind next k (Frame index seen trim frame) h = absurd (true≢false (sym h))
fit_heard kind next k (Number t client n) h = absurd (true≢false (sym h))
fit_heard kind next k (Begin e) h = absurd (true≢false (sym h))
fit_heard kind next k (State bytes) h = absurd (true≢false (sym h))
fit_heard kind next k (Write i bytes) h = absurd (true≢false (sym h))
fit_heard kind next k (End e) h = absurd (true≢false (sym h))
fit_heard kind next k (Known t client n) h = absurd (true≢false (sym h))
fit_heard kind next k (Sent frame) h = absurd (true≢false (sym h))
fit_heard kind next k (Ack e) h = absurd (true≢false (sym h))

due_parts : (kind : Kind) (next : ℕ) (k : Kept) (ms rest : List Message) → AreFit k ms
    → AreDue kind next (Heard (fold keep k ms)) rest → AreDue kind next (Heard k) (ms ++ rest)
due_parts kind next k [] rest h more = more
due_parts kind next k (m ∷ ms) rest h more =
    let heard = fit_heard kind next k m h.0 in (
      heard.due,
      subst (λ (u : UnderWay). AreDue kind next u (ms ++ rest)) (sym heard.goes)
          (due_parts kind next (keep k m) ms rest h.1 more),
    )

goes_parts : (kind : Kind) (k : Kept) (ms : List Message) → AreFit k ms
    → fold (way kind) (Heard k) ms ≡ Heard (fold keep k ms)
goes_parts kind k [] h = refl
goes_parts kind k (m ∷ ms) h =
    ap (λ (u : UnderWay). fold (way kind) u ms) (fit_heard kind 0 k m h.0).goes
    ∙ goes_parts kind (keep k m) ms h.1

-- PAGES AND SECTORS fit by their places alone

record HasPlaces (pages sectors : ℕ) (k : Kept) : Type 0 where
  pages_are : length k.pages ≡ pages
  sectors_are : length k.sectors ≡ sectors

places_left : (pages sectors : ℕ) (k : Kept) (m : Message) → HasPlaces pages sectors k
    → HasPlaces pages sectors (keep k m)
places_left pages sectors k (Page i bytes) h =
    record { pages_are = length-set k.pages i (Some bytes) ∙ h.pages_are; sectors_are = h.sectors_are }
places_left pages sectors k (Disk first bytes) h = record {
  pages_are = h.pages_are;
  sectors_are = sectors_length first (length bytes / 512) bytes k.sectors ∙ h.sectors_are;
}
places_left pages sectors k (Held index seen trim frame) h =
    record { pages_are = h.pages_are; sectors_are = h.sectors_are }
places_left pages sectors k (Line t mac flags client own n refused acked window mss base) h =
    record { pages_are = h.pages_are; sectors_are = h.sectors_are }
places_left pages sectors k (Bytes bytes) h = record { pages_are = h.pages_are; sectors_are = h.sectors_are }
places_left pages sectors k (Frame index seen trim frame) h = h
places_left pages sectors k (Number t client n) h = h
places_left pages sectors k (Begin e) h = h
places_left pages sectors k (State bytes) h = h
places_left pages sectors k (Write i bytes) h = h
places_left pages sectors k (End e) h = h
places_left pages sectors k (Known t client n) h = h
places_left pages sectors k (Sent frame) h = h
places_left pages sectors k (Ack e) h = h

all_places_left : (pages sectors : ℕ) (ms : List Message) (k : Kept) → HasPlaces pages sectors k
    → HasPlaces pages sectors (fold keep k ms)
all_places_left pages sectors [] k h = h
all_places_left pages sectors (m ∷ ms) k h =
    all_places_left pages sectors ms (keep k m) (places_left pages sectors k m h)

abbrev FitsPlaces : ℕ → ℕ → Message → Type 0
FitsPlaces pages sectors m = (k : Kept) → HasPlaces pages sectors k → fits k m ≡ true

places_fit : (pages sectors : ℕ) (ms : List Message) (k : Kept) → AllByRecursion (FitsPlaces pages sectors) ms
    → HasPlaces pages sectors k → AreFit k ms
places_fit pages sectors [] k all h = tt
places_fit pages sectors (m ∷ ms) k all h =
    (all.0 k h, places_fit pages sectors ms (keep k m) all.1 (places_left pages sectors k m h))

pages_fit : (count sectors n : ℕ) (pages : List (List ℕ)) → n + length pages ≤ count
    → AllByRecursion (FitsPlaces count sectors) (map (λ (x : ℕ × List ℕ). Page x.0 x.1) (enumerate_from n pages))
pages_fit count sectors n [] within = tt
pages_fit count sectors n (p ∷ ps) within = (
  (λ k h. lt-ltb n (length k.pages) (omega (arith, within, h.pages_are))),
  pages_fit count sectors (n + 1) ps (omega (arith, within)),
)

sizes_drop : (n : ℕ) (xs : List (List ℕ)) → HaveSize 512 xs → HaveSize 512 (drop n xs)
sizes_drop zero xs h = h
sizes_drop (suc n) [] h = tt
sizes_drop (suc n) (x ∷ xs) h = sizes_drop n xs h.1

sizes_take : (n : ℕ) (xs : List (List ℕ)) → HaveSize 512 xs → HaveSize 512 (take n xs)
sizes_take zero xs h = tt
sizes_take (suc n) [] h = tt
sizes_take (suc n) (x ∷ xs) h = (h.0, sizes_take n xs h.1)

piece_fits : (pages : ℕ) (sectors : List (List ℕ)) (i : ℕ) → HaveSize 512 sectors → 128 * i ≤ length sectors
    → FitsPlaces pages (length sectors) (disk_message (i, piece_at 128 sectors i))
piece_fits pages sectors i sizes low k h =
    let rest = drop (128 * i) sectors in
    let piece = take 128 rest in
    let bytes = length_sectors piece (sizes_take 128 rest (sizes_drop (128 * i) sectors sizes)) in
    let short : length piece ≤ length rest = omega (arith, length-take 128 rest) in
    le-leb (128 * i + length (concat piece) / 512) (length k.sectors)
    (omega (arith, bytes, short, length-drop (128 * i) sectors, low, h.sectors_are))

disk_fits : (pages : ℕ) (sectors : List (List ℕ)) (n count : ℕ) → HaveSize 512 sectors
    → 128 * (n + count) ≤ length sectors + 127
    → AllByRecursion (FitsPlaces pages (length sectors))
    (map disk_message (enumerate_from n (map (piece_at 128 sectors) (range_with_len n count))))
disk_fits pages sectors n zero sizes low = tt
disk_fits pages sectors n (suc count) sizes low = (
  piece_fits pages sectors n sizes (omega (arith, low)),
  disk_fits pages sectors (n + 1) count sizes (omega (arith, low)),
)

-- FRAMES THAT WAIT fit while there is room

and-true : (a b : Bool) → a ≡ true → b ≡ true → (a && b) ≡ true
and-true a b p q = rw (p, q) refl

held_fit : (ws : List Waiting) (k : Kept) → AreAccepted ws → length k.inbox + length ws ≤ 4096
    → AreFit k (inbox_messages ws)
held_fit [] k accepted room = tt
held_fit (w ∷ ws) k accepted room = (
  and-true (is_accepted w.frame) (nat_lt (length k.inbox) 4096) accepted.0
      (lt-ltb (length k.inbox) 4096 (omega (arith, room))),
  held_fit ws (keep k (held_message w)) accepted.1 (omega (arith, length-append k.inbox (w ∷ []), room)),
)

-- LINES stay below the bound

abbrev BelowBound : LineFields → Type 0
BelowBound l = (end_of l < 2147483648) × (l.acked < 2147483648)

fits_bound : (k : Kept) (t : Tuple) (l : LineFields) (n : ℕ) → BelowBound (line_in (line_message t l n))
    → fits k (line_message t l n) ≡ true
fits_bound k t l n below = by l.opening refl
  where
    m : LineFields
    m = line_in (line_message t l n)

    both : (nat_lt (end_of m) 2147483648 && nat_lt m.acked 2147483648) ≡ true
    both = and-true _ _ (lt-ltb (end_of m) 2147483648 below.0) (lt-ltb m.acked 2147483648 below.1)

    fits_with : (o : Option Opening) → (line_fits (line_with t l o n) ≡ true) → fits k (line_with t l o n) ≡ true
    fits_with None h = h
    fits_with (Some o) h = h

    by : (o : Option Opening) → l.opening ≡ o → fits k (line_message t l n) ≡ true
    by o is = fits_with l.opening both

abbrev last_line : Option LastLine → LineFields
last_line None = no_fields
last_line (Some last) = last.line

row_in : (k : Kept) (t : Tuple) (l : LineFields) (n : ℕ) → IsPlain l
    → line_in (line_message t l n) ≡ record l { bytes = [] }
row_in k t l n plain = by l.opening ∙ ap (λ (y : Kept). last_line y.last) (row_kept k t l n plain)
  where
    by : (o : Option Opening) → line_in (line_with t l o n) ≡ last_line (keep k (line_with t l o n)).last
    by None = refl
    by (Some o) = refl

bytes_fit_on : (k : Kept) (lines : Tracking) (numbers : KeptNumbers) (t : Tuple) (l : LineFields)
    (ps : List (List ℕ)) → is_some l.opening ≡ true → end_of l + length (concat ps) < 2147483648
    → AreFit (with_last k lines numbers t l) (map Bytes ps)
bytes_fit_on k lines numbers t l [] opened low = tt
bytes_fit_on k lines numbers t l (p ∷ ps) opened low =
    let joins = length-append p (concat ps) in
    let longer = length-append l.bytes p in (
      and-true (is_some l.opening) (nat_lt (end_of l + length p) 2147483648) opened
          (lt-ltb (end_of l + length p) 2147483648 (omega (arith, joins, low))),
      bytes_fit_on k lines numbers t (record l { bytes = l.bytes ++ p }) ps opened
          (omega (arith, joins, longer, low)),
    )

row_bytes_fit : (k : Kept) (lines : Tracking) (numbers : KeptNumbers) (t : Tuple) (l : LineFields) → IsWithin l
    → AreFit (with_last k lines numbers t (record l { bytes = [] })) (bytes_messages l.bytes)
row_bytes_fit k lines numbers t l within = by (is_some l.opening) refl
  where
    bare : LineFields
    bare = record l { bytes = [] }

    by : (b : Bool) → is_some l.opening ≡ b
        → AreFit (with_last k lines numbers t (record l { bytes = [] })) (bytes_messages l.bytes)
    by true opened =
        let whole : length (concat (pieces_of bytes_together l.bytes)) ≡ length l.bytes = ap length (joined l.bytes) in
        bytes_fit_on k lines numbers t bare (pieces_of bytes_together l.bytes) opened
        (omega (arith, whole, within.end))
    by false closed =
        subst (λ (bs : List ℕ). AreFit (with_last k lines numbers t bare) (bytes_messages bs))
        (sym (within.no_bytes closed)) tt

entry_fit : (numbers : KeptNumbers) (x : Tuple × LineFields) (k : Kept) → IsPlain x.1 → IsWithin x.1
    → AreFit k (line_messages numbers x)
entry_fit numbers x k plain within =
    let n = number_for numbers x.0 x.1.opening in
    let bare : LineFields = record x.1 { bytes = [] } in
    let low : end_of bare < 2147483648 = omega (arith, within.end) in (
      fits_bound k x.0 x.1 n (subst BelowBound (sym (row_in k x.0 x.1 n plain)) (low, within.acked)),
      subst (λ (y : Kept). AreFit y (bytes_messages x.1.bytes)) (sym (row_kept k x.0 x.1 n plain))
          (row_bytes_fit k (close_lines k.lines k.last) (number_of_row k.numbers x.0 x.1.opening n) x.0 x.1 within),
    )

lines_fit : (numbers : KeptNumbers) (entries : List (Tuple × Entry)) (k : Kept) → ArePlain entries
    → AreWithin entries → AreFit k (flat_map (line_messages numbers) (map line_of_entry entries))
lines_fit numbers [] k plain within = tt
lines_fit numbers (x ∷ xs) k plain within =
    let here = line_messages numbers (line_of_entry x) in
    fit_append here (flat_map (line_messages numbers) (map line_of_entry xs)) k
    (entry_fit numbers (line_of_entry x) k plain.0 within.0)
    (lines_fit numbers xs (fold keep k here) plain.1 within.1)

-- A WHOLE CAPTURE

none_length : (n : ℕ) → length (no_parts n) ≡ n
none_length zero = refl
none_length (suc n) = ap suc (none_length n)

captured_fit : (x : Capture) (e : ℕ) → CanBeHeard x
    → AreFit (begin_kept x.state.bytes (length x.state.pages) (length x.state.sectors)) (parts_of x e)
unfolding captured_messages
captured_fit x e can =
    let s = x.state in
    let np = length s.pages in
    let ns = length s.sectors in
    let k = begin_kept s.bytes np ns in
    let pages = page_messages s.pages in
    let disk = disk_messages s.sectors in
    let held = inbox_messages x.inbox in
    let rows = flat_map (line_messages x.numbers) (lines_of x.lines) in
    let start : HasPlaces np ns k = record { pages_are = none_length np; sectors_are = none_length ns } in
    let whole = fold keep k (pages ++ disk) in
    let empty : whole.inbox ≡ [] =
    inbox_left (pages ++ disk) (all_append LeavesInbox pages disk
    (all_map LeavesInbox (λ (p : ℕ × List ℕ). Page p.0 p.1) (enumerate_from 0 s.pages) (λ y q. refl))
    (all_map LeavesInbox disk_message (enumerate_from 0 (pieces_of sectors_together s.sectors)) (λ y q. refl)))
    k in
    let room : length whole.inbox + length x.inbox ≤ 4096 = omega (arith, ap length empty, can.room) in
    fit_append (pages ++ disk ++ held) rows k
    (fit_append (pages ++ disk) held k
    (fit_append pages disk k
    (places_fit np ns pages k (pages_fit np ns 0 s.pages (omega arith)) start)
    (places_fit np ns disk (fold keep k pages)
    (disk_fits np s.sectors 0 ((ns + 127) / 128) can.sizes (omega arith))
    (all_places_left np ns pages k start)))
    (held_fit x.inbox whole can.accepted room))
    (lines_fit x.numbers x.lines.entries (fold keep k (pages ++ disk ++ held)) can.lines.regular.plain can.lines.within)

pub captured_is_due : (kind : Kind) (x : Capture) (e : ℕ) → CanBeHeard x → IsOfKind kind x
    → AreDue kind e Nothing (messages_of x e ++ End e ∷ [])
unfolding captured_messages
captured_is_due kind x e can of =
    let s = x.state in
    let parts = parts_of x e in
    let end : AreDue kind e (Heard (fold keep (begin_kept s.bytes (length s.pages) (length s.sectors)) parts))
    (End e ∷ []) = (eq-eqb e e refl, tt) in
    let rest = due_parts kind e (begin_kept s.bytes (length s.pages) (length s.sectors)) parts (End e ∷ [])
    (captured_fit x e can) end in
    let begins : begin_kept s.bytes (length s.pages) (length s.sectors)
    ≡ begin_kept s.bytes kind.page_count kind.sector_count =
    λ i. begin_kept s.bytes (of.pages i) (of.sectors i) in (
      eq-eqb e e refl,
      (
        of.accepts,
        subst (λ (k : Kept). AreDue kind e (Heard k) (parts ++ End e ∷ [])) begins rest,
      ),
    )

pub hears_a_whole : (kind : Kind) (x : Capture) (e : ℕ) → CanBeHeard x → IsOfKind kind x
    → fold (way kind) Nothing (messages_of x e) ≡ Heard (kept_of x e)
unfolding captured_messages keep_all
hears_a_whole kind x e can of =
    let s = x.state in
    let k = begin_kept s.bytes (length s.pages) (length s.sectors) in
    ap (λ (u : UnderWay). fold (way kind) u (parts_of x e))
    (λ i. Heard (begin_kept s.bytes (sym of.pages i) (sym of.sectors i)))
    ∙ goes_parts kind k (parts_of x e) (captured_fit x e can)

-- over a node: what is under way goes the same way
pub goes_its_way : (n : Node) (m : Message) → (hear_due n m).under_way ≡ way n.guest.kind n.under_way m
goes_its_way n (End e) = by n.under_way refl
  where
    by : (u : UnderWay) → n.under_way ≡ u → (commit n e u).under_way ≡ way_after_end u
    by Nothing is = is
    by Begun is = is
    by (Heard k) is = refl
goes_its_way n (Begin e) = refl
goes_its_way n (State bytes) = refl
goes_its_way n (Page i bytes) = refl
goes_its_way n (Disk first bytes) = refl
goes_its_way n (Held index seen trim frame) = refl
goes_its_way n (Line t mac flags client own number refused acked window mss base) = refl
goes_its_way n (Bytes bytes) = refl
goes_its_way n (Frame index seen trim frame) = stays n.under_way
  where
    stays : (u : UnderWay) → u ≡ keep_part u (Frame index seen trim frame)
    stays Nothing = refl
    stays Begun = refl
    stays (Heard k) = refl
goes_its_way n (Number t client number) = stays n.under_way
  where
    stays : (u : UnderWay) → u ≡ keep_part u (Number t client number)
    stays Nothing = refl
    stays Begun = refl
    stays (Heard k) = refl
goes_its_way n (Write i bytes) = refl
goes_its_way n (Known t client number) = refl
goes_its_way n (Sent frame) = refl
goes_its_way n (Ack e) = refl
