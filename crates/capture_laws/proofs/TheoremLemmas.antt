-- The captured messages of a tracker that stands for items are those of the items.
use Rattle.std.proofs.Common.{◌≡◌, ℕ, zero, suc, ◌+◌, ◌≤◌, Bool, true, false, ◌&&◌, ◌==◌, cond, List, [], ◌∷◌, ◌++◌, length, map, drop, refl, sym, ap, subst, ◌∙◌, arith, Option, None, Some, is_some, if◌then◌else◌, true≢false, length-append}
use Rattle.std.specs.Prelude.{unwrap_or}
use Rattle.std.specs.List.{AllByRecursion, flat_map}
use Rattle.std.specs.Map.{keys_of}
use Rattle.std.specs.Option.{option_map, option_map_or}
use Rattle.std.proofs.lemmas.List.{length-map}
use Rattle.inet_frame.specs.declared.tuple.Tuple.{Tuple}
use Rattle.tcp_track.specs.LineFields.{IsKept, LineFields}
use Rattle.tcp_track.specs.Lines.{Item, Line, has_ended, line, no_line, order, trim_end}
use Rattle.tcp_track.specs.Segments.{Symbol, byte, fin_if, same_tuple, syn}
use Rattle.tcp_track.specs.Stands.{is_of_client}
use Rattle.tcp_track.specs.Tracking.{Tracking, current_at, entry_of, line_at}
use Rattle.tcp_track.specs.declared.openings.Opening.{Opening}
use Rattle.tcp_track.specs.declared.table.Entry.{Entry}
use Rattle.tcp_track.proofs.TupleLemmas.{same_tuple-refl}
use Rattle.seq_rewriter.specs.Kept.{KeptNumbers, number_of}
use Rattle.settle_rules.specs.Matching.{client_or_zero}
use Rattle.settle_rules.specs.Numbers.{KeptNumber, kept_number, number_or_zero}
use Rattle.settle_rules.specs.Release.{bytes_in}
use Rattle.settle_history.specs.Standing.{SameNumbers, Tracks}
use Rattle.settle_history.proofs.TrackLemmas.{line_opening, order_is}
use Rattle.settle_history.proofs.WholeLemmas.{kept_in, number_alike}
use Rattle.theorem_frames.specs.Lines.{IsSound, whole_symbols}
use Rattle.theorem_frames.proofs.LineLemmas.{bytes_in-whole, has_ended-whole, lines_are_sound_lem}
use Rattle.colo_wire.specs.Forms as flag
use Rattle.colo_wire.specs.declared.messages.Message.{Message}
use Rattle.colo_wire.specs.declared.messages.Message.TheVariants as message
use Rattle.checkpoint_form.specs.Captured.{captured_messages, lines_of}
use Rattle.checkpoint_form.specs.Inbox.{inbox_messages}
use Rattle.checkpoint_form.specs.Rows.{bytes_messages, flag_if, line_message, line_messages, line_with, row_bytes, row_message}
use Rattle.checkpoint_form.specs.State.{state_messages}
use Rattle.pair_theorem.specs.Checkpoint.{checkpoint_messages, row_messages}
use Rattle.pair_theorem.specs.Past.{Past}
use Rattle.capture_laws.specs.Captures.{AreDistinct, AreOfOpenings, Capture, messages_of}
use Rattle.capture_laws.specs.Standing.{StandsForPast}
use Rattle.capture_laws.proofs.TrackerLemmas.{line_of_entry}

-- THE SYMBOLS THAT ARE KEPT

kept_ended : (b : Bool) (bytes : List ℕ) (ends : Bool)
    → has_ended ((if b then syn ∷ [] else []) ++ map byte bytes ++ fin_if ends) ≡ ends
kept_ended true bytes ends = has_ended-whole bytes ends
kept_ended false bytes ends = has_ended-whole bytes ends

kept_bytes : (b : Bool) (bytes : List ℕ) (ends : Bool)
    → bytes_in ((if b then syn ∷ [] else []) ++ map byte bytes ++ fin_if ends) ≡ bytes
kept_bytes true bytes ends = bytes_in-whole bytes ends
kept_bytes false bytes ends = bytes_in-whole bytes ends

-- the end stays where no more than the bytes is dropped
rest_ended : (n : ℕ) (bytes : List ℕ) (ends : Bool) → n ≤ 1 + length bytes
    → has_ended (drop n (whole_symbols bytes ends)) ≡ ends
rest_ended zero bytes ends low = has_ended-whole bytes ends
rest_ended (suc n) bytes ends low = after n bytes (omega (arith, low))
  where
    after : (m : ℕ) (bs : List ℕ) → m ≤ length bs → has_ended (drop m (map byte bs ++ fin_if ends)) ≡ ends
    after zero bs low = has_ended-whole bs ends
    after (suc m) [] low = absurd (omega (arith, low))
    after (suc m) (b ∷ bs) low = after m bs (omega (arith, low))

end_low : (bytes : List ℕ) (ends : Bool) → trim_end (whole_symbols bytes ends) ≤ 1 + length bytes
end_low bytes ends = by ends (has_ended-whole bytes ends)
    (length-append (map byte bytes) (fin_if ends)) (length-map bytes byte)
  where
    by : (b : Bool) → has_ended (map byte bytes ++ fin_if ends) ≡ b
        → length (map byte bytes ++ fin_if ends) ≡ length (map byte bytes) + length (fin_if b)
        → length (map byte bytes) ≡ length bytes → trim_end (whole_symbols bytes ends) ≤ 1 + length bytes
    by true e n m = rw e (omega (arith, n, m))
    by false e n m = rw e (omega (arith, n, m))

fin_same : (l : Line) (kept : LineFields) → IsKept l kept → IsSound l → is_some l.opening ≡ true
    → has_ended l.symbols ≡ kept.fin
fin_same l kept k sound opened =
    let bytes = bytes_in l.symbols in
    let ends = has_ended l.symbols in
    let whole = sound.opened opened in
    let end : trim_end l.symbols ≤ 1 + length bytes =
    subst (λ (xs : List Symbol). trim_end xs ≤ 1 + length bytes) (sym whole) (end_low bytes ends) in
    let low : l.base ≤ 1 + length bytes = omega (arith, end, sound.trimmed) in
    sym (rest_ended l.base bytes ends low)
    ∙ ap (λ (xs : List Symbol). has_ended (drop l.base xs)) (sym whole)
    ∙ ap has_ended (sym k.symbols)
    ∙ kept_ended (is_some kept.opening && kept.base == 0) kept.bytes kept.fin

bytes_same : (l : Line) (kept : LineFields) → IsKept l kept → row_bytes l ≡ kept.bytes
bytes_same l kept k =
    ap bytes_in (sym k.symbols) ∙ kept_bytes (is_some kept.opening && kept.base == 0) kept.bytes kept.fin

-- A ROW

bare_row : (t : Tuple) (refused : Option ℕ) (mac : List ℕ)
    → row_message t (record no_line { refused = refused; mac = mac }) 0
    ≡ message.Line t mac (flag_if flag.refused (is_some refused)) 0 0 0 (unwrap_or refused 0) 0 0 0 0
bare_row t None mac = refl
bare_row t (Some r) mac = refl

abbrev opened_row : Tuple → Line → Option Opening → ℕ → Message
opened_row t l p n =
    message.Line t l.mac
    (flag_if flag.opened (is_some p) + flag_if flag.reset l.reset + flag_if flag.refused (is_some l.refused)
    + flag_if flag.fin (has_ended l.symbols)) (client_or_zero p)
    (option_map_or (λ (o : Opening). o.own) p 0) n (unwrap_or l.refused 0) l.acked l.window l.mss l.base

row_same : (t : Tuple) (l : Line) (kept : LineFields) (n : ℕ) → IsKept l kept → IsSound l
    → (l.opening ≡ None → n ≡ 0) → row_message t l n ≡ line_message t kept n
row_same t l kept n k sound none = by l.opening refl
  where
    by : (o : Option Opening) → l.opening ≡ o → row_message t l n ≡ line_message t kept n
    by (Some o) is =
        let fins = fin_same l kept k sound (ap is_some is) in
        ap (λ (p : Option Opening). opened_row t l p n) is
        ∙ (λ i. message.Line t (sym k.mac i)
        (flag.opened + flag_if flag.reset (sym k.reset i) + flag_if flag.refused (is_some (sym k.refused i))
        + flag_if flag.fin (fins i)) o.client o.own n (unwrap_or (sym k.refused i) 0) (sym k.acked i)
        (sym k.window i) (sym k.mss i) (sym k.base i))
        ∙ ap (λ (p : Option Opening). line_with t kept p n) (sym (k.opening ∙ is))
    by None is =
        ap (λ (m : Line). row_message t m n) (sound.unopened (ap is_some is))
        ∙ ap (row_message t (record no_line { refused = l.refused; mac = l.mac })) (none is)
        ∙ bare_row t l.refused l.mac
        ∙ (λ i. message.Line t (sym k.mac i) (flag_if flag.refused (is_some (sym k.refused i))) 0 0 0
        (unwrap_or (sym k.refused i) 0) 0 0 0 0)
        ∙ ap (λ (p : Option Opening). line_with t kept p n) (sym (k.opening ∙ is))

-- EACH ENTRY IS FOUND by its tuple

abbrev IsFound : List (Tuple × Entry) → Tuple × Entry → Type 0
IsFound es x = entry_of es x.0 ≡ Some x.1

found_later : (x : Tuple × Entry) (es ys : List (Tuple × Entry))
    → AllByRecursion (λ (u : Tuple). same_tuple u x.0 ≡ false) (keys_of ys) → AllByRecursion (IsFound es) ys
    → AllByRecursion (IsFound (x ∷ es)) ys
found_later x es [] other h = tt
found_later x es (y ∷ ys) other h =
    (ap (λ (b : Bool). cond b (Some x.1) (entry_of es y.0)) other.0 ∙ h.0, found_later x es ys other.1 h.1)

all_found : (es : List (Tuple × Entry)) → AreDistinct (keys_of es) → AllByRecursion (IsFound es) es
all_found [] h = tt
all_found (x ∷ es) h = (
  ap (λ (b : Bool). cond b (Some x.1) (entry_of es x.0)) (same_tuple-refl x.0),
  found_later x es es h.0 (all_found es h.1),
)

-- ALL ROWS

no_number : (numbers : KeptNumbers) (lines : Tracking) (t : Tuple) (c : ℕ) → AreOfOpenings numbers lines
    → current_at lines t ≡ None → unwrap_or (number_of numbers t c) 0 ≡ 0
no_number numbers lines t c of none = by (number_of numbers t c) refl
  where
    by : (o : Option ℕ) → number_of numbers t c ≡ o → unwrap_or o 0 ≡ 0
    by None is = refl
    by (Some n) is =
        absurd (true≢false (sym (of.current t c (ap is_some is))
        ∙ ap (λ (p : Option Opening). is_of_client p c) none))

entry_row : (items : List Item) (ks : List KeptNumber) (lines : Tracking) (numbers : KeptNumbers)
    (x : Tuple × Entry) → Tracks items lines → SameNumbers ks numbers → AreOfOpenings numbers lines
    → entry_of lines.entries x.0 ≡ Some x.1
    → row_messages items ks x.0 ≡ line_messages numbers (line_of_entry x)
unfolding row_messages
entry_row items ks lines numbers x tracks same of found =
    let t = x.0 in
    let l = line t items in
    let kept = x.1.line in
    let at : line_at lines t ≡ Some kept = ap (option_map (λ (e : Entry). e.line)) found in
    let k = kept_in items lines t kept at tracks in
    let alike = number_alike ks numbers t kept.opening l.opening k.opening same in
    let n = number_or_zero (kept_number t (client_or_zero l.opening) ks) in
    let none : l.opening ≡ None → n ≡ 0 = λ is.
    sym alike ∙ no_number numbers lines t (client_or_zero kept.opening) of (line_opening items lines t tracks ∙ is) in
    (λ i. row_same t l kept n k (lines_are_sound_lem items t) none i ∷ bytes_messages (bytes_same l kept k i))
    ∙ ap (λ (m : ℕ). line_message t kept m ∷ bytes_messages kept.bytes) (sym alike)

entries_rows : (items : List Item) (ks : List KeptNumber) (lines : Tracking) (numbers : KeptNumbers)
    (es : List (Tuple × Entry)) → Tracks items lines → SameNumbers ks numbers → AreOfOpenings numbers lines
    → AllByRecursion (IsFound lines.entries) es
    → flat_map (row_messages items ks) (keys_of es) ≡ flat_map (line_messages numbers) (map line_of_entry es)
entries_rows items ks lines numbers [] tracks same of found = refl
entries_rows items ks lines numbers (x ∷ es) tracks same of found =
    (λ i. entry_row items ks lines numbers x tracks same of found.0 i
    ++ entries_rows items ks lines numbers es tracks same of found.1 i)

pub is_the_theorems : (past : Past) (ks : List KeptNumber) (x : Capture) (e : ℕ)
    → StandsForPast past ks x → messages_of x e ≡ checkpoint_messages past ks e
unfolding captured_messages checkpoint_messages
is_the_theorems past ks x e h =
    let items = past.primary.items in
    let rows : flat_map (row_messages items ks) (order items) ≡ flat_map (line_messages x.numbers) (lines_of x.lines) =
    ap (flat_map (row_messages items ks)) (order_is items x.lines h.tracks)
    ∙ entries_rows items ks x.lines x.numbers x.lines.entries h.tracks h.numbers h.openings
    (all_found x.lines.entries h.distinct) in
    λ i. message.Begin e ∷ state_messages (h.state i) ++ inbox_messages (h.inbox i) ++ sym rows i
