-- The segments that are cut from symbols carry each of them, at its offset from the number of their SYN.
use Rattle.std.proofs.Common.{◌≡◌, ◌⊎◌, inl, inr, ℕ, ◌+◌, ◌-◌, ◌*◌, ◌/◌, ◌<◌, ◌≤◌, ◌%◌, ◌^◌, ◌==◌, zero, suc, Bool, true, false, ◌&&◌, ◌||◌, nat_lt, nat_le, max, min, is_some, if◌then◌else◌, List, [], ◌∷◌, ◌++◌, length, map, take, drop, slice_get, Option, None, Some, refl, sym, ap, subst, ◌∙◌, arith, true≢false, eq-eqb, length-append, length-drop, length-take}
use Rattle.std.specs.List.{enumerate_from, list_all, list_any, range_with_len}
use Rattle.std.specs.Option.{option_map}
use Rattle.std.proofs.lemmas.Bool.{and_from, and_parts, cases_lt, le-leb, le-ltb, lt-ltb}
use Rattle.std.proofs.lemmas.List.{length-map}
use Rattle.std.proofs.lemmas.Option.{slice_get-map, slice_get_within}
use Rattle.inet_frame.specs.Fields.{TcpFields}
use Rattle.inet_frame.specs.Flags.{has_fin, has_rst, has_syn}
use Rattle.inet_frame.specs.declared.tuple.Tuple.{Tuple}
use Rattle.inet_build.specs.Segment.{fields_of}
use Rattle.tcp_track.specs.Lines.{has_ended}
use Rattle.tcp_track.specs.Offsets.{distance}
use Rattle.tcp_track.specs.Segments.{Symbol, syn, byte, fin, fin_if, syn_if, is_near, payload_symbols, same_symbol, same_tuple, start_of, symbol_in, symbols_in}
use Rattle.tcp_track.specs.Stands.{is_symbol}
use Rattle.tcp_track.specs.declared.offsets.TheConstants.{OFFSET_BOUND}
use Rattle.tcp_track.proofs.ElementLemmas.{get_drop, get_left, get_right}
use Rattle.tcp_track.proofs.TupleLemmas.{same_tuple-refl}
use Rattle.tcp_track.proofs.TyingLemmas.{drop-payload}
use Rattle.settle_rules.specs.Matching.{BothLines, agreed_ack, agreed_window}
use Rattle.settle_rules.specs.Pieces.{piece_at, piece_count, pieces_of}
use Rattle.settle_rules.specs.Release.{Released, bytes_in, data_flags, data_segment, data_segments, ends_here, has_symbol, largest_payload, release_symbols, segment_at, symbol_segments, syn_segments}
use Rattle.pair_theorem.specs.FrameParts.{carries_symbol}
use Rattle.pair_theorem.proofs.AllLemmas.{slice_get-enumerate_from}
use Rattle.theorem_frames.proofs.LineLemmas.{bytes_in-whole, carried, has_ended-whole}
use Rattle.theorem_frames.specs.Lines.{IsSound, whole_symbols}

-- ELEMENTS OF LISTS
pub any_at : {X : Type 0} (p : X → Bool) (xs : List X) (k : ℕ) (x : X) → slice_get xs k ≡ Some x → p x ≡ true →
    list_any p xs ≡ true
any_at p [] k x e h = absurd (cc e)
any_at {X} p (y ∷ ys) zero x e h =
    let same : y ≡ x = cc in ap (λ (z : X). p z || list_any p ys) same ∙ ap (λ (b : Bool). b || list_any p ys) h
any_at p (y ∷ ys) (suc k) x e h = or_right (p y) (list_any p ys) (any_at p ys k x e h)
  where
    or_right : (a b : Bool) → b ≡ true → (a || b) ≡ true
    or_right true b e = refl
    or_right false b e = e

get_map : {X Y : Type 0} (f : X → Y) (xs : List X) (k : ℕ) (x : X) → slice_get xs k ≡ Some x →
    slice_get (map f xs) k ≡ Some (f x)
get_map f xs k x e = slice_get-map f xs k ∙ ap (option_map f) e

pub get_take : {X : Type 0} (n : ℕ) (xs : List X) (k : ℕ) → k < n → slice_get (take n xs) k ≡ slice_get xs k
get_take zero xs k h = absurd (omega (arith, h))
get_take (suc n) [] k h = refl
get_take (suc n) (x ∷ xs) zero h = refl
get_take (suc n) (x ∷ xs) (suc k) h = get_take n xs k (omega (arith, h))

get_range : (a n k : ℕ) → k < n → slice_get (range_with_len a n) k ≡ Some (a + k)
get_range a zero k h = absurd (omega (arith, h))
get_range a (suc n) zero h = let e : a ≡ a + 0 = omega arith in ap Some e
get_range a (suc n) (suc k) h =
    let e : a + 1 + k ≡ a + suc k = omega arith in get_range (a + 1) n k (omega (arith, h)) ∙ ap Some e

-- WHAT A SEGMENT WITHOUT SYN AND RST CARRIES
record HasFlags (flags : ℕ) (ends : Bool) : Type 0 where
  no_rst : has_rst flags ≡ false
  no_syn : has_syn flags ≡ false
  fin_is : has_fin flags ≡ ends

alone_flags : HasFlags (data_flags [] true) true
alone_flags = record { no_rst = refl; no_syn = refl; fin_is = refl }

payload_flags : (payload : List ℕ) (ends : Bool) → 0 < length payload → HasFlags (data_flags payload ends) ends
payload_flags [] ends h = absurd (omega (arith, h))
payload_flags (x ∷ xs) true h = record { no_rst = refl; no_syn = refl; fin_is = refl }
payload_flags (x ∷ xs) false h = record { no_rst = refl; no_syn = refl; fin_is = refl }

pub start_is : (own start : ℕ) (s : TcpFields) → own < 2 ^ 32 → start < OFFSET_BOUND → s.seq ≡ (own + start) % 2 ^ 32 →
    start_of own s ≡ start
start_is own start s small near e =
    ap (λ (n : ℕ). distance own n) e ∙ omega (arith, small, near)

abbrev pub data_of : List ℕ → Bool → List Symbol
data_of bytes ends = map byte bytes ++ fin_if ends

carries_data : (own start : ℕ) (s : TcpFields) (ends : Bool) (j : ℕ) (x : Symbol) → own < 2 ^ 32 →
    s.seq ≡ (own + start) % 2 ^ 32 → HasFlags s.flags ends → start + length (data_of s.payload ends) < OFFSET_BOUND →
    slice_get (data_of s.payload ends) j ≡ Some x → symbol_in own s (start + j) ≡ Some x
unfolding is_near
carries_data own start s ends j x small seq flags near e =
    let at = start_is own start s small (omega (arith, near)) seq in
    let symbols : payload_symbols s ≡ data_of s.payload ends =
    ap (λ (b : Bool). map byte s.payload ++ fin_if b) flags.fin_is in
    let is : is_near own s ≡ true =
    (λ i. nat_lt (at i + length (symbols i)) OFFSET_BOUND)
    ∙ lt-ltb (start + length (data_of s.payload ends)) OFFSET_BOUND near in
    let all : symbols_in own s ≡ data_of s.payload ends =
    carried own s flags.no_rst flags.no_syn ∙ ((λ i. if is i then payload_symbols s else []) ∙ symbols) in
    let within : nat_lt (start + j) start ≡ false = le-ltb (start + j) start (omega arith) in
    let back : start + j - start ≡ j = omega arith in
    (λ i. if nat_lt (start + j) (at i) then None else slice_get (all i) (start + j - at i))
    ∙ ((λ i. if within i then None else slice_get (data_of s.payload ends) (back i)) ∙ e)

pub same_symbol-refl : (x : Symbol) → same_symbol x x ≡ true
same_symbol-refl syn = refl
same_symbol-refl (byte b) = eq-eqb b b refl
same_symbol-refl fin = refl

segment_carries : (b : BothLines) (start flags : ℕ) (payload : List ℕ) (ends : Bool) (j : ℕ) (x : Symbol) →
    b.number < 2 ^ 32 → HasFlags flags ends → start + length (data_of payload ends) < OFFSET_BOUND →
    slice_get (data_of payload ends) j ≡ Some x →
    carries_symbol b.tuple b.number (start + j, x) (segment_at b start flags None payload) ≡ true
segment_carries b start flags payload ends j x small h near e =
    let here = carries_data b.number start (fields_of (record {
      dst_mac = b.mine.mac;
      tuple = b.tuple;
      seq = (b.number + start) % 2 ^ 32;
      ack = agreed_ack b;
      flags = flags;
      window = agreed_window b;
      mss = None;
    }) payload) ends j x small refl h near e in
    and_from (same_tuple b.tuple b.tuple) _ (same_tuple-refl b.tuple)
    (ap (λ (o : Option Symbol). is_symbol o x) here ∙ same_symbol-refl x)

-- PIECES
-- a segment of the bytes that has this symbol at a place of its own
piece_carries : (b : BothLines) (offset y : ℕ) (ys : List ℕ) (ends : Bool) (q r : ℕ) (x : Symbol) → b.number < 2 ^ 32 →
    offset + length (data_of (y ∷ ys) ends) < OFFSET_BOUND → q < piece_count largest_payload (length (y ∷ ys)) →
    536 * q < length (y ∷ ys) →
    slice_get (data_of (piece_at largest_payload (y ∷ ys) q) (ends_here (y ∷ ys) ends q)) r ≡ Some x →
    list_any (carries_symbol b.tuple b.number (offset + 536 * q + r, x)) (data_segments b offset (y ∷ ys) ends) ≡ true
piece_carries b offset y ys ends q r x small near within some e =
    let bytes = y ∷ ys in
    let count = piece_count largest_payload (length bytes) in
    let payload = piece_at largest_payload bytes q in
    let numbered : slice_get (enumerate_from 0 (pieces_of largest_payload bytes)) q ≡ Some (q, payload) =
    slice_get-enumerate_from 0 (pieces_of largest_payload bytes) q payload
    (get_map (piece_at largest_payload bytes) (range_with_len 0 count) q q
    (get_range 0 count q within ∙ ap Some (let z : 0 + q ≡ q = omega arith in z)))
    ∙ ap (λ (n : ℕ). Some (n, payload)) (let z : 0 + q ≡ q = omega arith in z) in
    let size : length payload ≡ min 536 (length bytes - 536 * q) =
    length-take 536 (drop (536 * q) bytes) ∙ ap (min 536) (length-drop (536 * q) bytes) in
    let ends_q = ends_here bytes ends q in
    any_at (carries_symbol b.tuple b.number (offset + 536 * q + r, x)) (data_segments b offset bytes ends) q
    (data_segment b offset bytes ends (q, payload))
    (get_map (data_segment b offset bytes ends) (enumerate_from 0 (pieces_of largest_payload bytes)) q (q, payload)
    numbered)
    (segment_carries b (offset + 536 * q) (data_flags payload ends_q) payload ends_q r x small
    (payload_flags payload ends_q (omega (arith, size, some))) (fits payload size ends_q refl) e)
  where
    length-data : (bytes : List ℕ) (has : Bool) → length (data_of bytes has) ≡ length bytes + (if has then 1 else 0)
    length-data bytes true = omega (arith, length-append (map byte bytes) (fin ∷ []), length-map bytes byte)
    length-data bytes false = omega (arith, length-append (map byte bytes) [], length-map bytes byte)

    fits : (payload : List ℕ) → length payload ≡ min 536 (length (y ∷ ys) - 536 * q) → (has : Bool) →
        ends_here (y ∷ ys) ends q ≡ has → offset + 536 * q + length (data_of payload has) < OFFSET_BOUND
    fits payload size true f =
        let ended = (and_parts ends (nat_le (length (y ∷ ys)) (536 * (q + 1))) f).0 in
        let whole = length-data (y ∷ ys) ends ∙ ap (λ (b : Bool). length (y ∷ ys) + (if b then 1 else 0)) ended in
        let part = length-data payload true in
        omega (arith, near, whole, part, size, some)
    fits payload size false f =
        let whole = length-data (y ∷ ys) ends in
        let part = length-data payload false in
        omega (arith, near, whole, part, size, some)

-- the bytes and FIN after an offset
pub data_carries : (b : BothLines) (offset : ℕ) (bytes : List ℕ) (ends : Bool) (j : ℕ) (x : Symbol) →
    b.number < 2 ^ 32 → offset + length (data_of bytes ends) < OFFSET_BOUND →
    slice_get (data_of bytes ends) j ≡ Some x →
    list_any (carries_symbol b.tuple b.number (offset + j, x)) (data_segments b offset bytes ends) ≡ true
data_carries b offset [] false j x small near e = absurd (cc e)
data_carries b offset [] true j x small near e =
    let start : offset + 536 * 0 ≡ offset = omega arith in
    any_at (carries_symbol b.tuple b.number (offset + j, x)) (data_segments b offset [] true) 0
    (segment_at b (offset + 536 * 0) (data_flags [] true) None []) refl
    (subst
    (λ (n : ℕ).
    carries_symbol b.tuple b.number (n + j, x) (segment_at b (offset + 536 * 0) (data_flags [] true) None []) ≡ true)
    start
    (segment_carries b (offset + 536 * 0) (data_flags [] true) [] true j x small alone_flags (omega (arith, near)) e))
data_carries b offset (y ∷ ys) ends j x small near e = by (cases_lt j (length (y ∷ ys)))
  where
    bytes : List ℕ
    bytes = y ∷ ys

    at_byte : j < length (y ∷ ys) → (q r : ℕ) → j ≡ 536 * q + r → r < 536 →
        list_any (carries_symbol b.tuple b.number (offset + j, x)) (data_segments b offset (y ∷ ys) ends) ≡ true
    at_byte low q r is short =
        let payload = piece_at largest_payload bytes q in
        let size : length payload ≡ min 536 (length bytes - 536 * q) =
        length-take 536 (drop (536 * q) bytes) ∙ ap (min 536) (length-drop (536 * q) bytes) in
        let here : slice_get (data_of payload (ends_here bytes ends q)) r ≡ Some x =
        get_left (map byte payload) (fin_if (ends_here bytes ends q)) r
        (omega (arith, size, length-map payload byte, is, low, short))
        ∙ (slice_get-map byte payload r
        ∙ (ap (option_map byte)
        (get_take 536 (drop (536 * q) bytes) r short ∙ get_drop (536 * q) bytes r j is)
        ∙ (sym (slice_get-map byte bytes j)
        ∙ (sym (get_left (map byte bytes) (fin_if ends) j (omega (arith, length-map bytes byte, low))) ∙ e)))) in
        let sum : offset + 536 * q + r ≡ offset + j = omega (arith, is) in
        subst
        (λ (n : ℕ). list_any (carries_symbol b.tuple b.number (n, x)) (data_segments b offset bytes ends) ≡ true) sum
        (piece_carries b offset y ys ends q r x small near (omega (arith, is, low)) (omega (arith, is, low)) here)

    at_fin : (has : Bool) → ends ≡ has → length (y ∷ ys) ≤ j → slice_get (fin_if has) (j - length (y ∷ ys)) ≡ Some x →
        list_any (carries_symbol b.tuple b.number (offset + j, x)) (data_segments b offset (y ∷ ys) ends) ≡ true
    at_fin false f high g = absurd (cc g)
    at_fin true f high g =
        let n = length bytes in
        let within = slice_get_within (fin ∷ []) (j - n) x g in
        let last : j ≡ n = omega (arith, within, high) in
        let none : j - n ≡ 0 = omega (arith, last) in
        let q = (n - 1) / 536 in
        let payload = piece_at largest_payload bytes q in
        let size : length payload ≡ min 536 (n - 536 * q) =
        length-take 536 (drop (536 * q) bytes) ∙ ap (min 536) (length-drop (536 * q) bytes) in
        let some : 0 < n = omega arith in
        let reach : n ≤ 536 * (q + 1) = omega (arith, some) in
        let low : 536 * q < n = omega (arith, some) in
        let flag : ends_here bytes ends q ≡ true =
        ap (λ (a : Bool). a && nat_le n (536 * (q + 1))) f ∙ le-leb n (536 * (q + 1)) reach in
        let here : slice_get (data_of payload (ends_here bytes ends q)) (n - 536 * q) ≡ Some x =
        ap (λ (has : Bool). slice_get (data_of payload has) (n - 536 * q)) flag
        ∙ (get_right (map byte payload) (fin ∷ []) (n - 536 * q) 0
        (omega (arith, size, length-map payload byte, reach))
        ∙ (ap (λ (k : ℕ). slice_get (fin ∷ []) k) (sym none) ∙ g)) in
        let sum : offset + 536 * q + (n - 536 * q) ≡ offset + j = omega (arith, last, low) in
        subst
        (λ (k : ℕ). list_any (carries_symbol b.tuple b.number (k, x)) (data_segments b offset bytes ends) ≡ true) sum
        (piece_carries b offset y ys ends q (n - 536 * q) x small near (omega (arith, some)) low here)

    by : (j < length (y ∷ ys)) ⊎ (length (y ∷ ys) ≤ j) →
        list_any (carries_symbol b.tuple b.number (offset + j, x)) (data_segments b offset (y ∷ ys) ends) ≡ true
    by (inl low) = at_byte low (j / 536) (j - 536 * (j / 536)) (omega arith) (omega arith)
    by (inr high) =
        at_fin ends refl high
        (sym (get_right (map byte (y ∷ ys)) (fin_if ends) j (j - length (y ∷ ys))
        (omega (arith, length-map (y ∷ ys) byte, high))) ∙ e)

-- A PART OF A LINE
pub record IsData (xs : List Symbol) : Type 0 where
  pub bytes : List ℕ
  pub ends : Bool
  pub data_is : xs ≡ data_of bytes ends

pub take_data : (n : ℕ) (bytes : List ℕ) (ends : Bool) → IsData (take n (data_of bytes ends))
take_data zero bytes ends = record { bytes = []; ends = false; data_is = refl }
take_data (suc n) [] true =
    record { bytes = []; ends = true; data_is = ap (λ (xs : List Symbol). fin ∷ xs) (take-nothing n) }
  where
    take-nothing : (n : ℕ) → take n (let xs : List Symbol = [] in xs) ≡ []
    take-nothing zero = refl
    take-nothing (suc n) = refl
take_data (suc n) [] false = record { bytes = []; ends = false; data_is = refl }
take_data (suc n) (b ∷ bytes) ends =
    let rest = take_data n bytes ends in
    record {
      bytes = b ∷ rest.bytes;
      ends = rest.ends;
      data_is = ap (λ (xs : List Symbol). byte b ∷ xs) rest.data_is;
    }

pub part_data : (n d : ℕ) (bytes : List ℕ) (ends : Bool) → IsData (take n (drop d (data_of bytes ends)))
part_data n d bytes ends =
    subst (λ (xs : List Symbol). IsData (take n xs)) (sym (drop-payload d bytes ends))
    (take_data n (drop d bytes) (ends && nat_le d (length bytes)))

pub no_syn_in : (bytes : List ℕ) (ends : Bool) → has_symbol syn (data_of bytes ends) ≡ false
no_syn_in [] true = refl
no_syn_in [] false = refl
no_syn_in (b ∷ bytes) ends = no_syn_in bytes ends

any_right : {X : Type 0} (p : X → Bool) (xs ys : List X) → list_any p ys ≡ true → list_any p (xs ++ ys) ≡ true
any_right p [] ys h = h
any_right p (x ∷ xs) ys h = by (p x) (any_right p xs ys h)
  where
    by : (a : Bool) → list_any p (xs ++ ys) ≡ true → (a || list_any p (xs ++ ys)) ≡ true
    by true more = refl
    by false more = more

any_left : {X : Type 0} (p : X → Bool) (xs ys : List X) → list_any p xs ≡ true → list_any p (xs ++ ys) ≡ true
any_left p [] ys h = absurd (true≢false (sym h))
any_left p (x ∷ xs) ys h = by (p x) h (any_left p xs ys)
  where
    by : (a : Bool) → (a || list_any p xs) ≡ true → (list_any p xs ≡ true → list_any p (xs ++ ys) ≡ true) →
        (a || list_any p (xs ++ ys)) ≡ true
    by true f later = refl
    by false f later = later f

-- RELEASED SYMBOLS: each of some symbols, from an offset on, is carried by a segment among these
pub record Carries (out : List Released) (t : Tuple) (number from : ℕ) (symbols : List Symbol) : Type 0 where
  pub each : (k : ℕ) (x : Symbol) → slice_get symbols k ≡ Some x →
      list_any (carries_symbol t number (from + k, x)) out ≡ true

pub carries_left : (xs ys : List Released) (t : Tuple) (number from : ℕ) (symbols : List Symbol) →
    Carries xs t number from symbols → Carries (xs ++ ys) t number from symbols
carries_left xs ys t number from symbols h =
    record { each = λ k x e. any_left (carries_symbol t number (from + k, x)) xs ys (h.each k x e) }

pub carries_right : (xs ys : List Released) (t : Tuple) (number from : ℕ) (symbols : List Symbol) →
    Carries ys t number from symbols → Carries (xs ++ ys) t number from symbols
carries_right xs ys t number from symbols h =
    record { each = λ k x e. any_right (carries_symbol t number (from + k, x)) xs ys (h.each k x e) }

data_part_carries : (b : BothLines) (from : ℕ) (xs : List Symbol) → IsData xs → 0 < from → b.number < 2 ^ 32 →
    ((k : ℕ) (x : Symbol) → slice_get xs k ≡ Some x → from + length xs < OFFSET_BOUND) →
    Carries (symbol_segments b from xs) b.tuple b.number from xs
data_part_carries b from xs h some small near =
    let syn_is = ap (has_symbol syn) h.data_is ∙ no_syn_in h.bytes h.ends in
    let bytes_are = ap bytes_in h.data_is ∙ bytes_in-whole h.bytes h.ends in
    let fin_is = ap has_ended h.data_is ∙ has_ended-whole h.bytes h.ends in
    let low : max from 1 ≡ from = omega (arith, some) in
    let out : symbol_segments b from xs ≡ data_segments b from h.bytes h.ends =
    λ i. syn_segments b (syn_is i) ++ data_segments b (low i) (bytes_are i) (fin_is i) in
    record {
      each = λ k x e.
          ap (λ (rs : List Released). list_any (carries_symbol b.tuple b.number (from + k, x)) rs) out
          ∙ data_carries b from h.bytes h.ends k x small
          (subst (λ (ys : List Symbol). from + length ys < OFFSET_BOUND) h.data_is (near k x e))
          (ap (λ (ys : List Symbol). slice_get ys k) (sym h.data_is) ∙ e);
    }

-- the SYN is at the number itself
pub syn_carries : (b : BothLines) → b.number < 2 ^ 32 →
    list_any (carries_symbol b.tuple b.number (0, syn)) (syn_segments b true) ≡ true
unfolding symbols_in
syn_carries b small =
    let seq : (b.number + 0) % 2 ^ 32 ≡ b.number = omega (arith, small) in
    let same : ((b.number + 0) % 2 ^ 32 == b.number) ≡ true = eq-eqb ((b.number + 0) % 2 ^ 32) b.number seq in
    let start : distance b.number ((b.number + 0) % 2 ^ 32) ≡ 0 = omega (arith, small) in
    let tuple = same_tuple-refl b.tuple in
    (λ i. tuple i
    && is_symbol
    (if nat_lt 0 (start i) then None else slice_get (syn_if (same i)) (0 - start i)) syn
    || false)

syn_part_carries : (b : BothLines) (xs : List Symbol) → IsData xs → b.number < 2 ^ 32 →
    1 + length xs < OFFSET_BOUND → Carries (symbol_segments b 0 (syn ∷ xs)) b.tuple b.number 0 (syn ∷ xs)
syn_part_carries b xs h small near =
    let bytes_are = ap bytes_in h.data_is ∙ bytes_in-whole h.bytes h.ends in
    let fin_is = ap has_ended h.data_is ∙ has_ended-whole h.bytes h.ends in
    let out : symbol_segments b 0 (syn ∷ xs) ≡ syn_segments b true ++ data_segments b 1 h.bytes h.ends =
    λ i. syn_segments b true ++ data_segments b 1 (bytes_are i) (fin_is i) in
    record {
      each = λ k x e.
          ap (λ (rs : List Released). list_any (carries_symbol b.tuple b.number (0 + k, x)) rs) out ∙ by k x e;
    }
  where
    by : (k : ℕ) (x : Symbol) → slice_get (syn ∷ xs) k ≡ Some x →
        list_any (carries_symbol b.tuple b.number (0 + k, x)) (syn_segments b true
        ++ data_segments b 1 h.bytes h.ends) ≡ true
    by zero x e =
        let is : syn ≡ x = cc in
        subst
        (λ (y : Symbol).
        list_any (carries_symbol b.tuple b.number (0, y)) (syn_segments b true
        ++ data_segments b 1 h.bytes h.ends) ≡ true) is
        (any_left (carries_symbol b.tuple b.number (0, syn)) (syn_segments b true)
        (data_segments b 1 h.bytes h.ends) (syn_carries b small))
    by (suc k) x e =
        let sum : 1 + k ≡ 0 + suc k = omega arith in
        any_right (carries_symbol b.tuple b.number (0 + suc k, x)) (syn_segments b true)
        (data_segments b 1 h.bytes h.ends)
        (subst
        (λ (n : ℕ). list_any (carries_symbol b.tuple b.number (n, x)) (data_segments b 1 h.bytes h.ends) ≡ true) sum
        (data_carries b 1 h.bytes h.ends k x small
        (subst (λ (ys : List Symbol). 1 + length ys < OFFSET_BOUND) h.data_is near)
        (ap (λ (ys : List Symbol). slice_get ys k) (sym h.data_is) ∙ e)))

-- what is released of a line from an offset on carries its symbols there
part_carries : (b : BothLines) (bytes : List ℕ) (ends : Bool) (from n : ℕ) → b.number < 2 ^ 32 →
    length (whole_symbols bytes ends) < OFFSET_BOUND →
    Carries (symbol_segments b from (take n (drop from (whole_symbols bytes ends)))) b.tuple b.number from
    (take n (drop from (whole_symbols bytes ends)))
part_carries b bytes ends zero zero small near = record { each = λ k x e. absurd (cc e) }
part_carries b bytes ends zero (suc n) small near =
    syn_part_carries b (take n (data_of bytes ends)) (take_data n bytes ends) small
    (omega (arith, near, length-take n (data_of bytes ends)))
part_carries b bytes ends (suc d) n small near =
    let xs = take n (drop d (data_of bytes ends)) in
    data_part_carries b (suc d) xs (part_data n d bytes ends) (omega arith) small
    (λ k x e.
    let within = slice_get_within xs k x e in
    omega (
      arith,
      near,
      within,
      length-take n (drop d (data_of bytes ends)),
      length-drop d (data_of bytes ends),
    ))

pub released_carries : (b : BothLines) (from to : ℕ) → b.number < 2 ^ 32 → IsSound b.mine →
    is_some b.mine.opening ≡ true →
    Carries (release_symbols b from to) b.tuple b.number from (take (to - from) (drop from b.mine.symbols))
unfolding release_symbols
released_carries b from to small sound some =
    let bytes = bytes_in b.mine.symbols in
    let ends = has_ended b.mine.symbols in
    let whole = sound.opened some in
    subst
    (λ (xs : List Symbol).
    Carries (symbol_segments b from (take (to - from) (drop from xs))) b.tuple b.number from
    (take (to - from) (drop from xs))) (sym whole)
    (part_carries b bytes ends from (to - from) small
    (subst (λ (xs : List Symbol). length xs < OFFSET_BOUND) whole sound.near))

-- as a test
pub all_numbered : {X : Type 0} (q : ℕ × X → Bool) (n : ℕ) (xs : List X) →
    ((k : ℕ) (x : X) → slice_get xs k ≡ Some x → q (n + k, x) ≡ true) → list_all q (enumerate_from n xs) ≡ true
all_numbered q n [] h = refl
all_numbered {X} q n (x ∷ xs) h =
    let here : n + 0 ≡ n = omega arith in
    and_from (q (n, x)) (list_all q (enumerate_from (n + 1) xs))
    (subst (λ (m : ℕ). q (m, x) ≡ true) here (h 0 x refl))
    (all_numbered q (n + 1) xs (λ k y e.
    let next : n + suc k ≡ n + 1 + k = omega arith in
    subst (λ (m : ℕ). q (m, y) ≡ true) next (h (suc k) y e)))
