-- A line goes on to be sound, segment by segment and trim by trim.
use Rattle.std.proofs.Common.{◌≡◌, ℕ, ◌+◌, ◌-◌, ◌<◌, ◌≤◌, zero, suc, Bool, true, false, ◌&&◌, ◌||◌, ◌==◌, nat_lt, nat_le, max, min, is_some, if◌then◌else◌, List, [], ◌∷◌, ◌++◌, append_assoc, append-nil, length, map, drop, fold, Option, None, Some, refl, sym, ap, ap₂, subst, ◌∙◌, arith, length-append, length-drop, true≢false}
use Rattle.std.proofs.lemmas.Bool.{cond_both, ltb-true, ltb-false}
use Rattle.std.proofs.lemmas.List.{length-map, map-append}
use Rattle.inet_frame.specs.Counted.{tuple_of}
use Rattle.inet_frame.specs.Fields.{TcpFields}
use Rattle.inet_frame.specs.Flags.{has_fin, has_syn, has_rst, has_ack}
use Rattle.inet_frame.specs.declared.tuple.Tuple.{Tuple}
use Rattle.tcp_track.specs.Lines.{Item, sent, trim, commit, Line, no_line, has_ended, opened_line, refused_line, lengthen, line_with, after_segment, trim_end, after_trim, line_after, line}
use Rattle.tcp_track.specs.Offsets.{distance}
use Rattle.tcp_track.specs.Segments.{Symbol, same_tuple, syn, byte, fin, fin_if, syn_if, opening_in, opens_anew, is_refusal, symbols_in, payload_symbols, start_of, is_near}
use Rattle.tcp_track.specs.Stands.{acked_after, is_of_client}
use Rattle.tcp_track.specs.declared.offsets.TheConstants.{OFFSET_BOUND}
use Rattle.tcp_track.specs.declared.openings.Opening.{Opening}
use Rattle.tcp_track.proofs.TyingLemmas.{drop-payload}
use Rattle.settle_rules.specs.Release.{bytes_in}
use Rattle.theorem_frames.specs.Lines.{IsSound, LinesAreSound, whole_symbols}

-- THE SYMBOLS
record IsWhole (xs : List Symbol) : Type 0 where
  bytes : List ℕ
  ends : Bool
  whole_is : xs ≡ whole_symbols bytes ends

pub bytes_in-whole : (bytes : List ℕ) (ends : Bool) → bytes_in (map byte bytes ++ fin_if ends) ≡ bytes
bytes_in-whole [] true = refl
bytes_in-whole [] false = refl
bytes_in-whole (b ∷ bytes) ends = ap (λ (bs : List ℕ). b ∷ bs) (bytes_in-whole bytes ends)

pub has_ended-whole : (bytes : List ℕ) (ends : Bool) → has_ended (map byte bytes ++ fin_if ends) ≡ ends
has_ended-whole [] true = refl
has_ended-whole [] false = refl
has_ended-whole (b ∷ bytes) ends = has_ended-whole bytes ends

whole_again : (xs : List Symbol) → IsWhole xs → xs ≡ whole_symbols (bytes_in xs) (has_ended xs)
whole_again xs h =
    subst (λ (ys : List Symbol). ys ≡ whole_symbols (bytes_in ys) (has_ended ys)) (sym h.whole_is)
    (λ i. whole_symbols (sym (bytes_in-whole h.bytes h.ends) i) (sym (has_ended-whole h.bytes h.ends) i))

length-whole : (bytes : List ℕ) (ends : Bool) →
    length (whole_symbols bytes ends) ≡ 1 + (length bytes + (if ends then 1 else 0))
length-whole bytes true = omega (arith, length-append (map byte bytes) (fin ∷ []), length-map bytes byte)
length-whole bytes false = omega (arith, length-append (map byte bytes) [], length-map bytes byte)

trim_end-whole : (bytes : List ℕ) (ends : Bool) → trim_end (whole_symbols bytes ends) ≡ 1 + length bytes
trim_end-whole bytes ends = by ends (has_ended-whole bytes ends) (length-whole bytes ends)
  where
    by : (b : Bool) → has_ended (map byte bytes ++ fin_if ends) ≡ b →
        length (whole_symbols bytes ends) ≡ 1 + (length bytes + (if b then 1 else 0)) →
        trim_end (whole_symbols bytes ends) ≡ 1 + length bytes
    by true e n = rw e (omega (arith, n))
    by false e n = rw e (omega (arith, n))

more-whole : (bytes more : List ℕ) (ends : Bool) →
    whole_symbols bytes false ++ (map byte more ++ fin_if ends) ≡ whole_symbols (bytes ++ more) ends
more-whole bytes more ends =
    ap (λ (xs : List Symbol). syn ∷ xs)
    (ap (λ (xs : List Symbol). xs ++ (map byte more ++ fin_if ends)) (append-nil (map byte bytes))
    ∙ (sym (append_assoc (map byte bytes) (map byte more) (fin_if ends))
    ∙ ap (λ (xs : List Symbol). xs ++ fin_if ends) (sym (map-append byte bytes more))))

-- symbols that became no shorter, and are still whole
record Grows (xs ys : List Symbol) : Type 0 where
  whole : IsWhole ys
  near : length ys < OFFSET_BOUND
  reach : trim_end xs ≤ trim_end ys

stays : (xs : List Symbol) → IsWhole xs → length xs < OFFSET_BOUND → Grows xs xs
stays xs h near = record { whole = h; near = near; reach = omega arith }

near_end : (own : ℕ) (s : TcpFields) → is_near own s ≡ true →
    start_of own s + length (payload_symbols s) < OFFSET_BOUND
unfolding is_near
near_end own s h = ltb-true (start_of own s + length (payload_symbols s)) OFFSET_BOUND h

-- what a segment that starts at the end or before it adds
grown : (xs : List Symbol) (own : ℕ) (s : TcpFields) → IsWhole xs → has_ended xs ≡ false →
    start_of own s ≤ length xs → length xs < OFFSET_BOUND → is_near own s ≡ true →
    Grows xs (xs ++ drop (length xs - start_of own s) (payload_symbols s))
grown xs own s h unended low short near =
    let d = length xs - start_of own s in
    let more = drop d s.payload in
    let f = has_fin s.flags && nat_le d (length s.payload) in
    let ends : h.ends ≡ false = sym (has_ended-whole h.bytes h.ends)
    ∙ (ap has_ended (sym h.whole_is) ∙ unended) in
    let before : xs ≡ whole_symbols h.bytes false = h.whole_is ∙ ap (whole_symbols h.bytes) ends in
    let whole : xs ++ drop d (payload_symbols s) ≡ whole_symbols (h.bytes ++ more) f =
    ap₂ (λ (ys zs : List Symbol). ys ++ zs) before (drop-payload d s.payload (has_fin s.flags))
    ∙ more-whole h.bytes more f in
    record {
      whole = record { bytes = h.bytes ++ more; ends = f; whole_is = whole };
      near = omega (
        arith,
        near_end own s near,
        length-append xs (drop d (payload_symbols s)),
        length-drop d (payload_symbols s),
        short,
        low,
      );
      reach = omega (
        arith,
        ap trim_end whole,
        ap trim_end before,
        trim_end-whole (h.bytes ++ more) f,
        trim_end-whole h.bytes false,
        length-append h.bytes more,
      );
    }

drop-nothing : (d : ℕ) → drop d (let xs : List Symbol = [] in xs) ≡ []
drop-nothing zero = refl
drop-nothing (suc d) = refl

longer-nothing : (xs : List Symbol) (from : ℕ) → lengthen xs from [] ≡ xs
longer-nothing xs from = by (has_ended xs || nat_lt (length xs) from)
  where
    by : (b : Bool) → (if b then xs else xs ++ drop (length xs - from) []) ≡ xs
    by true = refl
    by false = ap (λ (ys : List Symbol). xs ++ ys) (drop-nothing (length xs - from)) ∙ append-nil xs

pub carried : (own : ℕ) (s : TcpFields) → has_rst s.flags ≡ false → has_syn s.flags ≡ false →
    symbols_in own s ≡ (if is_near own s then payload_symbols s else [])
unfolding symbols_in
carried own s r y =
    λ i. if r i then [] else (if y i then syn_if (s.seq == own) else (if is_near own s then payload_symbols s else []))

longer_grows : (xs : List Symbol) (own : ℕ) (s : TcpFields) → IsWhole xs → length xs < OFFSET_BOUND →
    has_rst s.flags ≡ false → has_syn s.flags ≡ false → Grows xs (lengthen xs (start_of own s) (symbols_in own s))
longer_grows xs own s h short r y =
    subst (λ (ys : List Symbol). Grows xs (lengthen xs (start_of own s) ys)) (sym (carried own s r y))
    (by_near (is_near own s) refl)
  where
    by_low : (b : Bool) → nat_lt (length xs) (start_of own s) ≡ b → is_near own s ≡ true → has_ended xs ≡ false →
        Grows xs (if b then xs else xs ++ drop (length xs - start_of own s) (payload_symbols s))
    by_low true e near unended = stays xs h short
    by_low false e near unended = grown xs own s h unended (ltb-false (length xs) (start_of own s) e) short near

    by_ended : (b : Bool) → has_ended xs ≡ b → is_near own s ≡ true →
        Grows xs (if b || nat_lt (length xs) (start_of own s) then xs else xs
        ++ drop (length xs - start_of own s) (payload_symbols s))
    by_ended true e near = stays xs h short
    by_ended false e near = by_low (nat_lt (length xs) (start_of own s)) refl near e

    by_near : (b : Bool) → is_near own s ≡ b →
        Grows xs (lengthen xs (start_of own s) (if b then payload_symbols s else []))
    by_near true e = by_ended (has_ended xs) refl e
    by_near false e = subst (Grows xs) (sym (longer-nothing xs (start_of own s))) (stays xs h short)

-- THE LINE
acked_near : (m client : ℕ) (s : TcpFields) → m < OFFSET_BOUND → acked_after m client s < OFFSET_BOUND
acked_near m client s h = by (has_ack s.flags) (nat_lt (distance client s.ack) OFFSET_BOUND) refl
  where
    by : (a b : Bool) → nat_lt (distance client s.ack) OFFSET_BOUND ≡ b →
        (if a && b then max m (distance client s.ack) else m) < OFFSET_BOUND
    by true true e = omega (arith, h, ltb-true (distance client s.ack) OFFSET_BOUND e)
    by true false e = h
    by false b e = h

sound_whole : (l : Line) → IsSound l → is_some l.opening ≡ true → IsWhole l.symbols
sound_whole l h e =
    record { bytes = bytes_in l.symbols; ends = has_ended l.symbols; whole_is = h.opened e }

none_sound : IsSound no_line
none_sound = record {
  opened = λ e. absurd (true≢false (sym e));
  unopened = λ e. refl;
  near = omega arith;
  trimmed = omega arith;
  acked = omega arith;
}

refused_sound : (l : Line) (s : TcpFields) → IsSound l → IsSound (refused_line l s)
refused_sound l s h = record {
  opened = h.opened;
  unopened = λ e i. record (h.unopened e i) {
    refused = (refused_line l s).refused;
    mac = (refused_line l s).mac;
  };
  near = h.near;
  trimmed = h.trimmed;
  acked = h.acked;
}

reset_sound : (l : Line) → IsSound l → IsSound (record l { reset = is_some l.opening })
reset_sound l h = record {
  opened = h.opened;
  unopened = λ e i. record (h.unopened e i) { reset = e i };
  near = h.near;
  trimmed = h.trimmed;
  acked = h.acked;
}

opened_sound : (l : Line) (s : TcpFields) → IsSound (opened_line l s)
opened_sound l s = record {
  opened = λ e. refl;
  unopened = λ e. absurd (true≢false e);
  near = omega arith;
  trimmed = omega arith;
  acked = acked_near 0 (opening_in s).client s (omega arith);
}

with_sound : (l : Line) (o : Option Opening) (s : TcpFields) → l.opening ≡ o → has_rst s.flags ≡ false → IsSound l →
    IsSound (line_with l o s)
with_sound l None s e r h = h
with_sound l (Some o) s e r h =
    let is_open = ap (λ (p : Option Opening). is_some p) e in
    let whole = sound_whole l h is_open in
    let grows = by (has_syn s.flags) refl whole in
    record {
      opened = λ f. whole_again (line_with l (Some o) s).symbols grows.whole;
      unopened = λ f. absurd (true≢false (sym is_open ∙ f));
      near = grows.near;
      trimmed = omega (arith, h.trimmed, grows.reach);
      acked = acked_near l.acked o.client s h.acked;
    }
  where
    by : (b : Bool) → has_syn s.flags ≡ b → IsWhole l.symbols → Grows l.symbols
        (if b then l.symbols else lengthen l.symbols (start_of o.own s) (symbols_in o.own s))
    by true y whole = stays l.symbols whole h.near
    by false y whole = longer_grows l.symbols o.own s whole h.near r y

segment_sound : (l : Line) (s : TcpFields) → IsSound l → IsSound (after_segment l s)
unfolding after_segment
segment_sound l s h =
    cond_both (is_refusal s) (refused_line l s)
    (if has_rst s.flags then record l { reset = is_some l.opening } else
    (if opens_anew l.opening s then opened_line l s else line_with l l.opening s)) IsSound
    (λ e. refused_sound l s h)
    (λ e. cond_both (has_rst s.flags) (record l { reset = is_some l.opening })
    (if opens_anew l.opening s then opened_line l s else line_with l l.opening s) IsSound
    (λ f. reset_sound l h)
    (λ f. cond_both (opens_anew l.opening s) (opened_line l s) (line_with l l.opening s) IsSound
    (λ g. opened_sound l s) (λ g. with_sound l l.opening s refl f h)))

some_of_client : (o : Option Opening) (client : ℕ) → is_of_client o client ≡ true → is_some o ≡ true
some_of_client None client e = absurd (true≢false (sym e))
some_of_client (Some o) client e = refl

trim_sound : (l : Line) (client to : ℕ) → IsSound l → IsSound (after_trim l client to)
unfolding after_trim
trim_sound l client to h =
    cond_both (is_of_client l.opening client) (record l { base = max l.base (min to (trim_end l.symbols)) }) l IsSound
    (λ e. record {
      opened = h.opened;
      unopened = λ f. absurd (true≢false (sym (some_of_client l.opening client e) ∙ f));
      near = h.near;
      trimmed = omega (arith, h.trimmed);
      acked = h.acked;
    })
    (λ e. h)

item_sound : (t : Tuple) (l : Line) (i : Item) → IsSound l → IsSound (line_after t l i)
unfolding line_after
item_sound t l (sent s) h =
    cond_both (same_tuple (tuple_of s) t) (after_segment l s) l IsSound (λ e. segment_sound l s h) (λ e. h)
item_sound t l (trim u client to) h =
    cond_both (same_tuple u t) (after_trim l client to) l IsSound (λ e. trim_sound l client to h) (λ e. h)
item_sound t l commit h = h

all_sound : (t : Tuple) (l : Line) (items : List Item) → IsSound l → IsSound (fold (line_after t) l items)
all_sound t l [] h = h
all_sound t l (i ∷ items) h = all_sound t (line_after t l i) items (item_sound t l i h)

pub lines_are_sound_lem : LinesAreSound
unfolding line
lines_are_sound_lem items t = all_sound t no_line items none_sound
