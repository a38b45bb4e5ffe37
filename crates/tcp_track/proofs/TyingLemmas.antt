-- The line that is kept goes on with the whole one, segment by segment and trim by trim.
use Rattle.std.proofs.Common.{◌≡◌, ℕ, ◌+◌, ◌-◌, ◌<◌, ◌≤◌, zero, suc, Bool, true, false, not, ◌&&◌, ◌||◌, ◌==◌, nat_lt, nat_le, max, min, is_some, if◌then◌else◌, List, [], ◌∷◌, ◌++◌, append_assoc, append-nil, length, map, drop, Option, None, Some, refl, sym, ap, ap₂, subst, ◌∙◌, arith, length-append, length-drop, true≢false, add-zero, zero-add}
use Rattle.std.proofs.lemmas.Bool.{and_parts, leb-true, leb-false, ltb-true, ltb-false, lt-ltb, le-ltb, not-true, eqb-true, eqb-false}
use Rattle.std.proofs.lemmas.List.{length-map, map-append, drop-map, drop-append-le}
use Rattle.std.proofs.lemmas.List.Folds.{list_any-append}
use Rattle.std.proofs.Math.ListN.{drop_of_length-le}
use Rattle.inet_frame.specs.Fields.{TcpFields}
use Rattle.inet_frame.specs.Flags.{has_fin, has_syn, has_rst}
use Rattle.tcp_track.specs.Segments.{Symbol, syn, byte, fin, fin_if, syn_if, same_symbol, opens_anew, is_refusal, symbols_in, payload_symbols, start_of, is_near}
use Rattle.tcp_track.specs.Stands.{acked_after, is_of_client}
use Rattle.tcp_track.specs.Lines.{Line, no_line, has_ended, opened_line, refused_line, lengthen, window_after, line_with, after_segment, trim_end, after_trim}
use Rattle.tcp_track.specs.LineFields.{LineFields, no_fields, bytes_end, end_of, syn_kept, symbols_kept, IsKept, fields_opened, fields_refused, fields_reset, grows, grow_fields, fields_acked, fields_with, fields_after, cut, fields_trimmed}
use Rattle.tcp_track.specs.declared.openings.Opening.{Opening}

-- the whole line and what is kept of it, with what both are by themselves
pub record Tied (l : Line) (kept : LineFields) : Type 0 where
  pub is_kept : IsKept l kept
  pub low : l.base ≤ length l.symbols
  pub end : is_some l.opening ≡ true → length l.symbols ≡ end_of kept
  pub ended : has_ended l.symbols ≡ kept.fin
  pub no_symbols : is_some l.opening ≡ false → l.symbols ≡ []
  pub no_bytes : is_some l.opening ≡ false → kept.bytes ≡ []
  pub no_base : is_some l.opening ≡ false → kept.base ≡ 0

-- LISTS OF SYMBOLS

has_ended-fin_if : (b : Bool) → has_ended (fin_if b) ≡ b
has_ended-fin_if true = refl
has_ended-fin_if false = refl

has_ended-bytes : (bytes : List ℕ) → has_ended (map byte bytes) ≡ false
has_ended-bytes [] = refl
has_ended-bytes (b ∷ bytes) = has_ended-bytes bytes

has_ended-append : (xs ys : List Symbol) → has_ended (xs ++ ys) ≡ (has_ended xs || has_ended ys)
has_ended-append xs ys = list_any-append (same_symbol fin) xs ys

length-fin_if : (b : Bool) → length (fin_if b) ≡ (if b then 1 else 0)
length-fin_if true = refl
length-fin_if false = refl

drop-nothing : (d : ℕ) → drop d (let xs : List Symbol = [] in xs) ≡ []
drop-nothing zero = refl
drop-nothing (suc d) = refl

-- the payload from a place on: its bytes, and FIN where the place is not after it
pub drop-payload : (d : ℕ) (bytes : List ℕ) (ends : Bool) → drop d (map byte bytes ++ fin_if ends)
    ≡ map byte (drop d bytes) ++ fin_if (ends && nat_le d (length bytes))
drop-payload d bytes ends = by (nat_le d (length bytes)) refl
  where
    before : (b : Bool) → b ≡ true → fin_if ends ≡ fin_if (ends && b)
    before b p = rw p (and-true' ends)
      where
        and-true' : (b : Bool) → fin_if b ≡ fin_if (b && true)
        and-true' true = refl
        and-true' false = refl

    after : (b e : Bool) → b ≡ false → fin_if (e && b) ≡ []
    after b true p = rw p refl
    after b false p = refl

    by : (b : Bool) → nat_le d (length bytes) ≡ b → drop d (map byte bytes ++ fin_if ends)
        ≡ map byte (drop d bytes) ++ fin_if (ends && nat_le d (length bytes))
    by true p =
        let low : d ≤ length (map byte bytes) = omega (arith, leb-true d (length bytes) p, length-map bytes byte) in
        drop-append-le d (map byte bytes) (fin_if ends) low ∙ ap₂ (λ xs ys. xs
        ++ ys) (drop-map byte d bytes) (before (nat_le d (length bytes)) p)
    by false p =
        let high = leb-false d (length bytes) p in
        let small : length (fin_if ends) ≤ 1 = at_most ends in
        let all : length (map byte bytes ++ fin_if ends) ≤ d = omega (
          arith,
          high,
          small,
          length-append (map byte bytes) (fin_if ends),
          length-map bytes byte,
        ) in
        drop_of_length-le (map byte bytes ++ fin_if ends) all
        ∙ sym (ap₂ (λ xs ys. map byte xs ++ ys) (drop_of_length-le bytes (omega (
          arith,
          high,
        ))) (after (nat_le d (length bytes)) ends p))
      where
        at_most : (b : Bool) → length (fin_if b) ≤ 1
        at_most true = omega arith
        at_most false = omega arith

-- WHAT A SEGMENT CARRIES

symbols_in-near : (own : ℕ) (s : TcpFields) → has_rst s.flags ≡ false → has_syn s.flags ≡ false →
    is_near own s ≡ true → symbols_in own s ≡ payload_symbols s
unfolding symbols_in
symbols_in-near own s r y n = λ i. if r i then [] else (if y i then syn_if (s.seq == own) else
    (if n i then payload_symbols s else []))

symbols_in-far : (own : ℕ) (s : TcpFields) → has_rst s.flags ≡ false → has_syn s.flags ≡ false →
    is_near own s ≡ false → symbols_in own s ≡ []
unfolding symbols_in
symbols_in-far own s r y n = λ i. if r i then [] else (if y i then syn_if (s.seq == own) else
    (if n i then payload_symbols s else []))

longer-nothing : (xs : List Symbol) (from : ℕ) → lengthen xs from [] ≡ xs
longer-nothing xs from = by (has_ended xs || nat_lt (length xs) from)
  where
    by : (b : Bool) → (if b then xs else xs ++ drop (length xs - from) []) ≡ xs
    by true = refl
    by false = ap (λ ys. xs ++ ys) (drop-nothing (length xs - from)) ∙ append-nil xs

longer-ended : (xs new : List Symbol) (from : ℕ) → has_ended xs ≡ true → lengthen xs from new ≡ xs
longer-ended xs new from p = λ i. if p i || nat_lt (length xs) from then xs else xs ++ drop (length xs - from) new

longer-past : (xs new : List Symbol) (from : ℕ) → has_ended xs ≡ false → length xs < from → lengthen xs from new ≡ xs
longer-past xs new from p past = let q = lt-ltb (length xs) from past in λ i. if p i || q i then xs else xs
    ++ drop (length xs - from) new

longer-grows : (xs new : List Symbol) (from : ℕ) → has_ended xs ≡ false → from ≤ length xs →
    lengthen xs from new ≡ xs ++ drop (length xs - from) new
longer-grows xs new from p low = let q = le-ltb (length xs) from low in λ i. if p i || q i then xs else xs
    ++ drop (length xs - from) new

-- the symbols of a line after a segment on its opening
abbrev symbols_with : Line → ℕ → TcpFields → List Symbol
symbols_with l own s = if has_syn s.flags then l.symbols else lengthen l.symbols (start_of own s) (symbols_in own s)

-- what a longer line and what is kept of it have to do with each other
record Grown (l : Line) (kept : LineFields) (symbols : List Symbol) (bytes : List ℕ) (ends : Bool) : Type 0 where
  symbols_is : symbols_kept (record kept { bytes = bytes; fin = ends }) ≡ drop l.base symbols
  low : l.base ≤ length symbols
  end : length symbols ≡ end_of (record kept { bytes = bytes; fin = ends })
  ended : has_ended symbols ≡ ends

stays : (l : Line) (kept : LineFields) → Tied l kept → is_some l.opening ≡ true →
    Grown l kept l.symbols kept.bytes kept.fin
stays l kept h opened = record { symbols_is = h.is_kept.symbols; low = h.low; end = h.end opened; ended = h.ended }

end_without_fin : (kept : LineFields) → kept.fin ≡ false → end_of kept ≡ bytes_end kept
end_without_fin kept p = ap (λ (b : Bool). bytes_end kept + (if b then 1 else 0)) p ∙ add-zero (bytes_end kept)

-- a segment that adds nothing
same_symbols : (l : Line) (kept : LineFields) (own : ℕ) (s : TcpFields) → Tied l kept → is_some l.opening ≡ true →
    has_rst s.flags ≡ false → grows kept own s ≡ false → symbols_with l own s ≡ l.symbols
same_symbols l kept own s h opened r g = by_syn (has_syn s.flags) refl
  where
    by_low : (b : Bool) → nat_le (start_of own s) (bytes_end kept) ≡ b → has_syn s.flags ≡ false →
        is_near own s ≡ true → kept.fin ≡ false → lengthen l.symbols (start_of own s) (symbols_in own s) ≡ l.symbols
    by_low true p y n f = absurd (true≢false (sym (λ i. not (y i) && (n i && (not (f i) && p i))) ∙ g))
    by_low false p y n f =
        let past : length l.symbols < start_of own s = omega (
          arith,
          leb-false (start_of own s) (bytes_end kept) p,
          h.end opened,
          end_without_fin kept f,
        ) in
        longer-past l.symbols (symbols_in own s) (start_of own s) (h.ended ∙ f) past

    by_fin : (b : Bool) → kept.fin ≡ b → has_syn s.flags ≡ false → is_near own s ≡ true →
        lengthen l.symbols (start_of own s) (symbols_in own s) ≡ l.symbols
    by_fin true f y n = longer-ended l.symbols (symbols_in own s) (start_of own s) (h.ended ∙ f)
    by_fin false f y n = by_low (nat_le (start_of own s) (bytes_end kept)) refl y n f

    by_near : (b : Bool) → is_near own s ≡ b → has_syn s.flags ≡ false →
        lengthen l.symbols (start_of own s) (symbols_in own s) ≡ l.symbols
    by_near true n y = by_fin kept.fin refl y n
    by_near false n y = ap (λ new. lengthen l.symbols (start_of own s) new) (symbols_in-far own s r y n)
        ∙ longer-nothing l.symbols (start_of own s)

    by_syn : (b : Bool) → has_syn s.flags ≡ b → (if b then l.symbols else lengthen l.symbols (start_of own s)
        (symbols_in own s)) ≡ l.symbols
    by_syn true y = refl
    by_syn false y = by_near (is_near own s) refl y

-- the symbols kept, with bytes and a FIN after them
kept-more : (kept : LineFields) (more : List ℕ) (ends : Bool) → kept.fin ≡ false →
    symbols_kept (record kept { bytes = kept.bytes ++ more; fin = ends })
    ≡ symbols_kept kept ++ (map byte more ++ fin_if ends)
kept-more kept more ends f =
    let front = syn_kept kept in
    let old = map byte kept.bytes in
    let new = map byte more in
    let plain : symbols_kept kept ≡ front ++ old = ap (λ (b : Bool). (front ++ old) ++ fin_if b) f
    ∙ append-nil (front ++ old) in
    ap (λ xs. (front ++ xs) ++ fin_if ends) (map-append byte kept.bytes more)
    ∙ (ap (λ xs. xs ++ fin_if ends) (sym (append_assoc front old new))
    ∙ (append_assoc (front ++ old) new (fin_if ends)
    ∙ sym (ap (λ xs. xs ++ (new ++ fin_if ends)) plain)))

more-ends : (bytes : List ℕ) (ends : Bool) → has_ended (map byte bytes ++ fin_if ends) ≡ ends
more-ends bytes ends = has_ended-append (map byte bytes) (fin_if ends)
    ∙ (ap (λ b. b || has_ended (fin_if ends)) (has_ended-bytes bytes) ∙ has_ended-fin_if ends)

-- a segment that adds symbols
grown_symbols : (l : Line) (kept : LineFields) (own : ℕ) (s : TcpFields) → Tied l kept → is_some l.opening ≡ true →
    has_rst s.flags ≡ false → grows kept own s ≡ true → Grown l kept (symbols_with l own s) (kept.bytes
    ++ drop (bytes_end kept - start_of own s) s.payload) (has_fin s.flags && nat_le (bytes_end kept - start_of own s)
    (length s.payload))
grown_symbols l kept own s h opened r g =
    let tests = and_parts (not (has_syn s.flags)) (is_near own s && (not kept.fin && nat_le (start_of own s)
    (bytes_end kept))) g in
    let rest = and_parts (is_near own s) (not kept.fin && nat_le (start_of own s) (bytes_end kept)) tests.1 in
    let last = and_parts (not kept.fin) (nat_le (start_of own s) (bytes_end kept)) rest.1 in
    let y : has_syn s.flags ≡ false = not-true (has_syn s.flags) tests.0 in
    let f : kept.fin ≡ false = not-true kept.fin last.0 in
    let low : start_of own s ≤ bytes_end kept = leb-true (start_of own s) (bytes_end kept) last.1 in
    let len : length l.symbols ≡ bytes_end kept = h.end opened ∙ end_without_fin kept f in
    let d = bytes_end kept - start_of own s in
    let ends = has_fin s.flags && nat_le d (length s.payload) in
    let new : List Symbol = map byte (drop d s.payload) ++ fin_if ends in
    let is : symbols_with l own s ≡ l.symbols ++ new =
    (λ i. if y i then l.symbols else lengthen l.symbols (start_of own s) (symbols_in own s))
    ∙ (ap (λ xs. lengthen l.symbols (start_of own s) xs) (symbols_in-near own s r y rest.0)
    ∙ (longer-grows l.symbols (payload_symbols s) (start_of own s) (h.ended ∙ f) (omega (arith, low, len))
    ∙ (ap (λ (n : ℕ). l.symbols ++ drop (n - start_of own s) (payload_symbols s)) len
    ∙ ap (λ xs. l.symbols ++ xs) (drop-payload d s.payload (has_fin s.flags))))) in
    record {
      symbols_is = kept-more kept (drop d s.payload) ends f ∙ (ap (λ xs. xs ++ new) h.is_kept.symbols
          ∙ (sym (drop-append-le l.base l.symbols new h.low) ∙ ap (λ xs. drop l.base xs) (sym is)));
      low = rw is (omega (arith, h.low, length-append l.symbols new));
      end = ap length is ∙ omega (
        arith,
        len,
        length-append l.symbols new,
        length-append (map byte (drop d s.payload)) (fin_if ends),
        length-map (drop d s.payload) byte,
        length-append kept.bytes (drop d s.payload),
        length-fin_if ends,
      );
      ended = ap has_ended is ∙ (has_ended-append l.symbols new ∙ (ap (λ b. b || has_ended new) (h.ended ∙ f)
          ∙ more-ends (drop d s.payload) ends));
    }

-- ONE SEGMENT

pub tied_none : Tied no_line no_fields
tied_none = record {
  is_kept = record {
    opening = refl;
    base = refl;
    symbols = refl;
    acked = refl;
    window = refl;
    mss = refl;
    mac = refl;
    reset = refl;
    refused = refl;
  };
  low = omega arith;
  end = λ e. absurd (true≢false (sym e));
  ended = refl;
  no_symbols = λ _. refl;
  no_bytes = λ _. refl;
  no_base = λ _. refl;
}

tied_opened : (l : Line) (kept : LineFields) (s : TcpFields) → Tied l kept →
    Tied (opened_line l s) (fields_opened kept s)
tied_opened l kept s h = record {
  is_kept = record {
    opening = refl;
    base = refl;
    symbols = refl;
    acked = refl;
    window = refl;
    mss = refl;
    mac = refl;
    reset = refl;
    refused = h.is_kept.refused;
  };
  low = omega arith;
  end = λ _. refl;
  ended = refl;
  no_symbols = λ e. absurd (true≢false e);
  no_bytes = λ e. absurd (true≢false e);
  no_base = λ e. absurd (true≢false e);
}

tied_refused : (l : Line) (kept : LineFields) (s : TcpFields) → Tied l kept →
    Tied (refused_line l s) (fields_refused kept s)
tied_refused l kept s h = let k = h.is_kept in record {
  is_kept = record {
    opening = k.opening;
    base = k.base;
    symbols = k.symbols;
    acked = k.acked;
    window = k.window;
    mss = k.mss;
    mac = λ i. if is_some (k.opening i) then k.mac i else s.dst_mac;
    reset = k.reset;
    refused = refl;
  };
  low = h.low;
  end = h.end;
  ended = h.ended;
  no_symbols = h.no_symbols;
  no_bytes = h.no_bytes;
  no_base = h.no_base;
}

tied_reset : (l : Line) (kept : LineFields) → Tied l kept → Tied (record l { reset = is_some l.opening })
    (fields_reset kept)
tied_reset l kept h = let k = h.is_kept in record {
  is_kept = record {
    opening = k.opening;
    base = k.base;
    symbols = k.symbols;
    acked = k.acked;
    window = k.window;
    mss = k.mss;
    mac = k.mac;
    reset = ap is_some k.opening;
    refused = k.refused;
  };
  low = h.low;
  end = h.end;
  ended = h.ended;
  no_symbols = h.no_symbols;
  no_bytes = h.no_bytes;
  no_base = h.no_base;
}

-- a line with these symbols, and what a segment acknowledges
tied_added : (l : Line) (kept : LineFields) (o : Opening) (s : TcpFields) (symbols : List Symbol) (bytes : List ℕ)
    (ends : Bool) → l.opening ≡ Some o → Tied l kept → Grown l kept symbols bytes ends →
    Tied (record l { symbols = symbols; acked = acked_after l.acked o.client s; window = window_after l.window s })
    (fields_acked (record kept { bytes = bytes; fin = ends }) o s)
tied_added l kept o s symbols bytes ends opened h g = let k = h.is_kept in record {
  is_kept = record {
    opening = k.opening;
    base = k.base;
    symbols = g.symbols_is;
    acked = ap (λ (n : ℕ). acked_after n o.client s) k.acked;
    window = ap (λ (n : ℕ). window_after n s) k.window;
    mss = k.mss;
    mac = k.mac;
    reset = k.reset;
    refused = k.refused;
  };
  low = g.low;
  end = λ _. g.end;
  ended = g.ended;
  no_symbols = λ e. absurd (true≢false (sym (ap is_some opened) ∙ e));
  no_bytes = λ e. absurd (true≢false (sym (ap is_some opened) ∙ e));
  no_base = λ e. absurd (true≢false (sym (ap is_some opened) ∙ e));
}

tied_symbols : (l : Line) (kept : LineFields) (o : Opening) (s : TcpFields) → l.opening ≡ Some o →
    has_rst s.flags ≡ false → Tied l kept → Tied (line_with l (Some o) s) (fields_with kept (Some o) s)
tied_symbols l kept o s opened r h = by (grows kept o.own s) refl
  where
    open_now : is_some l.opening ≡ true
    open_now = ap is_some opened

    by : (b : Bool) → grows kept o.own s ≡ b → Tied (line_with l (Some o) s) (fields_acked (if b then grow_fields kept
        (start_of o.own s) s else kept) o s)
    by true g = tied_added l kept o s (symbols_with l o.own s) (kept.bytes
        ++ drop (bytes_end kept - start_of o.own s) s.payload) (has_fin s.flags && nat_le
        (bytes_end kept - start_of o.own s) (length s.payload)) opened h (grown_symbols l kept o.own s h open_now r g)
    by false g = subst (λ (xs : List Symbol). Tied
        (record l { symbols = xs; acked = acked_after l.acked o.client s; window = window_after l.window s })
        (fields_acked kept o s)) (sym (same_symbols l kept o.own s h open_now r g))
        (tied_added l kept o s l.symbols kept.bytes kept.fin opened h (stays l kept h open_now))

tied_with : (l : Line) (kept : LineFields) (s : TcpFields) (o : Option Opening) → l.opening ≡ o →
    has_rst s.flags ≡ false → Tied l kept → Tied (line_with l o s) (fields_with kept o s)
tied_with l kept s None opened r h = h
tied_with l kept s (Some o) opened r h = tied_symbols l kept o s opened r h

-- what a segment leaves of a line, and of what is kept of it
pub tied_segment : (l : Line) (kept : LineFields) (s : TcpFields) → Tied l kept →
    Tied (after_segment l s) (fields_after kept s)
unfolding after_segment fields_after
tied_segment l kept s h = by_refusal (is_refusal s)
  where
    same : kept.opening ≡ l.opening
    same = h.is_kept.opening

    by_opens : (b : Bool) → opens_anew l.opening s ≡ b → has_rst s.flags ≡ false →
        Tied (if b then opened_line l s else line_with l l.opening s)
        (if opens_anew kept.opening s then fields_opened kept s else fields_with kept kept.opening s)
    by_opens true p r = subst (λ (b : Bool). Tied (opened_line l s)
        (if b then fields_opened kept s else fields_with kept kept.opening s)) (sym (ap (λ
        (o : Option Opening). opens_anew o s) same ∙ p)) (tied_opened l kept s h)
    by_opens false p r = subst (λ (b : Bool). Tied (line_with l l.opening s)
        (if b then fields_opened kept s else fields_with kept kept.opening s)) (sym (ap (λ
        (o : Option Opening). opens_anew o s) same ∙ p)) (subst (λ (o : Option Opening). Tied
        (line_with l l.opening s) (fields_with kept o s)) (sym same) (tied_with l kept s l.opening refl r h))

    by_rst : (b : Bool) → has_rst s.flags ≡ b → Tied (if b then record l { reset = is_some l.opening } else
        (if opens_anew l.opening s then opened_line l s else line_with l l.opening s))
        (if b then fields_reset kept else
        (if opens_anew kept.opening s then fields_opened kept s else fields_with kept kept.opening s))
    by_rst true r = tied_reset l kept h
    by_rst false r = by_opens (opens_anew l.opening s) refl r

    by_refusal : (b : Bool) → Tied (if b then refused_line l s else
        (if has_rst s.flags then record l { reset = is_some l.opening } else
        (if opens_anew l.opening s then opened_line l s else line_with l l.opening s)))
        (if b then fields_refused kept s else (if has_rst s.flags then fields_reset kept else
        (if opens_anew kept.opening s then fields_opened kept s else fields_with kept kept.opening s)))
    by_refusal true = tied_refused l kept s h
    by_refusal false = by_rst (has_rst s.flags) refl

-- ONE TRIM

-- the bytes and FIN that are kept, without some of the first
drop-kept : (d : ℕ) (bytes : List ℕ) (ends : Bool) → d ≤ length bytes →
    drop d (map byte bytes ++ fin_if ends) ≡ map byte (drop d bytes) ++ fin_if ends
drop-kept d bytes ends h = drop-append-le d (map byte bytes) (fin_if ends) (omega (
  arith,
  h,
  length-map bytes byte,
)) ∙ ap (λ xs. xs ++ fin_if ends) (drop-map byte d bytes)

trim_end-kept : (l : Line) (kept : LineFields) → Tied l kept → is_some l.opening ≡ true →
    trim_end l.symbols ≡ bytes_end kept
trim_end-kept l kept h opened = by kept.fin refl
  where
    by : (b : Bool) → kept.fin ≡ b → trim_end l.symbols ≡ bytes_end kept
    by true f = (λ i. if (h.ended ∙ f) i then length l.symbols - 1 else length l.symbols)
        ∙ omega (arith, h.end opened, ap (λ (b : Bool). bytes_end kept + (if b then 1 else 0)) f)
    by false f = (λ i. if (h.ended ∙ f) i then length l.symbols - 1 else length l.symbols) ∙ (h.end opened
        ∙ end_without_fin kept f)

drop-drop' : {X : Type 0} (m n : ℕ) (xs : List X) → drop n (drop m xs) ≡ drop (m + n) xs
drop-drop' zero n xs = ap (λ (k : ℕ). drop k xs) (sym (zero-add n))
drop-drop' {X} (suc m) n [] = nothing n ∙ sym (nothing (suc m + n))
  where
    nothing : (d : ℕ) → drop {A = X} d [] ≡ []
    nothing zero = refl
    nothing (suc d) = refl
drop-drop' (suc m) n (x ∷ xs) = drop-drop' m n xs ∙ ap (λ (k : ℕ). drop k (x ∷ xs)) (let e : suc (m + n)
    ≡ suc m + n = omega arith in e)

ne-eqb : (a b : ℕ) → (a ≡ b → ⊥) → (a == b) ≡ false
ne-eqb a b ne = by (a == b) refl
  where
    by : (t : Bool) → (a == b) ≡ t → t ≡ false
    by true p = absurd (ne (eqb-true a b p))
    by false p = refl

pub drop-syn : (base to : ℕ) (is_open : Bool) (xs : List Symbol) → base < to → is_open ≡ true →
    drop (to - base) ((if is_open && base == 0 then syn ∷ [] else []) ++ xs) ≡ drop (to - max base 1) xs
drop-syn base to is_open xs h o = by (base == 0) refl
  where
    by : (b : Bool) → (base == 0) ≡ b → drop (to - base) ((if is_open && base == 0 then syn ∷ [] else []) ++ xs)
        ≡ drop (to - max base 1) xs
    by true p =
        let zero : base ≡ 0 = eqb-true base 0 p in
        let count : to - base ≡ suc (to - max base 1) = omega (arith, zero, h) in
        (λ i. drop (count i) ((if o i && p i then syn ∷ [] else []) ++ xs))
    by false p =
        let count : to - base ≡ to - max base 1 = omega (arith, eqb-false base 0 p, h) in
        (λ i. drop (count i) ((if o i && p i then syn ∷ [] else []) ++ xs))

-- the symbols from a trim on
cut-symbols : (l : Line) (kept : LineFields) (to : ℕ) → Tied l kept → is_some l.opening ≡ true → to ≤ bytes_end kept →
    symbols_kept (cut kept to) ≡ drop (max l.base to) l.symbols
cut-symbols l kept to h opened within = by (nat_lt kept.base to) refl
  where
    base : kept.base ≡ l.base
    base = h.is_kept.base

    kept_open : is_some kept.opening ≡ true
    kept_open = ap is_some h.is_kept.opening ∙ opened

    by : (b : Bool) → nat_lt kept.base to ≡ b → symbols_kept (cut kept to) ≡ drop (max l.base to) l.symbols
    by false p =
        let low = ltb-false kept.base to p in
        let stays : max kept.base to ≡ kept.base = omega (arith, low) in
        let none : to - max kept.base 1 ≡ 0 = omega (arith, low) in
        (λ i. symbols_kept (record kept { base = stays i; bytes = drop (none i) kept.bytes }))
        ∙ (h.is_kept.symbols ∙ ap (λ (n : ℕ). drop n l.symbols) (let e : l.base ≡ max l.base to = omega (
          arith,
          low,
          base,
        ) in e))
    by true p =
        let high = ltb-true kept.base to p in
        let moves : max kept.base to ≡ to = omega (arith, high) in
        let some : (to == 0) ≡ false = ne-eqb to 0 (λ e. omega (arith, e, high)) in
        let d = to - max kept.base 1 in
        let old = map byte kept.bytes ++ fin_if kept.fin in
        let new = map byte (drop d kept.bytes) ++ fin_if kept.fin in
        let front : symbols_kept (cut kept to) ≡ new = (λ i. (if kept_open i &&
        (moves i == 0) then syn ∷ [] else []) ++ map byte (drop d kept.bytes) ++ fin_if kept.fin)
        ∙ (λ i. (if some i then syn ∷ [] else []) ++ map byte (drop d kept.bytes) ++ fin_if kept.fin) in
        let whole : drop (to - kept.base) (symbols_kept kept)
        ≡ drop d old = ap (λ xs. drop (to - kept.base) xs) (append_assoc (syn_kept kept) (map byte kept.bytes)
        (fin_if kept.fin)) ∙ drop-syn kept.base to (is_some kept.opening) old high kept_open in
        front
        ∙ (sym (drop-kept d kept.bytes kept.fin (omega (arith, within)))
        ∙ (sym whole
        ∙ (ap (λ xs. drop (to - kept.base) xs) h.is_kept.symbols
        ∙ (drop-drop' l.base (to - kept.base) l.symbols
        ∙ ap (λ (n : ℕ). drop n l.symbols) (let e : l.base + (to - kept.base) ≡ max l.base to = omega (
          arith,
          high,
          base,
        ) in e)))))

tied_cut : (l : Line) (kept : LineFields) (to : ℕ) → Tied l kept → is_some l.opening ≡ true → to ≤ bytes_end kept →
    Tied (record l { base = max l.base to }) (cut kept to)
tied_cut l kept to h opened within = let k = h.is_kept in record {
  is_kept = record {
    opening = k.opening;
    base = ap (λ (n : ℕ). max n to) k.base;
    symbols = cut-symbols l kept to h opened within;
    acked = k.acked;
    window = k.window;
    mss = k.mss;
    mac = k.mac;
    reset = k.reset;
    refused = k.refused;
  };
  low = omega (arith, h.low, h.end opened, within);
  end = λ _. h.end opened ∙ omega (arith, within, length-drop (to - max kept.base 1) kept.bytes);
  ended = h.ended;
  no_symbols = λ e. absurd (true≢false (sym opened ∙ e));
  no_bytes = λ e. absurd (true≢false (sym opened ∙ e));
  no_base = λ e. absurd (true≢false (sym opened ∙ e));
}

of_client-open : (o : Option Opening) (client : ℕ) → is_of_client o client ≡ true → is_some o ≡ true
of_client-open None client p = absurd (true≢false (sym p))
of_client-open (Some o) client p = refl

pub tied_trim : (l : Line) (kept : LineFields) (client to : ℕ) → Tied l kept →
    Tied (after_trim l client to) (fields_trimmed kept client to)
unfolding after_trim fields_trimmed
tied_trim l kept client to h = subst (λ (o : Option Opening). Tied
    (if is_of_client l.opening client then record l { base = max l.base (min to (trim_end l.symbols)) } else l)
    (if is_of_client o client then cut kept (min to (bytes_end kept)) else kept)) (sym h.is_kept.opening) (by
    (is_of_client l.opening client) refl)
  where
    by : (b : Bool) → is_of_client l.opening client ≡ b → Tied (if b then record l {
      base = max l.base (min to
          (trim_end l.symbols));
    } else l) (if b then cut kept (min to (bytes_end kept)) else kept)
    by true p =
        let opened = of_client-open l.opening client p in
        subst (λ (n : ℕ). Tied (record l { base = max l.base (min to n) }) (cut kept (min to (bytes_end kept)))) (sym
        (trim_end-kept l kept h opened)) (tied_cut l kept (min to (bytes_end kept)) h opened (omega arith))
    by false p = h
