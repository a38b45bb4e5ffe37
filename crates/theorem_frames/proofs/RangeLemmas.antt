-- The fields of a line are in their ranges where those of all segments sent are.
use Rattle.std.proofs.Common.{subst}
use Rattle.std.proofs.Common.{◌≡◌, ℕ, ◌-◌, ◌<◌, ◌^◌, zero, suc, Bool, true, false, not, ◌&&◌, ◌||◌, ◌==◌, nat_lt, max, min, is_some, if◌then◌else◌, List, [], ◌∷◌, ◌++◌, length, take, drop, map, fold, Option, None, Some, refl, arith, All}
use Rattle.std.specs.List.{find, list_any}
use Rattle.std.proofs.lemmas.Bool.{cond_both}
use Rattle.std.proofs.lemmas.List.Elements.{All-append, All-cons, All-drop, All-from_get_or, All-head, All-map, All-nil, All-push, All-tail}
use Rattle.inet_frame.specs.Counted.{tuple_of}
use Rattle.inet_frame.specs.Fields.{TcpFields}
use Rattle.inet_frame.specs.Flags.{has_ack, has_fin, has_rst, has_syn}
use Rattle.inet_frame.specs.Laws.{AreInRange}
use Rattle.inet_frame.specs.Options.{is_mss, mss_of, mss_value, option_len, options_of, options_within}
use Rattle.inet_frame.specs.declared.tuple.Tuple.{Tuple}
use Rattle.shared_definitions.specs.Bytes.{AreBytes}
use Rattle.shared_definitions.proofs.ByteLemmas.{AreBytes-drop, AreBytes-take, AreBytes-zeros}
use Rattle.tcp_track.specs.Lines.{Item, sent, trim, commit, Line, no_line, has_ended, opened_line, refused_line, lengthen, line_with, after_segment, trim_end, after_trim, line_after, line, order, order_after, sent_of}
use Rattle.tcp_track.specs.Segments.{Symbol, syn, byte, fin, fin_if, syn_if, same_tuple, opening_in, opens_anew, may_open, is_near, is_refusal, payload_symbols, start_of, symbols_in}
use Rattle.tcp_track.specs.Stands.{is_of_client, opening_after, opening_of}
use Rattle.tcp_track.specs.declared.openings.Opening.{Opening}
use Rattle.tcp_track.proofs.SymbolLemmas.{line_fits}
use Rattle.theorem_frames.specs.Shapes.{AreSentInRange}

-- a byte of a stream is a byte
abbrev pub SymbolFits : Symbol → Type 0
SymbolFits syn = Unit {0}
SymbolFits (byte b) = b < 256
SymbolFits fin = Unit {0}

pub record IsInRange (l : Line) : Type 0 where
  pub mac_len : length l.mac ≡ 6
  pub mac : AreBytes l.mac
  pub window : l.window < 2 ^ 16
  pub mss : l.mss < 2 ^ 16
  pub symbols : All SymbolFits l.symbols

pub record TupleFits (t : Tuple) : Type 0 where
  pub addr : t.addr < 2 ^ 32
  pub port : t.port < 2 ^ 16
  pub guest : t.guest < 2 ^ 16

-- THE MAXIMUM SEGMENT SIZE
options_bytes : (n : ℕ) (bytes : List ℕ) → AreBytes bytes → All AreBytes (options_within n bytes)
options_bytes zero bytes h = All-nil AreBytes
options_bytes (suc n) bytes h =
    let len = option_len bytes in
    cond_both (len == 0) [] (take len bytes ∷ options_within n (drop len bytes)) (All AreBytes)
    (λ e. All-nil AreBytes)
    (λ e. All-cons AreBytes (take len bytes) (options_within n (drop len bytes)) (AreBytes-take len bytes h)
    (options_bytes n (drop len bytes) (AreBytes-drop len bytes h)))

option_value : (option : List ℕ) → AreBytes option → mss_value (Some option) < 2 ^ 16
option_value option h = omega (arith, h 2, h 3)

found_value : (options : List (List ℕ)) → All AreBytes options → mss_value (find is_mss options) < 2 ^ 16
found_value [] h = omega arith
found_value (option ∷ options) h =
    cond_both (is_mss option) (Some option) (find is_mss options) (λ (o : Option (List ℕ)). mss_value o < 2 ^ 16)
    (λ e. option_value option (All-head AreBytes option options h))
    (λ e. found_value options (All-tail AreBytes option options h))

mss_fits : (bytes : List ℕ) → AreBytes bytes → mss_of bytes < 2 ^ 16
unfolding options_of
mss_fits bytes h = found_value (options_within (length bytes) bytes) (options_bytes (length bytes) bytes h)

-- SYMBOLS
fin_fits : (b : Bool) → All SymbolFits (fin_if b)
fin_fits true = All-cons SymbolFits fin [] tt (All-nil SymbolFits)
fin_fits false = All-nil SymbolFits

syn_fits : (b : Bool) → All SymbolFits (syn_if b)
syn_fits true = All-cons SymbolFits syn [] tt (All-nil SymbolFits)
syn_fits false = All-nil SymbolFits

payload_fits : (s : TcpFields) → AreInRange s → All SymbolFits (payload_symbols s)
payload_fits s h =
    All-append SymbolFits (map byte s.payload) (fin_if (has_fin s.flags))
    (All-map SymbolFits byte s.payload (All-from_get_or (λ (b : ℕ). b < 256) s.payload 0 (λ i l. h.payload i)))
    (fin_fits (has_fin s.flags))

carried_fit : (own : ℕ) (s : TcpFields) → AreInRange s → All SymbolFits (symbols_in own s)
unfolding symbols_in
carried_fit own s h =
    cond_both (has_rst s.flags) []
    (if has_syn s.flags then syn_if (s.seq == own) else (if is_near own s then payload_symbols s else []))
    (All SymbolFits) (λ e. All-nil SymbolFits)
    (λ e. cond_both (has_syn s.flags) (syn_if (s.seq == own)) (if is_near own s then payload_symbols s else [])
    (All SymbolFits) (λ f. syn_fits (s.seq == own))
    (λ f. cond_both (is_near own s) (payload_symbols s) [] (All SymbolFits) (λ g. payload_fits s h)
    (λ g. All-nil SymbolFits)))

longer_fits : (xs : List Symbol) (from : ℕ) (new : List Symbol) → All SymbolFits xs → All SymbolFits new →
    All SymbolFits (lengthen xs from new)
longer_fits xs from new h g =
    cond_both (has_ended xs || nat_lt (length xs) from) xs (xs ++ drop (length xs - from) new) (All SymbolFits)
    (λ e. h)
    (λ e. All-append SymbolFits xs (drop (length xs - from) new) h (All-drop SymbolFits (length xs - from) new g))

-- THE LINE
none_in_range : IsInRange no_line
none_in_range = record {
  mac_len = refl;
  mac = AreBytes-zeros 6;
  window = omega arith;
  mss = omega arith;
  symbols = All-nil SymbolFits;
}

refused_in_range : (l : Line) (s : TcpFields) → AreInRange s → IsInRange l → IsInRange (refused_line l s)
refused_in_range l s h g = by (is_some l.opening)
  where
    by : (b : Bool) → IsInRange (record (refused_line l s) { mac = if b then l.mac else s.dst_mac })
    by true = record {
      mac_len = g.mac_len;
      mac = g.mac;
      window = g.window;
      mss = g.mss;
      symbols = g.symbols;
    }
    by false = record {
      mac_len = h.dst_mac_len;
      mac = h.dst_mac;
      window = g.window;
      mss = g.mss;
      symbols = g.symbols;
    }

opened_in_range : (l : Line) (s : TcpFields) → AreInRange s → IsInRange (opened_line l s)
opened_in_range l s h = record {
  mac_len = h.dst_mac_len;
  mac = h.dst_mac;
  window = h.window;
  mss = mss_fits s.options h.options;
  symbols = All-cons SymbolFits syn [] tt (All-nil SymbolFits);
}

window_in_range : (window : ℕ) (s : TcpFields) → AreInRange s → window < 2 ^ 16 →
    (if has_ack s.flags then s.window else window) < 2 ^ 16
window_in_range window s h g =
    cond_both (has_ack s.flags) s.window window (λ (n : ℕ). n < 2 ^ 16) (λ e. h.window) (λ e. g)

with_in_range : (l : Line) (o : Option Opening) (s : TcpFields) → AreInRange s → IsInRange l →
    IsInRange (line_with l o s)
with_in_range l None s h g = g
with_in_range l (Some o) s h g = record {
  mac_len = g.mac_len;
  mac = g.mac;
  window = window_in_range l.window s h g.window;
  mss = g.mss;
  symbols =
      cond_both (has_syn s.flags) l.symbols (lengthen l.symbols (start_of o.own s) (symbols_in o.own s))
      (All SymbolFits) (λ e. g.symbols)
      (λ e. longer_fits l.symbols (start_of o.own s) (symbols_in o.own s) g.symbols (carried_fit o.own s h));
}

segment_in_range : (l : Line) (s : TcpFields) → AreInRange s → IsInRange l → IsInRange (after_segment l s)
unfolding after_segment
segment_in_range l s h g =
    cond_both (is_refusal s) (refused_line l s)
    (if has_rst s.flags then record l { reset = is_some l.opening } else
    (if opens_anew l.opening s then opened_line l s else line_with l l.opening s)) IsInRange
    (λ e. refused_in_range l s h g)
    (λ e. cond_both (has_rst s.flags) (record l { reset = is_some l.opening })
    (if opens_anew l.opening s then opened_line l s else line_with l l.opening s) IsInRange
    (λ f. record { mac_len = g.mac_len; mac = g.mac; window = g.window; mss = g.mss; symbols = g.symbols })
    (λ f. cond_both (opens_anew l.opening s) (opened_line l s) (line_with l l.opening s) IsInRange
    (λ k. opened_in_range l s h) (λ k. with_in_range l l.opening s h g)))

trim_in_range : (l : Line) (client to : ℕ) → IsInRange l → IsInRange (after_trim l client to)
unfolding after_trim
trim_in_range l client to g =
    cond_both (is_of_client l.opening client) (record l { base = max l.base (min to (trim_end l.symbols)) }) l
    IsInRange
    (λ e. record { mac_len = g.mac_len; mac = g.mac; window = g.window; mss = g.mss; symbols = g.symbols })
    (λ e. g)

all_in_range : (t : Tuple) (l : Line) (items : List Item) → AreSentInRange items → IsInRange l →
    IsInRange (fold (line_after t) l items)
unfolding line_after
all_in_range t l [] h g = g
all_in_range t l (sent s ∷ items) h g =
    all_in_range t (line_after t l (sent s)) items (All-tail AreInRange s (sent_of items) h)
    (cond_both (same_tuple (tuple_of s) t) (after_segment l s) l IsInRange
    (λ e. segment_in_range l s (All-head AreInRange s (sent_of items) h) g) (λ e. g))
all_in_range t l (trim u client to ∷ items) h g =
    all_in_range t (line_after t l (trim u client to)) items h
    (cond_both (same_tuple u t) (after_trim l client to) l IsInRange (λ e. trim_in_range l client to g) (λ e. g))
all_in_range t l (commit ∷ items) h g = all_in_range t l items h g

pub line_in_range : (items : List Item) (t : Tuple) → AreSentInRange items → IsInRange (line t items)
unfolding line
line_in_range items t h = all_in_range t no_line items h none_in_range

-- THE TUPLES
tuple_fits : (s : TcpFields) → AreInRange s → TupleFits (tuple_of s)
tuple_fits s h = record { addr = h.dst; port = h.dport; guest = h.sport }

ordered_fit : (tuples : List Tuple) (said : List TcpFields) → All AreInRange said → All TupleFits tuples →
    All TupleFits (fold order_after tuples said)
unfolding order_after
ordered_fit tuples [] h g = g
ordered_fit tuples (s ∷ said) h g =
    ordered_fit (order_after tuples s) said (All-tail AreInRange s said h)
    (cond_both ((may_open s || is_refusal s) && not (list_any (same_tuple (tuple_of s)) tuples)) (tuples
    ++ tuple_of s ∷ []) tuples (All TupleFits)
    (λ e. All-push TupleFits tuples (tuple_of s) g (tuple_fits s (All-head AreInRange s said h))) (λ e. g))

pub order_fits : (items : List Item) → AreSentInRange items → All TupleFits (order items)
unfolding order
order_fits items h = ordered_fit [] (sent_of items) h (All-nil TupleFits)

-- THE OPENINGS
abbrev pub OpeningFits : Option Opening → Type 0
OpeningFits None = Unit {0}
OpeningFits (Some o) = (o.client < 2 ^ 32) × (o.own < 2 ^ 32)

openings_fit : (t : Tuple) (current : Option Opening) (said : List TcpFields) → All AreInRange said →
    OpeningFits current → OpeningFits (fold (opening_after t) current said)
openings_fit t current [] h g = g
openings_fit t current (s ∷ said) h g =
    openings_fit t (opening_after t current s) said (All-tail AreInRange s said h)
    (cond_both (same_tuple (tuple_of s) t && may_open s) (Some (opening_in s)) current OpeningFits
    (λ e. (omega arith, (All-head AreInRange s said h).seq)) (λ e. g))

pub opening_fits : (items : List Item) (t : Tuple) → AreSentInRange items → OpeningFits (line t items).opening
unfolding opening_of
opening_fits items t h =
    subst OpeningFits (line_fits t items).opened (openings_fit t None (sent_of items) h tt)
