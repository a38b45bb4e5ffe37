-- The line of a tuple: the symbols of its current opening, folded over all segments sent and all
-- trims taken.
use Rattle.std.specs.Prelude.{ℕ, ◌-◌, Bool, false, not, ◌&&◌, ◌||◌, nat_lt, max, min, is_some, if◌then◌else◌, List, [], ◌∷◌, ◌++◌, length, drop, fold, filter_map, Option, None, Some}
use Rattle.std.specs.List.{list_any}
use Rattle.inet_frame.specs.Counted.{tuple_of}
use Rattle.inet_frame.specs.Fields.{TcpFields}
use Rattle.inet_frame.specs.Flags.{has_syn, has_rst, has_ack}
use Rattle.inet_frame.specs.Options.{mss_of}
use Rattle.inet_frame.specs.declared.tuple.Tuple.{Tuple}
use Rattle.tcp_track.specs.Segments.{Symbol, syn, fin, same_symbol, same_tuple, may_open, opens_anew, opening_in, is_refusal, refused_in, symbols_in, start_of}
use Rattle.tcp_track.specs.Stands.{acked_after, is_of_client}
use Rattle.tcp_track.specs.declared.openings.Opening.{Opening}

-- what a run leaves, in order: the segments that count, the trims taken between them, and the
-- commits
pub data Item : Type 0 where
  sent : TcpFields → Item
  trim : Tuple → ℕ → ℕ → Item
  commit : Item

-- a line: its symbols from offset 0 on, the offset below which they are trimmed, and what stands
-- beside them
pub record Line : Type 0 where
  pub opening : Option Opening
  pub symbols : List Symbol
  pub base : ℕ
  pub acked : ℕ
  pub window : ℕ
  pub mss : ℕ
  pub mac : List ℕ
  pub reset : Bool
  pub refused : Option ℕ

abbrev pub no_mac : List ℕ
no_mac = 0 ∷ 0 ∷ 0 ∷ 0 ∷ 0 ∷ 0 ∷ []

abbrev pub no_line : Line
no_line = record {
  opening = None;
  symbols = [];
  base = 0;
  acked = 0;
  window = 0;
  mss = 0;
  mac = no_mac;
  reset = false;
  refused = None;
}

-- a FIN is among the symbols
abbrev pub has_ended : List Symbol → Bool
has_ended symbols = list_any (same_symbol fin) symbols

-- an opening clears all but the last refusal
abbrev pub opened_line : Line → TcpFields → Line
opened_line l s = record {
  opening = Some (opening_in s);
  symbols = syn ∷ [];
  base = 0;
  acked = acked_after 0 (opening_in s).client s;
  window = s.window;
  mss = mss_of s.options;
  mac = s.dst_mac;
  reset = false;
  refused = l.refused;
}

-- the destination of a refusal counts only where no opening gave one
abbrev pub refused_line : Line → TcpFields → Line
refused_line l s = record l {
  refused = Some
      (refused_in s);
  mac = if is_some l.opening then l.mac else s.dst_mac;
}

-- what a segment adds that carries symbols from an offset on: nothing after FIN, nothing where it
-- starts past the end, else its symbols from the end on
abbrev pub lengthen : List Symbol → ℕ → List Symbol → List Symbol
lengthen symbols from new = if has_ended symbols || nat_lt
    (length symbols) from then symbols else symbols ++ drop (length symbols - from) new

-- the window of a segment with ACK
abbrev pub window_after : ℕ → TcpFields → ℕ
window_after window s = if has_ack s.flags then s.window else window

-- a segment without RST that opens nothing new; without an opening it is ignored, and a repeated
-- SYN adds nothing
abbrev pub line_with : Line → Option Opening → TcpFields → Line
line_with l None s = l
line_with l
    (Some o) s = record l {
      symbols = if has_syn s.flags then l.symbols else lengthen l.symbols
          (start_of o.own s)
          (symbols_in o.own s);
      acked = acked_after l.acked o.client s;
      window = window_after l.window s;
    }

-- the line after a segment on its tuple: a refusal, a reset of the opening, an opening, or symbols
unfoldable pub after_segment : Line → TcpFields → Line
after_segment l s =
    if is_refusal s then refused_line l s
    else (if has_rst s.flags then record l { reset = is_some l.opening }
    else (if opens_anew l.opening s then opened_line l s else line_with l l.opening s))

-- how far a trim goes at most: to the line's end, and never past a FIN
abbrev pub trim_end : List Symbol → ℕ
trim_end symbols = if has_ended symbols then length symbols - 1 else length symbols

-- the line after a trim, which counts for the client of the opening alone
unfoldable pub after_trim : Line → ℕ → ℕ → Line
after_trim l client to = if is_of_client l.opening client then record l {
  base = max l.base
      (min to (trim_end l.symbols));
} else l

unfoldable pub line_after : Tuple → Line → Item → Line
unfolding after_segment after_trim
line_after t l (sent s) = if same_tuple (tuple_of s) t then after_segment l s else l
line_after t l (trim u client to) = if same_tuple u t then after_trim l client to else l
line_after t l commit = l

unfoldable pub line : Tuple → List Item → Line
unfolding line_after
line t items = fold (line_after t) no_line items

abbrev pub segment_of : Item → Option TcpFields
segment_of (sent s) = Some s
segment_of (trim _ _ _) = None
segment_of commit = None

-- the segments among the items
abbrev pub sent_of : List Item → List TcpFields
sent_of items = filter_map segment_of items

-- the tuples in the order of first opening or refusal
unfoldable pub order_after : List Tuple → TcpFields → List Tuple
order_after tuples s = if (may_open s || is_refusal s) && not (list_any (same_tuple
    (tuple_of s)) tuples) then tuples ++ tuple_of s ∷ [] else tuples

unfoldable pub order : List Item → List Tuple
unfolding order_after
order items = fold order_after [] (sent_of items)
