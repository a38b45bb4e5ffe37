-- A line is trimmed at most to its end, and not at all without an opening.
use Rattle.std.proofs.Common.{◌≡◌, ℕ, ◌-◌, ◌≤◌, Bool, true, false, ◌||◌, nat_lt, max, min, is_some, if◌then◌else◌, List, [], ◌++◌, drop, length, Option, None, Some, refl, sym, ◌∙◌, true≢false, arith, length-append}
use Rattle.inet_frame.specs.Counted.{tuple_of}
use Rattle.inet_frame.specs.Fields.{TcpFields}
use Rattle.inet_frame.specs.Flags.{has_rst, has_syn}
use Rattle.inet_frame.specs.declared.tuple.Tuple.{Tuple}
use Rattle.tcp_track.specs.Lines.{Item, sent, trim, commit, Line, no_line, after_segment, after_trim, has_ended, line, line_after, line_with, lengthen, opened_line, refused_line, trim_end}
use Rattle.tcp_track.specs.Segments.{Symbol, is_refusal, opens_anew, same_tuple, start_of, symbols_in}
use Rattle.tcp_track.specs.Stands.{is_of_client}
use Rattle.tcp_track.specs.declared.openings.Opening.{Opening}
use Rattle.tcp_track.proofs.SymbolLemmas.{after_all}

pub record IsLow (l : Line) : Type 0 where
  pub low : l.base ≤ length l.symbols
  pub closed : is_some l.opening ≡ false → l.base ≡ 0

longer_more : (symbols : List Symbol) (from : ℕ) (new : List Symbol) →
    length symbols ≤ length (lengthen symbols from new)
longer_more symbols from new = by (has_ended symbols || nat_lt (length symbols) from)
  where
    by : (b : Bool) → length symbols ≤ length (if b then symbols else symbols ++ drop (length symbols - from) new)
    by true = omega arith
    by false = omega (arith, length-append symbols (drop (length symbols - from) new))

with_more : (b : Bool) (symbols : List Symbol) (from : ℕ) (new : List Symbol) →
    length symbols ≤ length (if b then symbols else lengthen symbols from new)
with_more true symbols from new = omega arith
with_more false symbols from new = longer_more symbols from new

low_with : (l : Line) (o : Option Opening) (s : TcpFields) → IsLow l → IsLow (line_with l o s)
low_with l None s h = h
low_with l (Some o) s h = record {
  low = let more = with_more (has_syn s.flags) l.symbols (start_of o.own s) (symbols_in o.own s) in
      omega (arith, more, h.low);
  closed = h.closed;
}

low_opened : (l : Line) (s : TcpFields) → IsLow (opened_line l s)
low_opened l s = record { low = omega arith; closed = λ _. refl }

low_segment : (l : Line) (s : TcpFields) → IsLow l → IsLow (after_segment l s)
unfolding after_segment
low_segment l s h = by_refusal (is_refusal s)
  where
    by_opens : (b : Bool) → IsLow (if b then opened_line l s else line_with l l.opening s)
    by_opens true = low_opened l s
    by_opens false = low_with l l.opening s h

    by_rst : (b : Bool) → IsLow (if b then record l { reset = is_some l.opening } else
        (if opens_anew l.opening s then opened_line l s else line_with l l.opening s))
    by_rst true = record { low = h.low; closed = h.closed }
    by_rst false = by_opens (opens_anew l.opening s)

    by_refusal : (b : Bool) → IsLow (if b then refused_line l s else
        (if has_rst s.flags then record l { reset = is_some l.opening } else
        (if opens_anew l.opening s then opened_line l s else line_with l l.opening s)))
    by_refusal true = record { low = h.low; closed = h.closed }
    by_refusal false = by_rst (has_rst s.flags)

trim_at_most : (symbols : List Symbol) → trim_end symbols ≤ length symbols
trim_at_most symbols = by (has_ended symbols)
  where
    by : (b : Bool) → (if b then length symbols - 1 else length symbols) ≤ length symbols
    by true = omega arith
    by false = omega arith

none_of_client : (o : Option Opening) (client : ℕ) → is_of_client o client ≡ true → is_some o ≡ true
none_of_client None client e = absurd (true≢false (sym e))
none_of_client (Some o) client e = refl

low_trim : (l : Line) (client to : ℕ) → IsLow l → IsLow (after_trim l client to)
unfolding after_trim
low_trim l client to h = by (is_of_client l.opening client) refl
  where
    by : (b : Bool) → is_of_client l.opening client ≡ b →
        IsLow (if b then record l { base = max l.base (min to (trim_end l.symbols)) } else l)
    by true e = record {
      low = omega (arith, h.low, trim_at_most l.symbols);
      closed = λ none. absurd (true≢false (sym (none_of_client l.opening client e) ∙ none));
    }
    by false e = h

low_item : (t : Tuple) (l : Line) (i : Item) → IsLow l → IsLow (line_after t l i)
unfolding line_after
low_item t l (sent s) h = by (same_tuple (tuple_of s) t)
  where
    by : (b : Bool) → IsLow (if b then after_segment l s else l)
    by true = low_segment l s h
    by false = h
low_item t l (trim u client to) h = by (same_tuple u t)
  where
    by : (b : Bool) → IsLow (if b then after_trim l client to else l)
    by true = low_trim l client to h
    by false = h
low_item t l commit h = h

pub line_low : (t : Tuple) (items : List Item) → IsLow (line t items)
unfolding line
line_low t items = after_all t (λ (said : List TcpFields) (l : Line). IsLow l)
    (λ (said : List TcpFields) (l : Line) (i : Item) (h : IsLow l). low_item t l i h) [] no_line items
    (record { low = omega arith; closed = λ _. refl })
