-- What a line is, whatever was sent and trimmed (RFC 9293, 3.4).
use Rattle.std.specs.Prelude.{◌≡◌, ◌<◌, ◌≤◌, ℕ, Bool, true, false, is_some, List, ◌∷◌, ◌++◌, length, map}
use Rattle.inet_frame.specs.declared.tuple.Tuple.{Tuple}
use Rattle.tcp_track.specs.Lines.{Item, Line, no_line, has_ended, line, trim_end}
use Rattle.tcp_track.specs.Segments.{Symbol, syn, byte, fin_if}
use Rattle.tcp_track.specs.declared.offsets.TheConstants.{OFFSET_BOUND}
use Rattle.settle_rules.specs.Release.{bytes_in}

-- SYN, bytes, and FIN where the line ended
abbrev pub whole_symbols : List ℕ → Bool → List Symbol
whole_symbols bytes ends = syn ∷ map byte bytes ++ fin_if ends

-- A line with an opening is SYN, its bytes, and FIN at the end alone; without one it has nothing
-- but a refusal, with its destination. It is short enough for offsets, a trim goes to its end and
-- not past FIN, and so near is its acknowledgement.
pub record IsSound (l : Line) : Type 0 where
  pub opened : is_some l.opening ≡ true
      → l.symbols ≡ whole_symbols (bytes_in l.symbols) (has_ended l.symbols)
  pub unopened : is_some l.opening ≡ false → l ≡ record no_line { refused = l.refused; mac = l.mac }
  pub near : length l.symbols < OFFSET_BOUND
  pub trimmed : l.base ≤ trim_end l.symbols
  pub acked : l.acked < OFFSET_BOUND

abbrev pub LinesAreSound : Type 0
LinesAreSound = (items : List Item) (t : Tuple) → IsSound (line t items)
