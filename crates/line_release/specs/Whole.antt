-- The whole line of which a tracker keeps the symbols from the base on.
use Rattle.std.specs.Prelude.{ℕ, Bool, is_some, if◌then◌else◌, ◌-◌, List, [], ◌∷◌, ◌++◌, map, take, drop}
use Rattle.std.specs.List.{range_with_len}
use Rattle.tcp_track.specs.Segments.{Symbol, byte}
use Rattle.tcp_track.specs.Lines.{Line}
use Rattle.tcp_track.specs.LineFields.{LineFields, symbols_kept}

-- the trimmed symbols are forgotten, and nothing reads them: zero bytes stand in their place
abbrev pub forgotten : LineFields → List Symbol
forgotten l = if is_some l.opening then map (λ (k : ℕ). byte 0) (range_with_len 0 l.base) else []

-- the line that is kept, with its symbols from offset 0 on
abbrev pub whole_of : LineFields → Line
whole_of l = record {
  opening = l.opening;
  symbols = forgotten l ++ symbols_kept l;
  base = l.base;
  acked = l.acked;
  window = l.window;
  mss = l.mss;
  mac = l.mac;
  reset = l.reset;
  refused = l.refused;
}

-- the symbols of a line from one offset up to another
abbrev pub symbols_between : LineFields → ℕ → ℕ → List Symbol
symbols_between l from to = take (to - from) (drop from (whole_of l).symbols)
