-- A line as a tracker keeps it: the symbols from the base on, as bytes and a FIN. Its fields, and
-- what one segment or trim leaves.
use Rattle.std.specs.Prelude.{◌≡◌, ℕ, ◌+◌, ◌-◌, ◌<◌, Bool, false, not, ◌&&◌, ◌==◌, nat_le, max, min, is_some, if◌then◌else◌, List, [], ◌∷◌, ◌++◌, length, map, drop, Option, None, Some}
use Rattle.inet_frame.specs.Fields.{TcpFields}
use Rattle.inet_frame.specs.Flags.{has_fin, has_syn, has_rst}
use Rattle.inet_frame.specs.Options.{mss_of}
use Rattle.tcp_track.specs.declared.offsets.TheConstants.{OFFSET_BOUND}
use Rattle.tcp_track.specs.Segments.{Symbol, syn, byte, fin_if, opens_anew, opening_in, is_refusal, refused_in, start_of, is_near}
use Rattle.tcp_track.specs.Stands.{acked_after, is_of_client}
use Rattle.tcp_track.specs.Lines.{Line, no_mac, window_after}
use Rattle.tcp_track.specs.declared.openings.Opening.{Opening}

-- the bytes are those from the base on, or from offset 1 where the base is 0; the FIN follows them
pub record LineFields : Type 0 where
  pub opening : Option Opening
  pub base : ℕ
  pub bytes : List ℕ
  pub fin : Bool
  pub reset : Bool
  pub refused : Option ℕ
  pub acked : ℕ
  pub window : ℕ
  pub mss : ℕ
  pub mac : List ℕ

abbrev pub no_fields : LineFields
no_fields = record {
  opening = None;
  base = 0;
  bytes = [];
  fin = false;
  reset = false;
  refused = None;
  acked = 0;
  window = 0;
  mss = 0;
  mac = no_mac;
}

-- the offset after the last byte
abbrev pub bytes_end : LineFields → ℕ
bytes_end l = max l.base 1 + length l.bytes

-- the offset after the last symbol
abbrev pub end_of : LineFields → ℕ
end_of l = bytes_end l + (if l.fin then 1 else 0)

-- SYN where it is not trimmed
abbrev pub syn_kept : LineFields → List Symbol
syn_kept l = if is_some l.opening && l.base == 0 then syn ∷ [] else []

-- the symbols from the base on
abbrev pub symbols_kept : LineFields → List Symbol
symbols_kept l = syn_kept l ++ map byte l.bytes ++ fin_if l.fin

-- the offsets are below the bound, and without an opening there are no symbols
pub record IsWithin (l : LineFields) : Type 0 where
  pub end : end_of l < OFFSET_BOUND
  pub acked : l.acked < OFFSET_BOUND
  pub no_bytes : is_some l.opening ≡ false → l.bytes ≡ []
  pub no_fin : is_some l.opening ≡ false → l.fin ≡ false

-- What is kept of a line: all beside its symbols, and these without the trimmed ones.
pub record IsKept (l : Line) (kept : LineFields) : Type 0 where
  pub opening : kept.opening ≡ l.opening
  pub base : kept.base ≡ l.base
  pub symbols : symbols_kept kept ≡ drop l.base l.symbols
  pub acked : kept.acked ≡ l.acked
  pub window : kept.window ≡ l.window
  pub mss : kept.mss ≡ l.mss
  pub mac : kept.mac ≡ l.mac
  pub reset : kept.reset ≡ l.reset
  pub refused : kept.refused ≡ l.refused

-- an opening clears all but the last refusal
abbrev pub fields_opened : LineFields → TcpFields → LineFields
fields_opened l s = record {
  opening = Some (opening_in s);
  base = 0;
  bytes = [];
  fin = false;
  reset = false;
  refused = l.refused;
  acked = acked_after 0 (opening_in s).client s;
  window = s.window;
  mss = mss_of s.options;
  mac = s.dst_mac;
}

abbrev pub fields_refused : LineFields → TcpFields → LineFields
fields_refused l s = record l {
  refused = Some
      (refused_in s);
  mac = if is_some l.opening then l.mac else s.dst_mac;
}

abbrev pub fields_reset : LineFields → LineFields
fields_reset l = record l { reset = is_some l.opening }

-- a segment that has bytes or FIN from an offset at or before the end on, which is not after a FIN
abbrev pub grows : LineFields → ℕ → TcpFields → Bool
grows l own s = not (has_syn s.flags) && (is_near own s && (not l.fin && nat_le (start_of own s)
    (bytes_end l)))

abbrev pub grow_fields : LineFields → ℕ → TcpFields → LineFields
grow_fields l from s = record l {
  bytes = l.bytes ++ drop
      (bytes_end l - from) s.payload;
  fin = has_fin s.flags && nat_le (bytes_end l - from)
      (length s.payload);
}

abbrev pub fields_acked : LineFields → Opening → TcpFields → LineFields
fields_acked l o s = record l {
  acked = acked_after l.acked o.client s;
  window = window_after l.window s;
}

abbrev pub fields_with : LineFields → Option Opening → TcpFields → LineFields
fields_with l None s = l
fields_with l (Some o) s = fields_acked (if grows l o.own s then grow_fields l
    (start_of o.own s) s else l) o s

-- what a segment on the line's tuple leaves
unfoldable pub fields_after : LineFields → TcpFields → LineFields
fields_after l s =
    if is_refusal s then fields_refused l s
    else (if has_rst s.flags then fields_reset l
    else (if opens_anew l.opening s then fields_opened l s else fields_with l l.opening s))

-- with the symbols below an offset forgotten, but never FIN
abbrev pub cut : LineFields → ℕ → LineFields
cut l to = record l { base = max l.base to; bytes = drop (to - max l.base 1) l.bytes }

-- what a trim leaves
unfoldable pub fields_trimmed : LineFields → ℕ → ℕ → LineFields
fields_trimmed l client to = if is_of_client l.opening client then cut l (min to
    (bytes_end l)) else l
