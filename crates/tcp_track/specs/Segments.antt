-- What a segment of the guest is to a connection: which it opens or refuses, and the symbols that
-- it carries (RFC 9293, 3.4 and 3.5).
use Rattle.std.specs.Prelude.{ℕ, ◌+◌, ◌-◌, Bool, true, false, not, ◌&&◌, ◌==◌, nat_lt, if◌then◌else◌, List, [], ◌∷◌, ◌++◌, length, map, slice_get, Option, None, Some}
use Rattle.inet_frame.specs.Fields.{TcpFields}
use Rattle.inet_frame.specs.Flags.{has_fin, has_syn, has_rst, has_ack}
use Rattle.inet_frame.specs.declared.tuple.Tuple.{Tuple}
use Rattle.tcp_track.specs.Offsets.{distance}
use Rattle.tcp_track.specs.declared.offsets.TheConstants.{OFFSET_BOUND}
use Rattle.tcp_track.specs.declared.openings.Opening.{Opening}

abbrev pub same_tuple : Tuple → Tuple → Bool
same_tuple a b = a.addr == b.addr && (a.port == b.port && a.guest == b.guest)

-- one symbol of a stream: its sequence number is the stream's first plus the symbol's offset
pub data Symbol : Type 0 where
  syn : Symbol
  byte : ℕ → Symbol
  fin : Symbol

abbrev pub same_symbol : Symbol → Symbol → Bool
same_symbol syn syn = true
same_symbol (byte a) (byte b) = a == b
same_symbol fin fin = true
same_symbol _ _ = false

abbrev pub same_opening : Option Opening → Opening → Bool
same_opening None p = false
same_opening (Some o) p = o.client == p.client && o.own == p.own

-- a segment with SYN and ACK and without RST
unfoldable pub may_open : TcpFields → Bool
may_open s = has_syn s.flags && (has_ack s.flags && not (has_rst s.flags))

-- the client's number is the acknowledgement less 1, the guest's is the sequence number
abbrev pub opening_in : TcpFields → Opening
opening_in s = record { client = distance 1 s.ack; own = s.seq }

-- a segment that opens, and not the opening that stands already
abbrev pub opens_anew : Option Opening → TcpFields → Bool
opens_anew current s = may_open s && not (same_opening current (opening_in s))

-- a segment with RST and ACK and sequence number 0
unfoldable pub is_refusal : TcpFields → Bool
is_refusal s = has_rst s.flags && (has_ack s.flags && s.seq == 0)

-- the client's number that a refusal names
abbrev pub refused_in : TcpFields → ℕ
refused_in s = distance 1 s.ack

-- FIN where a segment has it
abbrev pub fin_if : Bool → List Symbol
fin_if has = if has then fin ∷ [] else []

-- the payload's bytes in order and then FIN
abbrev pub payload_symbols : TcpFields → List Symbol
payload_symbols s = map byte s.payload ++ fin_if (has_fin s.flags)

-- the offset of a segment's first symbol, where the guest's number is own
abbrev pub start_of : ℕ → TcpFields → ℕ
start_of own s = distance own s.seq

-- the offset after a segment's last symbol is below the bound
unfoldable pub is_near : ℕ → TcpFields → Bool
is_near own s = nat_lt (start_of own s + length (payload_symbols s)) OFFSET_BOUND

-- SYN where a segment has the connection's own
abbrev pub syn_if : Bool → List Symbol
syn_if has = if has then syn ∷ [] else []

-- the symbols that a segment carries on a connection whose guest's number is own; payload beside a
-- SYN is ignored
unfoldable pub symbols_in : ℕ → TcpFields → List Symbol
symbols_in own s =
    if has_rst s.flags then []
    else (if has_syn s.flags then syn_if (s.seq == own)
    else (if is_near own s then payload_symbols s else []))

-- the symbol that a segment carries at an offset
abbrev pub symbol_in : ℕ → TcpFields → ℕ → Option Symbol
symbol_in own s o = if nat_lt o (start_of own s) then None else slice_get (symbols_in own s)
    (o - start_of own s)
