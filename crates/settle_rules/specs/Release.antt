-- Released segments: agreed symbols cut into segments, and segments without symbols (RFC 9293, 3.1
-- and 3.5).
use Rattle.std.specs.Prelude.{ℕ, ◌+◌, ◌-◌, ◌*◌, ◌%◌, ◌^◌, Bool, true, false, ◌&&◌, nat_le, max, min, if◌then◌else◌, List, [], ◌∷◌, ◌++◌, length, take, drop, map, filter_map, Option, None, Some}
use Rattle.std.specs.List.{list_any, enumerate_from}
use Rattle.inet_build.specs.Segment.{segment_bytes, ipv4_header, tcp_header}
use Rattle.inet_build.specs.declared.fields.Segment.{Segment}
use Rattle.tcp_track.specs.Segments.{Symbol, syn, byte, fin, same_symbol}
use Rattle.settle_rules.specs.Matching.{BothLines, agreed_ack, agreed_window}
use Rattle.settle_rules.specs.Pieces.{pieces_of}

-- what goes out to the client: a segment of these fields and this payload, or the bytes of an ARP
-- reply
pub data Released : Type 0 where
  tcp : Segment → List ℕ → Released
  reply : List ℕ → Released

-- the frame that goes out
unfoldable pub released_frame : Released → List ℕ
unfolding segment_bytes ipv4_header tcp_header
released_frame (tcp s payload) = segment_bytes s payload
released_frame (reply bytes) = bytes

-- the flags SYN and ACK; ACK; ACK and PSH; these with FIN; RST and ACK
abbrev pub syn_ack : ℕ
syn_ack = 0x12

abbrev pub ack_alone : ℕ
ack_alone = 0x10

abbrev pub rst_ack : ℕ
rst_ack = 0x14

abbrev pub data_flags : List ℕ → Bool → ℕ
data_flags [] ends = 0x11
data_flags (_ ∷ _) ends = if ends then 0x19 else 0x18

-- at most so many bytes go into one segment (RFC 9293, 3.7.1)
abbrev pub largest_payload : ℕ
largest_payload = 536

-- a segment at an offset of a connection, with the agreed acknowledgement and window
abbrev pub segment_at : BothLines → ℕ → ℕ → Option ℕ → List ℕ → Released
segment_at b offset flags mss payload = tcp (record {
  dst_mac = b.mine.mac;
  tuple = b.tuple;
  seq = (b.number + offset) % 2 ^ 32;
  ack = agreed_ack b;
  flags = flags;
  window = agreed_window b;
  mss = mss;
}) payload

abbrev pub byte_in : Symbol → Option ℕ
byte_in syn = None
byte_in (byte b) = Some b
byte_in fin = None

abbrev pub bytes_in : List Symbol → List ℕ
bytes_in symbols = filter_map byte_in symbols

abbrev pub has_symbol : Symbol → List Symbol → Bool
has_symbol x symbols = list_any (same_symbol x) symbols

-- the payloads: pieces of the bytes, or none of which FIN goes alone
abbrev pub payloads_of : List ℕ → Bool → List (List ℕ)
payloads_of [] ends = if ends then [] ∷ [] else []
payloads_of (x ∷ xs) ends = pieces_of largest_payload (x ∷ xs)

-- FIN goes with the last piece
abbrev pub ends_here : List ℕ → Bool → ℕ → Bool
ends_here bytes ends k = ends && nat_le (length bytes) (largest_payload * (k + 1))

abbrev pub data_segment : BothLines → ℕ → List ℕ → Bool → ℕ × List ℕ → Released
data_segment b offset bytes ends piece =
    segment_at b (offset + largest_payload * piece.0)
    (data_flags piece.1 (ends_here bytes ends piece.0)) None piece.1

abbrev pub data_segments : BothLines → ℕ → List ℕ → Bool → List Released
data_segments b offset bytes ends =
    map (data_segment b offset bytes ends) (enumerate_from 0 (payloads_of bytes ends))

-- a SYN is alone, and has the smaller maximum segment size
abbrev pub syn_segments : BothLines → Bool → List Released
syn_segments b false = []
syn_segments b true = segment_at b 0 syn_ack (Some (min b.mine.mss b.theirs.mss)) [] ∷ []

abbrev pub symbol_segments : BothLines → ℕ → List Symbol → List Released
symbol_segments b from symbols =
    syn_segments b (has_symbol syn symbols)
    ++ data_segments b (max from 1) (bytes_in symbols) (has_symbol fin symbols)

-- the symbols of the node's line from one offset up to another
unfoldable pub release_symbols : BothLines → ℕ → ℕ → List Released
release_symbols b from to = symbol_segments b from (take (to - from) (drop from b.mine.symbols))

-- a segment without symbols at the edge
abbrev pub release_bare : BothLines → ℕ → Bool → List Released
release_bare b edge false = []
release_bare b edge true = segment_at b edge ack_alone None [] ∷ []

-- a reset at the edge
abbrev pub release_reset : BothLines → ℕ → Bool → List Released
release_reset b edge false = []
release_reset b edge true = segment_at b edge rst_ack None [] ∷ []

-- a refusal of a client's number
abbrev pub refusal_of : BothLines → ℕ → Released
refusal_of b client = tcp (record {
  dst_mac = b.mine.mac;
  tuple = b.tuple;
  seq = 0;
  ack = (client + 1) % 2 ^ 32;
  flags = rst_ack;
  window = 0;
  mss = None;
}) []

abbrev pub release_refusal : BothLines → Option ℕ → Bool → List Released
release_refusal b (Some client) true = refusal_of b client ∷ []
release_refusal b (Some client) false = []
release_refusal b None due = []
