-- The bytes of a TCP segment from the guest in IPv4 in Ethernet, without padding (IEEE 802.3,
-- 3.1.1; RFC 791, 3.1; RFC 9293, 3.1).
use Rattle.std.specs.Prelude.{ℕ, ◌+◌, ◌-◌, ◌*◌, ◌^◌, ◌<◌, ◌≤◌, ◌≡◌, List, [], ◌∷◌, ◌++◌, length, Option, None, Some}
use Rattle.std.specs.Int.{w16, w32, to_be_bytes}
use Rattle.shared_definitions.specs.Bytes.{AreBytes}
use Rattle.inet_frame.specs.Counted.{guest_address, guest_mac}
use Rattle.inet_frame.specs.Fields.{TcpFields}
use Rattle.inet_frame.specs.Sum.{ones_sum, pseudo_sum}
use Rattle.inet_build.specs.declared.fields.Segment.{Segment}

-- the type of IPv4
abbrev pub ipv4_type : List ℕ
ipv4_type = 0x08 ∷ 0x00 ∷ []

-- the source, 10.0.2.15, and the destination
abbrev pub addresses : ℕ → List ℕ
addresses client = 10 ∷ 0 ∷ 2 ∷ 15 ∷ to_be_bytes w32 client

-- version 4 and five words, the total length, "don't fragment", 64 hops, TCP, the checksum, and the
-- addresses (RFC 791, 3.1)
unfoldable pub ipv4_header : ℕ → ℕ → ℕ → List ℕ
ipv4_header client total sum =
    0x45 ∷ 0 ∷ to_be_bytes w16 total ++ 0 ∷ 0 ∷ 0x40 ∷ 0 ∷ 64 ∷ 6 ∷ to_be_bytes w16 sum
    ++ addresses client

-- the complement of the sum over the header with a checksum of 0 (RFC 791, 3.1)
abbrev pub ipv4_checksum : ℕ → ℕ → ℕ
ipv4_checksum client total = 0xFFFF - ones_sum 0 (ipv4_header client total 0)

-- the option for a maximum segment size (RFC 9293, 3.2)
abbrev pub mss_option : Option ℕ → List ℕ
mss_option None = []
mss_option (Some mss) = 2 ∷ 4 ∷ to_be_bytes w16 mss

-- the header's length in words of four bytes: five, and one for the option
abbrev pub header_words : Option ℕ → ℕ
header_words None = 5
header_words (Some mss) = 6

-- the 20 bytes of the TCP header before its options (RFC 9293, 3.1)
unfoldable pub tcp_header : Segment → ℕ → List ℕ
tcp_header s sum =
    to_be_bytes w16 s.tuple.guest ++ to_be_bytes w16 s.tuple.port
    ++ to_be_bytes w32 s.seq ++ to_be_bytes w32 s.ack
    ++ 16 * header_words s.mss ∷ s.flags ∷ to_be_bytes w16 s.window
    ++ to_be_bytes w16 sum ++ 0 ∷ 0 ∷ []

-- the header, the option and the payload
abbrev pub tcp_bytes : Segment → List ℕ → ℕ → List ℕ
tcp_bytes s payload sum = tcp_header s sum ++ (mss_option s.mss ++ payload)

abbrev pub tcp_len : Segment → List ℕ → ℕ
tcp_len s payload = 4 * header_words s.mss + length payload

-- the complement of the sum over the pseudo header and the segment with a checksum of 0 (RFC 9293,
-- 3.1)
abbrev pub tcp_checksum : Segment → List ℕ → ℕ
tcp_checksum s payload =
    0xFFFF
    - ones_sum (pseudo_sum (addresses s.tuple.addr) 6 (tcp_len s payload)) (tcp_bytes s payload 0)

-- the MAC address that the frame goes to, the guest's, and the type (IEEE 802.3, 3.1.1)
abbrev pub ethernet_header : List ℕ → List ℕ
ethernet_header dst_mac = dst_mac ++ (guest_mac ++ ipv4_type)

-- the frame with these numbers as its checksums
abbrev pub frame_with : Segment → List ℕ → ℕ → ℕ → List ℕ
frame_with s payload header_sum sum =
    ethernet_header s.dst_mac
    ++ (ipv4_header s.tuple.addr (20 + tcp_len s payload) header_sum ++ tcp_bytes s payload sum)

-- the whole frame
unfoldable pub segment_bytes : Segment → List ℕ → List ℕ
segment_bytes s payload =
    frame_with s payload (ipv4_checksum s.tuple.addr (20 + tcp_len s payload))
    (tcp_checksum s payload)

-- the fields of the frame
abbrev pub fields_of : Segment → List ℕ → TcpFields
fields_of s payload = record {
  dst_mac = s.dst_mac;
  src_mac = guest_mac;
  src = guest_address;
  dst = s.tuple.addr;
  sport = s.tuple.guest;
  dport = s.tuple.port;
  seq = s.seq;
  ack = s.ack;
  flags = s.flags;
  window = s.window;
  options = mss_option s.mss;
  payload = payload;
}

-- a maximum segment size, if there is one, is a number of 16 bits
abbrev pub MssFits : Option ℕ → Type 0
MssFits None = Unit {0}
MssFits (Some mss) = mss < 2 ^ 16

-- the numbers of the TCP header are in their ranges
pub record HeaderFits (s : Segment) : Type 0 where
  pub port : s.tuple.port < 2 ^ 16
  pub guest : s.tuple.guest < 2 ^ 16
  pub seq : s.seq < 2 ^ 32
  pub ack : s.ack < 2 ^ 32
  pub flags : s.flags < 2 ^ 8
  pub window : s.window < 2 ^ 16

-- fields and a payload that a segment can be built of: all in their ranges, at most 536 bytes
pub record IsBuildable (s : Segment) (bytes : List ℕ) : Type 0 where
  pub mac_len : length s.dst_mac ≡ 6
  pub mac : AreBytes s.dst_mac
  pub client : s.tuple.addr < 2 ^ 32
  pub header : HeaderFits s
  pub mss : MssFits s.mss
  pub payload_len : length bytes ≤ 536
  pub payload : AreBytes bytes
