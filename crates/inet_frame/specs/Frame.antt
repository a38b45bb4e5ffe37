-- What a frame is: the fields of a TCP, ARP or UDP frame, or the first of twelve reasons to drop
-- it.
use Rattle.std.specs.Prelude.{◌≡◌, ◌≤◌, ℕ, ◌+◌, ◌-◌, Bool, not, ◌&&◌, ◌||◌, ◌==◌, nat_lt, if◌then◌else◌, List, [], ◌∷◌, length, slice_index, slice_range, Option, None, Some}
use Rattle.shared_definitions.specs.FirstOf.{Case, first_of}
use Rattle.inet_frame.specs.Fields.{TcpFields, HoldsTcp, tcp_fields, udp_fields, arp_fields}
use Rattle.inet_frame.specs.Place.{be16_at, frame_type, version, header_len, total_len, fragment_field, protocol, header_end, datagram_end, data_offset}
use Rattle.inet_frame.specs.Sum.{ones_sum, pseudo_sum}
use Rattle.inet_frame.specs.declared.parser.Seen.{Seen}
use Rattle.inet_frame.specs.declared.parser.Seen.TheVariants.{Tcp, Arp, Udp, Other}

abbrev pub is_arp : List ℕ → Bool
is_arp b = frame_type b == 0x0806

abbrev pub is_ipv4 : List ℕ → Bool
is_ipv4 b = frame_type b == 0x0800

abbrev pub carries_tcp : List ℕ → Bool
carries_tcp b = is_ipv4 b && protocol b == 6

abbrev pub carries_udp : List ℕ → Bool
carries_udp b = is_ipv4 b && protocol b == 17

-- 1: fewer than the 14 bytes of an Ethernet header (IEEE 802.3, 3.1.1)
abbrev pub is_short : List ℕ → Bool
is_short b = nat_lt (length b) 14

-- 2: more than a header and 1,500 bytes (IEEE 802.3, 3.2.7)
abbrev pub is_long : List ℕ → Bool
is_long b = nat_lt 1514 (length b)

-- 3: neither IPv4 nor ARP
abbrev pub is_other_type : List ℕ → Bool
is_other_type b = not (is_ipv4 b) && not (is_arp b)

-- not hardware 1, Ethernet; not protocol 0x0800, IPv4; not lengths 6 and 4; or not operation 1, a
-- request (RFC 826)
abbrev pub is_other_arp : List ℕ → Bool
is_other_arp b =
    not (be16_at b 14 == 1) || not (be16_at b 16 == 0x0800) || not (slice_index b 18 == 6)
    || not (slice_index b 19 == 4) || not (be16_at b 20 == 1)

-- 4: no whole ARP request for an IPv4 address over Ethernet (RFC 826)
abbrev pub is_bad_arp : List ℕ → Bool
is_bad_arp b = is_arp b && (nat_lt (length b) 42 || is_other_arp b)

-- 5: no whole IPv4 header, or lengths that do not fit the frame (RFC 791, 3.1)
abbrev pub is_bad_ipv4 : List ℕ → Bool
is_bad_ipv4 b =
    is_ipv4 b
    && (nat_lt (length b) 34 || not (version b == 4) || nat_lt (header_len b) 20
    || nat_lt (total_len b) (header_len b) || nat_lt (length b) (datagram_end b))

-- 6: the words of the IPv4 header, its checksum among them, do not sum to 0xFFFF (RFC 791, 3.1; RFC
-- 1071, 1)
abbrev pub is_bad_header_sum : List ℕ → Bool
is_bad_header_sum b =
    is_ipv4 b && not (ones_sum 0 (slice_range b 14 (header_end b)) == 0xFFFF)

-- 7: a fragment: more of them follow, or the offset is not 0 (RFC 791, 3.2)
abbrev pub is_fragment : List ℕ → Bool
is_fragment b = is_ipv4 b && not (fragment_field b == 0)

-- 8: neither TCP nor UDP
abbrev pub is_other_protocol : List ℕ → Bool
is_other_protocol b = is_ipv4 b && not (protocol b == 6) && not (protocol b == 17)

-- 9: no whole TCP header in the datagram (RFC 9293, 3.1)
abbrev pub is_bad_tcp : List ℕ → Bool
is_bad_tcp b =
    carries_tcp b
    && (nat_lt (datagram_end b) (header_end b + 20) || nat_lt (data_offset b (header_end b)) 20
    || nat_lt (datagram_end b) (header_end b + data_offset b (header_end b)))

-- the sum of the pseudo header and of all that follows the IPv4 header, with the checksum as it
-- stands there (RFC 9293, 3.1; RFC 768)
abbrev pub transport_sum : List ℕ → ℕ
transport_sum b =
    ones_sum (pseudo_sum (slice_range b 26 34) (protocol b) (datagram_end b - header_end b))
    (slice_range b (header_end b) (datagram_end b))

-- 10: the TCP checksum is wrong
abbrev pub is_bad_tcp_sum : List ℕ → Bool
is_bad_tcp_sum b = carries_tcp b && not (transport_sum b == 0xFFFF)

-- 11: no whole UDP header in the datagram, or a length that is not the datagram's (RFC 768)
abbrev pub is_bad_udp : List ℕ → Bool
is_bad_udp b =
    carries_udp b
    && (nat_lt (datagram_end b) (header_end b + 8)
    || not (be16_at b (header_end b + 4) == datagram_end b - header_end b))

-- 12: the UDP checksum is wrong; the field 0 says that there is none (RFC 768)
abbrev pub is_bad_udp_sum : List ℕ → Bool
is_bad_udp_sum b =
    carries_udp b && not (be16_at b (header_end b + 6) == 0) && not (transport_sum b == 0xFFFF)

-- the reasons to drop a frame, in order
abbrev pub drop_tests : List ℕ → List Case
drop_tests b =
    (1, is_short b)
    ∷ (2, is_long b)
    ∷ (3, is_other_type b)
    ∷ (4, is_bad_arp b)
    ∷ (5, is_bad_ipv4 b)
    ∷ (6, is_bad_header_sum b)
    ∷ (7, is_fragment b)
    ∷ (8, is_other_protocol b)
    ∷ (9, is_bad_tcp b)
    ∷ (10, is_bad_tcp_sum b)
    ∷ (11, is_bad_udp b)
    ∷ (12, is_bad_udp_sum b)
    ∷ []

-- the number of the first reason to drop a frame
abbrev pub drop_number : List ℕ → Option ℕ
drop_number b = first_of (drop_tests b)

-- the fields of the TCP segment in a frame
abbrev pub fields_in : List ℕ → TcpFields
fields_in b = tcp_fields b (header_end b) (datagram_end b)

-- what a frame holds that no test drops
abbrev pub contents : List ℕ → Seen
contents b =
    if is_arp b then Arp (arp_fields b)
    else (if carries_tcp b then Tcp (fields_in b)
    else Udp (udp_fields b (header_end b) (datagram_end b)))

abbrev pub seen_unless : List ℕ → Option ℕ → Seen
seen_unless b None = contents b
seen_unless b (Some k) = Other (record { number = k })

-- what a frame is
unfoldable pub seen_of : List ℕ → Seen
seen_of b = seen_unless b (drop_number b)

-- a frame of an allowed length and one type
pub record IsOfType (b : List ℕ) (kind : ℕ) : Type 0 where
  pub whole : 14 ≤ length b
  pub fits : length b ≤ 1514
  pub kind_is : frame_type b ≡ kind

-- a frame that holds a whole IPv4 datagram of one protocol, whose payload stands from h to e
pub record IsDatagram (b : List ℕ) (h e kind : ℕ) : Type 0 where
  pub whole : 34 ≤ length b
  pub fits : length b ≤ 1514
  pub type_is : frame_type b ≡ 0x0800
  pub version_is : version b ≡ 4
  pub header : 20 ≤ header_len b
  pub total : header_len b ≤ total_len b
  pub within : datagram_end b ≤ length b
  pub sum_is : ones_sum 0 (slice_range b 14 (header_end b)) ≡ 0xFFFF
  pub unbroken : fragment_field b ≡ 0
  pub begins : h ≡ header_end b
  pub ends : e ≡ datagram_end b
  pub protocol_is : protocol b ≡ kind

-- a frame that holds a whole TCP segment with a right checksum
pub record IsSegment (b : List ℕ) : Type 0 where
  pub datagram : IsDatagram b (header_end b) (datagram_end b) 6
  pub holds : HoldsTcp b (header_end b) (datagram_end b)
  pub sum_is : transport_sum b ≡ 0xFFFF
