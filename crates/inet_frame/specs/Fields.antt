-- The fields of a frame, read from their places. A part that is a list is the slice of the frame at
-- its place.
use Rattle.std.specs.Prelude.{ℕ, ◌+◌, ◌≤◌, List, length, slice_index, slice_range}
use Rattle.inet_frame.specs.Place.{be16_at, be32_at, data_offset}

-- a TCP segment in IPv4 in Ethernet (IEEE 802.3, 3.1.1; RFC 791, 3.1; RFC 9293, 3.1)
pub record TcpFields : Type 0 where
  pub dst_mac : List ℕ
  pub src_mac : List ℕ
  pub src : ℕ
  pub dst : ℕ
  pub sport : ℕ
  pub dport : ℕ
  pub seq : ℕ
  pub ack : ℕ
  pub flags : ℕ
  pub window : ℕ
  pub options : List ℕ
  pub payload : List ℕ

-- a UDP datagram in IPv4 in Ethernet (IEEE 802.3, 3.1.1; RFC 791, 3.1; RFC 768)
pub record UdpFields : Type 0 where
  pub dst_mac : List ℕ
  pub src_mac : List ℕ
  pub src : ℕ
  pub dst : ℕ
  pub sport : ℕ
  pub dport : ℕ
  pub payload : List ℕ

-- an ARP request for an IPv4 address in Ethernet (RFC 826)
pub record ArpFields : Type 0 where
  pub sender_mac : List ℕ
  pub sender : ℕ
  pub target : ℕ

-- the fields of a TCP segment that stands from h to e
abbrev pub tcp_fields : List ℕ → ℕ → ℕ → TcpFields
tcp_fields b h e = record {
  dst_mac = slice_range b 0 6;
  src_mac = slice_range b 6 12;
  src = be32_at b 26;
  dst = be32_at b 30;
  sport = be16_at b h;
  dport = be16_at b (h + 2);
  seq = be32_at b (h + 4);
  ack = be32_at b (h + 8);
  flags = slice_index b (h + 13);
  window = be16_at b (h + 14);
  options = slice_range b (h + 20) (h + data_offset b h);
  payload = slice_range b (h + data_offset b h) e;
}

-- the fields of a UDP datagram that stands from h to e
abbrev pub udp_fields : List ℕ → ℕ → ℕ → UdpFields
udp_fields b h e = record {
  dst_mac = slice_range b 0 6;
  src_mac = slice_range b 6 12;
  src = be32_at b 26;
  dst = be32_at b 30;
  sport = be16_at b h;
  dport = be16_at b (h + 2);
  payload = slice_range b (h + 8) e;
}

-- the fields of an ARP request
abbrev pub arp_fields : List ℕ → ArpFields
arp_fields b = record {
  sender_mac = slice_range b 22 28;
  sender = be32_at b 28;
  target = be32_at b 38;
}

-- a frame holds a TCP header and its payload from h to e
pub record HoldsTcp (b : List ℕ) (h e : ℕ) : Type 0 where
  pub after_ip : 34 ≤ h
  pub header : 20 ≤ data_offset b h
  pub payload : h + data_offset b h ≤ e
  pub within : e ≤ length b
  pub short : length b ≤ 1514

-- a frame holds the payload of an IPv4 datagram from h to e: both ports at least, and four bytes
-- more
pub record HoldsDatagram (b : List ℕ) (h e : ℕ) : Type 0 where
  pub after_ip : 34 ≤ h
  pub header : h + 8 ≤ e
  pub within : e ≤ length b
  pub short : length b ≤ 1514
