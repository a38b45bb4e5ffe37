-- Places of the fields in a frame's bytes, counted from byte 0. Numbers of several bytes are in
-- network order, the highest byte first.
use Rattle.std.specs.Prelude.{ℕ, ◌+◌, ◌*◌, ◌/◌, ◌%◌, List, slice_index}

-- the 16-bit number at a place
abbrev pub be16_at : List ℕ → ℕ → ℕ
be16_at b i = slice_index b i * 256 + slice_index b (i + 1)

-- the 32-bit number at a place
abbrev pub be32_at : List ℕ → ℕ → ℕ
be32_at b i =
    slice_index b i * 16777216 + slice_index b (i + 1) * 65536 + slice_index b (i + 2) * 256
    + slice_index b (i + 3)

-- the type after the two MAC addresses of an Ethernet frame (IEEE 802.3, 3.1.1): 0x0800 is IPv4,
-- 0x0806 is ARP
abbrev pub frame_type : List ℕ → ℕ
frame_type b = be16_at b 12

-- the version, the upper half of the IPv4 header's first byte (RFC 791, 3.1)
abbrev pub version : List ℕ → ℕ
version b = slice_index b 14 / 16

-- the IPv4 header's length in bytes: the lower half of its first byte, in words of four bytes (RFC
-- 791, 3.1)
abbrev pub header_len : List ℕ → ℕ
header_len b = 4 * (slice_index b 14 % 16)

-- the length of the IPv4 datagram, header and payload (RFC 791, 3.1)
abbrev pub total_len : List ℕ → ℕ
total_len b = be16_at b 16

-- more fragments, and the fragment's offset: the low 14 bits of the word of flags and offset (RFC
-- 791, 3.1)
abbrev pub fragment_field : List ℕ → ℕ
fragment_field b = be16_at b 20 % 0x4000

-- the protocol above IPv4: 6 is TCP, 17 is UDP (RFC 791, 3.1)
abbrev pub protocol : List ℕ → ℕ
protocol b = slice_index b 23

-- where the IPv4 header ends, and the TCP or UDP header begins
abbrev pub header_end : List ℕ → ℕ
header_end b = 14 + header_len b

-- where the IPv4 datagram ends; what follows is padding (IEEE 802.3, 3.2.8)
abbrev pub datagram_end : List ℕ → ℕ
datagram_end b = 14 + total_len b

-- the length of a TCP header that begins at h: the upper half of its byte 12, in words of four
-- bytes (RFC 9293, 3.1)
abbrev pub data_offset : List ℕ → ℕ → ℕ
data_offset b h = 4 * (slice_index b (h + 12) / 16)
