-- A client that opens one connection after another to port 7 of the guest, as frames (IEEE 802.3,
-- 3.1.1; RFC 791, 3.1; RFC 9293, 3.1).
use Rattle.std.specs.Prelude.{ℕ, ◌+◌, ◌-◌, ◌*◌, ◌/◌, ◌%◌, ◌^◌, ◌==◌, ◌||◌, if◌then◌else◌, List, [], ◌∷◌, ◌++◌, length, replicate, None, slice_range}
use Rattle.inet_frame.specs.Counted.{guest_address, guest_mac}
use Rattle.inet_frame.specs.Fields.{TcpFields}
use Rattle.inet_build.specs.Segment.{segment_bytes}
use Rattle.inet_build.specs.declared.fields.Segment.{Segment}

-- ---- the eight steps of a connection: a SYN, six segments of 100 bytes, and a FIN

-- SYN; PSH and ACK; FIN and ACK
abbrev pub flags_at : ℕ → ℕ
flags_at step = if step == 0 then 0x02 else (if step == 7 then 0x11 else 0x18)

-- how far its first symbol is from the SYN
abbrev pub offset_at : ℕ → ℕ
offset_at step = if step == 0 then 0 else 1 + 100 * (step - 1)

-- 100 times a letter, which is `b` in the first segment and `g` in the last
abbrev pub payload_at : ℕ → List ℕ
payload_at step = if step == 0 || step == 7 then [] else replicate 100 (97 + step)

-- the client's MAC address
abbrev pub client_mac : List ℕ
client_mac = 0x52 ∷ (0x54 ∷ (0x00 ∷ (0xAA ∷ (0x00 ∷ (0x01 ∷ [])))))

-- the client's address, 10.0.2.2
abbrev pub client_address : ℕ
client_address = 0x0A00_0202

-- a step of a connection, as a segment that the guest would send
abbrev pub segment_at : ℕ → ℕ → Segment
segment_at connection step = record {
  dst_mac = client_mac;
  tuple = record { addr = client_address; port = 40000 + connection % 20000; guest = 7 };
  seq = (1000 * (connection + 1) + offset_at step) % 2 ^ 32;
  ack = 0;
  flags = flags_at step;
  window = 4096;
  mss = None;
}

-- ---- as a frame of the client

-- the part of a frame from the middle place on, and then the part up to it
abbrev pub swap_parts : List ℕ → ℕ → ℕ → ℕ → List ℕ
swap_parts frame start middle end =
    slice_range frame middle end ++ slice_range frame start middle

-- both ends exchanged: the MAC addresses, the IPv4 addresses, and the ports
unfoldable pub exchange_ends : List ℕ → List ℕ
exchange_ends frame =
    swap_parts frame 0 6 12 ++ (slice_range frame 12 26 ++ (swap_parts frame 26 30 34
    ++ (swap_parts frame 34 36 38 ++ slice_range frame 38 (length frame))))

-- the frame with this index: eight frames belong to a connection
unfoldable pub client_frame : ℕ → List ℕ
client_frame index =
    exchange_ends (segment_bytes (segment_at (index / 8) (index % 8)) (payload_at (index % 8)))

-- what stands in a step's frame
abbrev pub client_fields : ℕ → ℕ → TcpFields
client_fields connection step = record {
  dst_mac = guest_mac;
  src_mac = client_mac;
  src = client_address;
  dst = guest_address;
  sport = 40000 + connection % 20000;
  dport = 7;
  seq = (1000 * (connection + 1) + offset_at step) % 2 ^ 32;
  ack = 0;
  flags = flags_at step;
  window = 4096;
  options = [];
  payload = payload_at step;
}
