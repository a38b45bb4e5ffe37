-- The frames of the worked examples: a client at 10.0.2.2, port 40000, the guest's port 7, the client's number 1000.
use Rattle.std.specs.Prelude.{ℕ, List, [], ◌∷◌, ◌++◌, ◌-◌, Option, None, Some}
use Rattle.std.specs.Int.{w16, w32, to_be_bytes}
use Rattle.inet_frame.specs.declared.tuple.Tuple.{Tuple}
use Rattle.inet_frame.specs.Sum.{ones_sum, pseudo_sum}
use Rattle.inet_build.specs.declared.fields.Segment.{Segment}
use Rattle.inet_frame.specs.Counted.{guest_mac}
use Rattle.inet_build.specs.Segment.{segment_bytes, ipv4_header, tcp_header}
use Rattle.state_wire.specs.Guest.{GuestState, Kind}
use Rattle.state_wire.specs.Script.{script_bytes, script_kind}
use Rattle.pair_theorem.specs.Past.{Start, boot}

abbrev pub client_mac : List ℕ
client_mac = 0x52 ∷ 0x54 ∷ 0x00 ∷ 0xAA ∷ 0x00 ∷ 0x01 ∷ []

abbrev pub worked_tuple : Tuple
worked_tuple = record { addr = 0x0A00_0202; port = 40000; guest = 7 }

-- a segment to the client, which acknowledges its SYN
abbrev pub worked_segment : ℕ → ℕ → Option ℕ → Segment
worked_segment seq flags mss = record {
  dst_mac = client_mac;
  tuple = worked_tuple;
  seq = seq;
  ack = 1001;
  flags = flags;
  window = 4096;
  mss = mss;
}

unfoldable pub guest_frame : ℕ → ℕ → Option ℕ → List ℕ → List ℕ
unfolding segment_bytes ipv4_header tcp_header
guest_frame seq flags mss payload = segment_bytes (worked_segment seq flags mss) payload

abbrev pub digits : List ℕ
digits = 48 ∷ 49 ∷ 50 ∷ 51 ∷ 52 ∷ 53 ∷ 54 ∷ 55 ∷ 56 ∷ 57 ∷ []

abbrev pub first_digits : List ℕ
first_digits = 48 ∷ 49 ∷ 50 ∷ []

abbrev pub last_digits : List ℕ
last_digits = 51 ∷ 52 ∷ 53 ∷ 54 ∷ 55 ∷ 56 ∷ 57 ∷ []

abbrev pub abc : List ℕ
abc = 97 ∷ 98 ∷ 99 ∷ []

abbrev pub abd : List ℕ
abd = 97 ∷ 98 ∷ 100 ∷ []

-- what the guest sends at each clock: two SYNs with numbers of their own, then the digits and letters after each
unfoldable pub worked_table : List (List (List ℕ))
unfolding guest_frame
worked_table =
    []
    ∷ (guest_frame 5000 0x12 (Some 1460) [] ∷ [])
    ∷ (guest_frame 9000 0x12 (Some 1460) [] ∷ [])
    ∷ (guest_frame 5001 0x18 None digits ∷ [])
    ∷ (guest_frame 9001 0x18 None first_digits ∷ [])
    ∷ (guest_frame 9004 0x18 None last_digits ∷ [])
    ∷ (guest_frame 5001 0x18 None abc ∷ [])
    ∷ (guest_frame 9001 0x18 None abd ∷ [])
    ∷ []

unfoldable pub worked_kind : Kind
unfolding worked_table
worked_kind = script_kind worked_table

-- IPv4 and TCP headers of a client's segment without payload, with a checksum
abbrev pub client_ip : ℕ → List ℕ
client_ip sum =
    0x45 ∷ 0 ∷ 0 ∷ 40 ∷ 0 ∷ 0 ∷ 0x40 ∷ 0 ∷ 64 ∷ 6 ∷ to_be_bytes w16 sum
    ++ 10 ∷ 0 ∷ 2 ∷ 2 ∷ 10 ∷ 0 ∷ 2 ∷ 15 ∷ []

abbrev pub client_tcp : ℕ → ℕ → ℕ → ℕ → List ℕ
client_tcp seq ack flags sum =
    to_be_bytes w16 40000 ++ to_be_bytes w16 7 ++ to_be_bytes w32 seq ++ to_be_bytes w32 ack
    ++ 0x50 ∷ flags ∷ to_be_bytes w16 4096 ++ to_be_bytes w16 sum ++ 0 ∷ 0 ∷ []

abbrev pub client_addresses : List ℕ
client_addresses = 10 ∷ 0 ∷ 2 ∷ 2 ∷ 10 ∷ 0 ∷ 2 ∷ 15 ∷ []

unfoldable pub client_frame : ℕ → ℕ → ℕ → List ℕ
client_frame seq ack flags =
    guest_mac ++ client_mac ++ 8 ∷ 0 ∷ client_ip (0xFFFF - ones_sum 0 (client_ip 0))
    ++ client_tcp seq ack flags
    (0xFFFF - ones_sum (pseudo_sum client_addresses 6 20) (client_tcp seq ack flags 0))

unfoldable pub client_syn : List ℕ
unfolding client_frame
client_syn = client_frame 1000 0 2

unfoldable pub client_ack : ℕ → List ℕ
unfolding client_frame
client_ack ack = client_frame 1001 ack 16

-- a test guest that made no turn
abbrev pub script_start : GuestState
script_start = record { bytes = script_bytes 0 []; pages = []; sectors = [] }

-- both guests have made no turn
unfoldable pub start_with : List (List ℕ) → Start
unfolding worked_kind
start_with stream = boot worked_kind stream script_start 0 0

unfoldable pub worked_start : Start
unfolding start_with client_syn
worked_start = start_with (client_syn ∷ [])
