-- TCP frames, which frames of the guest count, and the connection that a segment belongs to.
use Rattle.std.specs.Prelude.{ℕ, ◌==◌, if◌then◌else◌, List, [], ◌∷◌, Option, None, Some}
use Rattle.inet_frame.specs.Fields.{TcpFields}
use Rattle.inet_frame.specs.Frame.{seen_of}
use Rattle.inet_frame.specs.declared.parser.Seen.{Seen}
use Rattle.inet_frame.specs.declared.parser.Seen.TheVariants.{Tcp, Arp, Udp, Other}
use Rattle.inet_frame.specs.declared.tuple.Tuple.{Tuple}

-- the guest's IPv4 address, 10.0.2.15
abbrev pub guest_address : ℕ
guest_address = 0x0A00_020F

-- the guest's MAC address, 52:54:00:12:34:56
abbrev pub guest_mac : List ℕ
guest_mac = 0x52 ∷ 0x54 ∷ 0x00 ∷ 0x12 ∷ 0x34 ∷ 0x56 ∷ []

abbrev pub tcp_of : Seen → Option TcpFields
tcp_of (Tcp t) = Some t
tcp_of (Arp _) = None
tcp_of (Udp _) = None
tcp_of (Other _) = None

-- the fields of a frame that is a TCP segment
abbrev pub tcp_in : List ℕ → Option TcpFields
tcp_in b = tcp_of (seen_of b)

abbrev pub from_guest : Option TcpFields → Option TcpFields
from_guest None = None
from_guest (Some t) = if t.src == guest_address then Some t else None

-- the fields of a frame that counts: one that is a TCP segment from the guest
abbrev pub counted : List ℕ → Option TcpFields
counted b = from_guest (tcp_in b)

-- the connection of a segment that the guest sent: the client's address and port, and the guest's
-- port
abbrev pub tuple_of : TcpFields → Tuple
tuple_of t = record { addr = t.dst; port = t.dport; guest = t.sport }

-- the connection of a segment that a client sent
abbrev pub client_tuple_of : TcpFields → Tuple
client_tuple_of t = record { addr = t.src; port = t.sport; guest = t.dport }
