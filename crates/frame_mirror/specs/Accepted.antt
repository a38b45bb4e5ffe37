-- Client frames: an accepted one is a TCP segment to the guest, with clean options; an ARP request
-- for the guest's address is answered (RFC 826); all others are dropped, each with the number of
-- its first reason.
use Rattle.std.specs.Prelude.{ℕ, Bool, false, ◌&&◌, ◌==◌, if◌then◌else◌, List, Option, None, Some}
use Rattle.std.specs.Str.{bytes_eq}
use Rattle.inet_frame.specs.Arp.{reply_bytes}
use Rattle.inet_frame.specs.Counted.{guest_address, guest_mac, tcp_in}
use Rattle.inet_frame.specs.Fields.{TcpFields}
use Rattle.inet_frame.specs.Frame.{seen_of}
use Rattle.inet_frame.specs.declared.parser.Seen.{Seen}
use Rattle.inet_frame.specs.declared.parser.Seen.TheVariants.{Tcp, Arp, Udp, Other}
use Rattle.inet_build.specs.Edit.{clean_syn}
use Rattle.frame_mirror.specs.declared.ingress.Entry.{Entry}
use Rattle.frame_mirror.specs.declared.ingress.Entry.TheVariants.{Frame, Answer, Drop}

abbrev pub is_to_guest : List ℕ → ℕ → Bool
is_to_guest mac address = bytes_eq mac guest_mac && address == guest_address

-- 13: a MAC or IPv4 address that is not the guest's
abbrev pub other_destination : Entry
other_destination = Drop (record { number = 13 })

-- 14: UDP
abbrev pub udp_frame : Entry
udp_frame = Drop (record { number = 14 })

-- by what the frame is; of an ARP request the address alone is asked
unfoldable pub entry_of_seen : List ℕ → Seen → Entry
entry_of_seen b (Tcp t) =
    if is_to_guest t.dst_mac t.dst then Frame (clean_syn b) else other_destination
entry_of_seen b (Udp u) =
    if is_to_guest u.dst_mac u.dst then udp_frame else other_destination
entry_of_seen b (Arp a) =
    if a.target == guest_address then Answer (reply_bytes a guest_mac) else other_destination
entry_of_seen b (Other why) = Drop why

-- what becomes of a client frame
unfoldable pub entry_of : List ℕ → Entry
unfolding entry_of_seen
entry_of b = entry_of_seen b (seen_of b)

-- a frame that is accepted: a TCP segment with the guest's MAC and address
abbrev pub is_for_guest : Option TcpFields → Bool
is_for_guest None = false
is_for_guest (Some t) = is_to_guest t.dst_mac t.dst

abbrev pub is_accepted : List ℕ → Bool
is_accepted frame = is_for_guest (tcp_in frame)
