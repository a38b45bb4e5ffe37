-- How the driver sends frames (VIRTIO 1.1, 5.1.6.2 "Packet Transmission"). The port keeps ARP to
-- itself (RFC 826): it answers requests with the neighbour's address, and sends no frame of that
-- type.
use Rattle.std.specs.Prelude.{◌≡◌, ℕ, nat_eq, nat_le, Bool, not, ◌&&◌, if◌then◌else◌, zero, suc, Option, None, Some, Result, Ok, Err, List, [], ◌∷◌, ◌++◌, length, drop, replicate}
use Rattle.std.specs.Cmp.Lexicographic.{pointwise}
use Rattle.virt_queue.specs.declared.fields.RingFault.{RingFault}
use Rattle.virt_queue.specs.Parts.{DescriptorChain, readable, join_parts}
use Rattle.inet_frame.specs.Arp.{reply_bytes}
use Rattle.inet_frame.specs.Fields.{ArpFields}
use Rattle.inet_frame.specs.Frame.{is_arp, seen_of}
use Rattle.inet_frame.specs.declared.parser.Seen.{Seen}
use Rattle.inet_frame.specs.declared.parser.Seen.TheVariants.{Tcp, Arp, Udp, Other}
use Rattle.virtio_mmio.specs.declared.kind.Served.{Served}
use Rattle.virtio_mmio.specs.declared.kind.Served.TheVariants.{Done, Idle, Broken}
use Rattle.virtio_mmio.specs.Registers.{serves}
use Rattle.virtio_net.specs.Port.{Port, send_queue, queue_of, next_of, take_chain, return_chain}
use Rattle.virtio_net.specs.Receive.{Delivery, header, can_receive, deliver}

-- ---- the frame in a chain

-- the readable bytes of a chain without the header
abbrev pub payload : List ℕ → DescriptorChain → List ℕ
payload bytes chain = drop (length header) (join_parts bytes (readable chain.parts))

-- whether bytes are a frame: an Ethernet header, and at most 1,500 bytes after it (IEEE 802.3,
-- 3.2.7)
abbrev pub is_frame : List ℕ → Bool
is_frame bytes = nat_le 14 (length bytes) && nat_le (length bytes) 1514

abbrev pub frame_in : List ℕ → DescriptorChain → Option (List ℕ)
frame_in bytes chain = if is_frame (payload bytes chain) then Some (payload bytes chain) else None

-- what goes out: a frame that isn't ARP's
abbrev pub output : Option (List ℕ) → List (List ℕ)
output None = []
output (Some frame) = if is_arp frame then [] else frame ∷ []

-- ---- the answer to an ARP request

abbrev pub asked : Seen → Option ArpFields
asked (Tcp t) = None
asked (Arp ask) = Some ask
asked (Udp u) = None
asked (Other why) = None

abbrev pub request_in : Option (List ℕ) → Option ArpFields
request_in None = None
request_in (Some frame) = asked (seen_of frame)

-- whether a neighbour is known: its address isn't all 0
abbrev pub is_known : List ℕ → Bool
is_known mac = not (pointwise nat_eq mac (replicate 6 0))

-- whether the port can answer: it has a neighbour, and can receive
abbrev pub can_answer : Port → Bool
can_answer port = is_known port.card.neighbour && can_receive port

abbrev pub answer_request : Port → Option ArpFields → Delivery
answer_request port None = record { port = port; fault = None }
answer_request port (Some ask) =
    if can_answer port then deliver port (reply_bytes ask port.card.neighbour)
    else record { port = port; fault = None }

-- ---- one chain

-- what was sent: the port after it, the frames that went out, and how it ended
pub record Sending : Type 0 where
  pub port : Port
  pub frames : List (List ℕ)
  pub answer : Served

abbrev pub served : Option RingFault → Served
served None = Done
served (Some fault) = Broken fault

-- the chain is taken and returned; its frame goes out, or is answered
abbrev pub send_frame : Port → DescriptorChain → Sending
send_frame port chain =
    let frame = frame_in port.memory.bytes chain in
    let taken = take_chain port send_queue (Ok (Some chain)) in
    let answered = answer_request (return_chain taken send_queue chain.head 0) (request_in frame) in
    record { port = answered.port; frames = output frame; answer = served answered.fault }

abbrev pub send_by : Port → Result (Option DescriptorChain) RingFault → Sending
send_by port (Ok None) = record { port = port; frames = []; answer = Idle }
send_by port (Ok (Some chain)) = send_frame port chain
send_by port (Err fault) = record {
  port = take_chain port send_queue (Err fault);
  frames = [];
  answer = Broken fault;
}

-- the next chain of the send queue
unfoldable pub send_chain : Port → Sending
send_chain port = send_by port (next_of port send_queue)

-- ---- one notify

-- frames that went out before
abbrev pub after_frames : List (List ℕ) → Sending → Sending
after_frames frames sending = record sending { frames = frames ++ sending.frames }

-- what a chain and those after it send: `so_far` is the answer where there was no chain
abbrev pub follow_by : Served → Sending → Served → Sending → Sending
follow_by Done step so_far rest = after_frames step.frames rest
follow_by Idle step so_far rest = record step { answer = so_far }
follow_by (Broken fault) step so_far rest = step

abbrev pub follow : Sending → Served → Sending → Sending
follow step = follow_by step.answer step

-- at most n chains in order, until none is left or a fault comes
unfoldable pub send_chains : ℕ → Served → Port → Sending
send_chains zero so_far port = record { port = port; frames = []; answer = so_far }
send_chains (suc n) so_far port =
    let step = send_chain port in follow step so_far (send_chains n Done step.port)

-- one notify sends at most as many chains as the queue's number
unfoldable pub send : Port → Sending
send port =
    let d = port.card.device in
    if serves d send_queue then send_chains (queue_of d send_queue).num Idle port
    else record { port = port; frames = []; answer = Idle }

-- ---- what the calls answer

abbrev pub fault_of : Option RingFault → Result (Unit {0}) RingFault
fault_of None = Ok tt
fault_of (Some fault) = Err fault
