-- Stores, rings and the network card write bytes, and what goes out is bytes of memory.
use Rattle.std.proofs.Common.{ℕ, ◌+◌, ◌*◌, ◌%◌, zero, suc, Bool, true, false, Option, Some, None, Result, Ok, Err, List, [], ◌∷◌, ◌++◌, length, take, drop, All, sym, subst, if◌then◌else◌, arith, inl, inr}
use Rattle.std.proofs.lemmas.List.Elements.{All-nil, All-cons, All-append}
use Rattle.std.specs.Int.{w32, to_be_bytes}
use Rattle.shared_definitions.specs.Memory.{is_inside, little_endian_bytes, place_of}
use Rattle.page_track.specs.Memory.{Memory, with_number, with_part, part_at}
use Rattle.inet_frame.specs.Arp.{reply_head, reply_bytes}
use Rattle.shared_definitions.specs.Bytes.{AreBytes}
use Rattle.inet_frame.specs.Fields.{ArpFields, arp_fields}
use Rattle.inet_frame.specs.Frame.{is_arp, seen_of, seen_unless, drop_number, carries_tcp, fields_in}
use Rattle.shared_definitions.proofs.ByteLemmas.{AreBytes-append, AreBytes-drop, AreBytes-take, AreBytes-range, bytes_from}
use Rattle.shared_definitions.proofs.ByteLemmas.{AreBytes-nil, AreBytes-overwrite, AreBytes-low_first, four_bytes}
use Rattle.shared_definitions.proofs.FactLemmas.{◌&◌}
use Rattle.virt_queue.specs.Parts.{DescriptorChain, join_parts, write_joined, readable, writable}
use Rattle.virt_queue.specs.Ring.{with_used, after_position}
use Rattle.virt_queue.specs.declared.fields.Part.{Part}
use Rattle.virt_queue.specs.declared.fields.QueueFields.{QueueFields}
use Rattle.virt_queue.specs.declared.fields.RingFault.{RingFault}
use Rattle.virtio_mmio.specs.Registers.{serves}
use Rattle.virtio_net.specs.Port.{Port, neighbour_after, next_of, port_of, queue_of, receive_queue, return_chain, send_queue, take_chain}
use Rattle.virtio_net.specs.Receive.{Delivery, deliver, deliver_by, fill_chain, filled_len, has_space, header}
use Rattle.virtio_net.specs.Send.{Sending, answer_request, can_answer, follow_by, frame_in, is_frame, output, payload, request_in, send, send_by, send_chain, send_chains}
use Rattle.virtio_mmio.specs.declared.kind.Served.{Served}
use Rattle.virtio_mmio.specs.declared.kind.Served.TheVariants.{Done, Idle, Broken}
use Rattle.std.proofs.Common.{replicate}
use Rattle.inet_frame.specs.declared.parser.Seen.TheVariants.{Tcp, Arp, Udp}
use Rattle.inet_frame.specs.Fields.{udp_fields}
use Rattle.inet_frame.specs.Place.{header_end, datagram_end}
use Rattle.virtio_net.specs.Send.{asked}
use Rattle.virtio_mmio.specs.Registers.{write_event}
use Rattle.virtio_mmio.specs.declared.kind.Event.{Event}
use Rattle.virtio_mmio.specs.declared.kind.Event.TheVariants.{Nothing, Notify, Reset, Ack}
use Rattle.rv_core.specs.Effect.{effect}
use Rattle.rv_core.specs.Reach.{ExecutionResult}
use Rattle.rv_core.specs.Stores.{IsOneStore}
use Rattle.rv_core.specs.declared.registers.Outcome.{Outcome}
use Rattle.rv_core.specs.declared.registers.Outcome.TheVariants.{Next, Trap}
use Rattle.rv_core.proofs.EffectLemmas.{effect_one_store}
use Rattle.rv_isa.specs.Table.{decode}
use Rattle.rv_isa.specs.declared.instr.Instr.{Instr}
use Rattle.rv_traps.specs.Cause.{illegal_instruction, instruction_access_fault}
use Rattle.rv_traps.specs.Trap.{pending_interrupt}
use Rattle.rv_platform.specs.Bus.{board_acts, board_fetched, board_stored, store_register, write_block, write_clint, write_network}
use Rattle.rv_platform.specs.Step.{PlatformState, board_of, csrs_of, decode_step, enter_by, execute_step, fetch_step, finish_execution, platform_with, quiet, run_steps, send_frames, serve_notify, step, step_from, take_trap}
use Rattle.rv_platform.specs.declared.board.Board.{Board}
use Rattle.machine_laws.specs.Laws.{HasBytes, IsBytes, StepsKeepBytes}

-- ---- memory

pub part_kept : (m : Memory) (at : ℕ) (part : List ℕ) → AreBytes m.bytes → AreBytes part
    → AreBytes (with_part m at part).bytes
part_kept m at part h g = AreBytes-overwrite m.bytes (place_of at) part h g

number_kept : (m : Memory) (at n v : ℕ) → AreBytes m.bytes → AreBytes (with_number m at n v).bytes
unfolding with_number
number_kept m at n v h = by_inside (is_inside (length m.bytes) at n)
  where
    by_inside : (b : Bool) → AreBytes (if b then with_part m at (little_endian_bytes n v) else m).bytes
    by_inside true = part_kept m at (little_endian_bytes n v) h (AreBytes-low_first 0 n v)
    by_inside false = h

pub used_kept : (m : Memory) (q : QueueFields) (head len : ℕ) → AreBytes m.bytes
    → AreBytes (with_used m q head len).bytes
unfolding with_used
used_kept m q head len h =
    let entry = little_endian_bytes 4 head ++ little_endian_bytes 4 len in
    let at = q.device + 4 + 8 * (q.used % q.num) in
    part_kept (with_part m at entry) (q.device + 2) (little_endian_bytes 2 (after_position q.used))
    (part_kept m at entry h (AreBytes-append (little_endian_bytes 4 head) (little_endian_bytes 4 len)
    (AreBytes-low_first 0 4 head) (AreBytes-low_first 0 4 len)))
    (AreBytes-low_first 0 2 (after_position q.used))

pub joined_bytes : (b : List ℕ) (parts : List Part) → AreBytes b → AreBytes (join_parts b parts)
unfolding join_parts
joined_bytes b [] h = AreBytes-nil
joined_bytes b (p ∷ parts) h =
    AreBytes-append (part_at b p.addr p.len) (join_parts b parts)
    (AreBytes-range b (place_of p.addr) (place_of p.addr + p.len) h) (joined_bytes b parts h)

pub written_kept : (m : Memory) (parts : List Part) (bytes : List ℕ) → AreBytes m.bytes → AreBytes bytes
    → AreBytes (write_joined m parts bytes).bytes
unfolding write_joined
written_kept m [] bytes h g = h
written_kept m (p ∷ parts) bytes h g =
    written_kept (with_part m p.addr (take p.len bytes)) parts (drop p.len bytes)
    (part_kept m p.addr (take p.len bytes) h (AreBytes-take p.len bytes g)) (AreBytes-drop p.len bytes g)

-- ---- the network card

pub record PortBytes (port : Port) : Type 0 where
  pub memory : AreBytes port.memory.bytes
  pub neighbour : AreBytes port.card.neighbour

pub record SentBytes (s : Sending) : Type 0 where
  pub port : PortBytes s.port
  pub frames : All AreBytes s.frames

pub record DeliveryBytes (d : Delivery) : Type 0 where
  pub port : PortBytes d.port

taken_kept : (port : Port) (k : ℕ) (r : Result (Option DescriptorChain) RingFault) → PortBytes port
    → PortBytes (take_chain port k r)
taken_kept port k (Ok chain) h = record { memory = h.memory; neighbour = h.neighbour }
taken_kept port k (Err fault) h = record { memory = h.memory; neighbour = h.neighbour }

returned_kept : (port : Port) (k head len : ℕ) → PortBytes port → PortBytes (return_chain port k head len)
unfolding return_chain
returned_kept port k head len h = record {
  memory = used_kept port.memory (queue_of port.card.device k) head len h.memory;
  neighbour = h.neighbour;
}

header_bytes : AreBytes header
header_bytes = bytes_from header
    ((omega arith) & (omega arith) & (omega arith) & (omega arith) & (omega arith) & (omega arith) &
    (omega arith) & (omega arith) & (omega arith) & (omega arith) & (omega arith) & (omega arith) & tt)

filled_kept : (m : Memory) (chain : DescriptorChain) (frame : List ℕ) → AreBytes m.bytes → AreBytes frame
    → AreBytes (fill_chain m chain frame).bytes
filled_kept m chain frame h g = by_space (has_space chain frame)
  where
    by_space : (b : Bool) → AreBytes (if b then write_joined m (writable chain.parts) (header ++ frame) else m).bytes
    by_space true = written_kept m (writable chain.parts) (header ++ frame) h
        (AreBytes-append header frame header_bytes g)
    by_space false = h

delivered_by : (port : Port) (frame : List ℕ) (r : Result (Option DescriptorChain) RingFault) → PortBytes port
    → AreBytes frame → PortBytes (deliver_by port frame r).port
delivered_by port frame (Ok None) h g = h
delivered_by port frame (Ok (Some chain)) h g =
    let taken = take_chain port receive_queue (Ok (Some chain)) in
    let filled : Port = record taken { memory = fill_chain port.memory chain frame } in
    returned_kept filled receive_queue chain.head (filled_len chain frame)
    (record { memory = filled_kept port.memory chain frame h.memory g; neighbour = h.neighbour })
delivered_by port frame (Err fault) h g = taken_kept port receive_queue (Err fault) h

pub delivered_kept : (port : Port) (frame : List ℕ) → PortBytes port → AreBytes frame
    → PortBytes (deliver port frame).port
unfolding deliver
delivered_kept port frame h g = delivered_by port frame (next_of port receive_queue) h g

head_bytes : AreBytes reply_head
head_bytes = bytes_from reply_head
    ((omega arith) & (omega arith) & (omega arith) & (omega arith) & (omega arith) &
    (omega arith) & (omega arith) & (omega arith) & (omega arith) & (omega arith) & tt)

reply_are : (ask : ArpFields) (mac : List ℕ) → AreBytes ask.sender_mac → AreBytes mac → AreBytes (reply_bytes ask mac)
reply_are ask mac h g =
    let target = to_be_bytes w32 ask.target in
    AreBytes-append (ask.sender_mac ++ mac ++ reply_head ++ mac ++ target ++ ask.sender_mac)
    (to_be_bytes w32 ask.sender)
    (AreBytes-append (ask.sender_mac ++ mac ++ reply_head ++ mac ++ target) ask.sender_mac
    (AreBytes-append (ask.sender_mac ++ mac ++ reply_head ++ mac) target
    (AreBytes-append (ask.sender_mac ++ mac ++ reply_head) mac
    (AreBytes-append (ask.sender_mac ++ mac) reply_head (AreBytes-append ask.sender_mac mac h g) head_bytes) g)
    (four_bytes ask.target)) h)
    (four_bytes ask.sender)

pub AskBytes : Option ArpFields → Type 0
AskBytes None = Unit {0}
AskBytes (Some ask) = AreBytes ask.sender_mac

pub answered_kept : (port : Port) (ask : Option ArpFields) → PortBytes port → AskBytes ask
    → PortBytes (answer_request port ask).port
unfolding AskBytes
answered_kept port None h g = h
answered_kept port (Some ask) h g = by_can (can_answer port)
  where
    by_can : (b : Bool) → PortBytes (let same : Delivery = record { port = port; fault = None } in
        if b then deliver port (reply_bytes ask port.card.neighbour) else same).port
    by_can true = delivered_kept port (reply_bytes ask port.card.neighbour) h
        (reply_are ask port.card.neighbour g h.neighbour)
    by_can false = h

-- ---- one chain

asked_type : (b : List ℕ) (arp tcp : Bool) → AreBytes b
    → AskBytes (asked (if arp then Arp (arp_fields b) else (if tcp then Tcp (fields_in b)
    else Udp (udp_fields b (header_end b) (datagram_end b)))))
unfolding AskBytes
asked_type b true tcp h = AreBytes-range b 22 28 h
asked_type b false true h = tt
asked_type b false false h = tt

asked_unless : (b : List ℕ) (why : Option ℕ) → AreBytes b → AskBytes (asked (seen_unless b why))
unfolding AskBytes
asked_unless b None h = asked_type b (is_arp b) (carries_tcp b) h
asked_unless b (Some k) h = tt

asked_in : (frame : List ℕ) → AreBytes frame → AskBytes (request_in (Some frame))
unfolding seen_of
asked_in frame h = asked_unless frame (drop_number frame) h

asked_by : (bytes : List ℕ) (fits : Bool) → AreBytes bytes
    → AskBytes (request_in (if fits then Some bytes else None))
unfolding AskBytes
asked_by bytes true h = asked_in bytes h
asked_by bytes false h = tt

goes_out : (bytes : List ℕ) (arp : Bool) → AreBytes bytes → All AreBytes (if arp then [] else bytes ∷ [])
goes_out bytes true h = All-nil AreBytes
goes_out bytes false h = All-cons AreBytes bytes [] h (All-nil AreBytes)

output_by : (bytes : List ℕ) (fits : Bool) → AreBytes bytes → All AreBytes (output (if fits then Some bytes else None))
output_by bytes true h = goes_out bytes (is_arp bytes) h
output_by bytes false h = All-nil AreBytes

payload_bytes : (b : List ℕ) (chain : DescriptorChain) → AreBytes b → AreBytes (payload b chain)
payload_bytes b chain h =
    AreBytes-drop (length header) (join_parts b (readable chain.parts)) (joined_bytes b (readable chain.parts) h)

next_sends : (port : Port) (next : Result (Option DescriptorChain) RingFault) → PortBytes port
    → SentBytes (send_by port next)
next_sends port (Ok None) h = record { port = h; frames = All-nil AreBytes }
next_sends port (Ok (Some chain)) h =
    let bytes = payload port.memory.bytes chain in
    let is : AreBytes bytes = payload_bytes port.memory.bytes chain h.memory in
    let taken = take_chain port send_queue (Ok (Some chain)) in
    record {
      port = answered_kept (return_chain taken send_queue chain.head 0) (request_in (frame_in port.memory.bytes chain))
          (returned_kept taken send_queue chain.head 0 (taken_kept port send_queue (Ok (Some chain)) h))
          (asked_by bytes (is_frame bytes) is);
      frames = output_by bytes (is_frame bytes) is;
    }
next_sends port (Err fault) h = record { port = taken_kept port send_queue (Err fault) h; frames = All-nil AreBytes }

chain_sends : (port : Port) → PortBytes port → SentBytes (send_chain port)
unfolding send_chain
chain_sends port h = next_sends port (next_of port send_queue) h

-- ---- one notify

follows : (answer : Served) (first : Sending) (so_far : Served) (rest : Sending) → SentBytes first → SentBytes rest
    → SentBytes (follow_by answer first so_far rest)
follows Done first so_far rest p q =
    record { port = q.port; frames = All-append AreBytes first.frames rest.frames p.frames q.frames }
follows Idle first so_far rest p q = record { port = p.port; frames = p.frames }
follows (Broken fault) first so_far rest p q = p

chains_send : (n : ℕ) (so_far : Served) (port : Port) → PortBytes port → SentBytes (send_chains n so_far port)
unfolding send_chains
chains_send zero so_far port h = record { port = h; frames = All-nil AreBytes }
chains_send (suc n) so_far port h =
    let first = send_chain port in
    let sent = chain_sends port h in
    follows first.answer first so_far (send_chains n Done first.port) sent (chains_send n Done first.port sent.port)

where_it_works : (works : Bool) (port : Port) → PortBytes port
    → (let idle : Sending = record { port = port; frames = []; answer = Idle } in
    SentBytes (if works then send_chains (queue_of port.card.device send_queue).num Idle port else idle))
where_it_works true port h = chains_send (queue_of port.card.device send_queue).num Idle port h
where_it_works false port h = record { port = h; frames = All-nil AreBytes }

port_sends : (port : Port) → PortBytes port → SentBytes (send port)
unfolding send
port_sends port h = where_it_works (serves port.card.device send_queue) port h

-- ---- steps

pub notify_sends : (notified : Bool) (p : PlatformState) → HasBytes p → IsBytes (serve_notify notified p)
unfolding send_frames
notify_sends true p h =
    let sent = port_sends (port_of p.net p.memory) (record { memory = h.memory; neighbour = h.neighbour }) in
    record { platform = record { memory = sent.port.memory; neighbour = sent.port.neighbour }; frames = sent.frames }
notify_sends false p h = record { platform = h; frames = All-nil AreBytes }

record BoardBytes (b : Board) : Type 0 where
  memory : AreBytes b.ram.bytes
  neighbour : AreBytes b.net.neighbour

neighbour_kept : (e : Event) (mac : List ℕ) → AreBytes mac → AreBytes (neighbour_after e mac)
neighbour_kept Nothing mac h = h
neighbour_kept (Notify queue) mac h = h
neighbour_kept Reset mac h = bytes_from (replicate 6 0)
    ((omega arith) & (omega arith) & (omega arith) & (omega arith) & (omega arith) & (omega arith) & tt)
neighbour_kept Ack mac h = h

either : (P : Board → Type 0) (b : Bool) (x y : Board) → P x → P y → P (if b then x else y)
either P true x y p q = p
either P false x y p q = q

stored_kept : (b : Board) (addr width value : ℕ) → BoardBytes b → BoardBytes (board_stored b addr width value)
unfolding board_stored store_register
stored_kept b addr width value h =
    let P : Board → Type 0 = BoardBytes in
    either P _ (record b { ram = with_number b.ram addr width value }) _
    (record { memory = number_kept b.ram addr width value h.memory; neighbour = h.neighbour })
    (either P _ b _ h
    (either P _ (write_network b _ value) _
    (record { memory = h.memory; neighbour = neighbour_kept (write_event _ value) b.net.neighbour h.neighbour })
    (either P _ (write_block b _ value) (write_clint b addr width value)
    (record { memory = h.memory; neighbour = h.neighbour })
    (record { memory = h.memory; neighbour = h.neighbour }))))

one_store : (old new : Board) → IsOneStore board_acts old new → BoardBytes old → BoardBytes new
one_store old new (inl e) h = subst BoardBytes (sym e) h
one_store old new (inr s) h = subst BoardBytes (sym s.after) (stored_kept old s.address s.width s.value h)

entered_kept : (o : Outcome) (p : PlatformState) → HasBytes p → HasBytes (enter_by o p)
entered_kept Next p h = h
entered_kept (Trap cause value) p h = record { memory = h.memory; neighbour = h.neighbour }

finish_sends : (a : ExecutionResult Board) → BoardBytes a.bus → IsBytes (finish_execution a)
finish_sends a h =
    let p = platform_with a.hart a.csrs a.bus in
    let served = notify_sends a.bus.notified p (record { memory = h.memory; neighbour = h.neighbour }) in
    record {
      platform = entered_kept a.outcome (serve_notify a.bus.notified p).platform served.platform;
      frames = served.frames;
    }

execute_sends : (p : PlatformState) (word : ℕ) (i : Instr) → HasBytes p → IsBytes (execute_step p word i)
unfolding execute_step
execute_sends p word i h =
    let a = effect board_acts p.hart (csrs_of p) (board_of p) word i in
    finish_sends a (one_store (board_of p) a.bus (effect_one_store board_acts p.hart (csrs_of p) (board_of p) word i)
    (record { memory = h.memory; neighbour = h.neighbour }))

trap_kept : (p : PlatformState) (cause value : ℕ) → HasBytes p → IsBytes (quiet (take_trap p cause value))
trap_kept p cause value h =
    record { platform = record { memory = h.memory; neighbour = h.neighbour }; frames = All-nil AreBytes }

decode_sends : (p : PlatformState) (word : ℕ) (i : Option Instr) → HasBytes p → IsBytes (decode_step p word i)
decode_sends p word None h = trap_kept p illegal_instruction word h
decode_sends p word (Some i) h = execute_sends p word i h

fetch_sends : (p : PlatformState) (word : Option ℕ) → HasBytes p → IsBytes (fetch_step p word)
fetch_sends p None h = trap_kept p instruction_access_fault p.hart.pc h
fetch_sends p (Some word) h = decode_sends p word (decode word) h

from_sends : (p : PlatformState) (cause : Option ℕ) → HasBytes p → IsBytes (step_from p cause)
from_sends p (Some cause) h = trap_kept p cause 0 h
from_sends p None h = fetch_sends p (board_fetched (board_of p) p.hart.pc) h

step_sends : (p : PlatformState) → HasBytes p → IsBytes (step p)
unfolding step
step_sends p h =
    let s = from_sends p (pending_interrupt (csrs_of p)) h in
    record { platform = record { memory = s.platform.memory; neighbour = s.platform.neighbour }; frames = s.frames }

pub steps_keep : StepsKeepBytes
unfolding run_steps
steps_keep zero p h = record { platform = h; frames = All-nil AreBytes }
steps_keep (suc n) p h =
    let before = steps_keep n p h in
    let next = step_sends (run_steps n p).platform before.platform in
    record {
      platform = next.platform;
      frames = All-append AreBytes (run_steps n p).frames (step (run_steps n p).platform).frames before.frames
          next.frames;
    }
