-- Turns lead from bytes to bytes.
use Rattle.std.proofs.Common.{ℕ, ◌+◌, ◌*◌, ◌-◌, ◌/◌, ◌<◌, ◌≤◌, ◌&&◌, zero, suc, Bool, true, false, Option, Some, None, is_none, Result, Ok, Err, List, [], ◌∷◌, ◌++◌, length, take, drop, get_or, All, sym, subst, if◌then◌else◌, arith, ⊎_elim}
use Rattle.std.proofs.lemmas.Bool.{cases_lt}
use Rattle.std.proofs.lemmas.List.{get_or_past}
use Rattle.std.proofs.lemmas.List.Elements.{All-nil, All-cons, All-head, All-tail, All-set, All-get_or}
use Rattle.std.specs.List.{flat_map}
use Rattle.byteorder.specs.Endian.{big_bytes}
use Rattle.shared_definitions.specs.Bytes.{AreBytes}
use Rattle.shared_definitions.proofs.ByteLemmas.{AreBytes-nil, AreBytes-high_first, AreBytes-cons, AreBytes-append, AreBytes-drop, AreBytes-take, AreBytes-range}
use Rattle.page_track.specs.Memory.{Memory, page_size}
use Rattle.virt_queue.specs.Chain.{next_chain}
use Rattle.virt_queue.specs.Parts.{DescriptorChain, readable, skip, writable, write_joined}
use Rattle.virt_queue.specs.Ring.{after_position, ring_inside, with_used}
use Rattle.virt_queue.specs.declared.fields.QueueFields.{QueueFields}
use Rattle.virt_queue.specs.declared.fields.RingFault.{RingFault}
use Rattle.virt_queue.specs.declared.fields.RingFault.TheVariants as fault
use Rattle.virtio_blk.specs.Disk.{DiskState}
use Rattle.virtio_blk.specs.Request.{Done, answer_len, are_sectors, as_word, header_size, read_sectors, request_bytes, request_len, sector_of, sector_size, serve_in, serve_out, serve_request, status_ioerr, status_ok, status_unsupported, with_status, with_status_alone, write_sectors}
use Rattle.virtio_blk.specs.Serve.{Serving, broken, is_request, return_chain, return_memory, serve, serve_chain, serve_next}
use Rattle.virtio_mmio.specs.Device.{Device, is_live}
use Rattle.virtio_mmio.specs.declared.fields.DeviceFields.{DeviceFields}
use Rattle.virtio_mmio.specs.Fields.{queue_at}
use Rattle.virtio_net.specs.Port.{port_of}
use Rattle.virtio_net.specs.Receive.{Delivery, deliver, meet_neighbour, source_mac}
use Rattle.rv_core.specs.declared.registers.HartFields.{HartFields}
use Rattle.rv_traps.specs.declared.fields.CsrFields.{CsrFields}
use Rattle.rv_platform.specs.Devices.{advance_clock, receive_frame, serve_block}
use Rattle.rv_platform.specs.Step.{PlatformState}
use Rattle.machine_bytes.specs.Reading.{fields_in}
use Rattle.machine_bytes.specs.Spelling.{block_bytes, bytes_of, csr_bytes, flag_number, network_bytes, queue_bytes, register_bytes, reservation_bytes, words_bytes}
use Rattle.machine_bytes.specs.declared.fields.StateFields.{StateFields}
use Rattle.state_wire.specs.Guest.{GuestState}
use Rattle.guest_machine.specs.Guest.{fields_of, first_pages, guest_state, memory_of, pages_of, state_in}
use Rattle.guest_machine.specs.Turn.{State, make_turn, receive, serve_request as serve_one, serve_requests}
use Rattle.state_wire.specs.Regular.{FrameBytes, GuestBytes}
use Rattle.machine_laws.specs.Laws.{HasBytes, MachinesKeepBytes, StateBytes, TurnsKeepBytes}
use Rattle.machine_laws.proofs.BytesLemmas.{PortBytes, delivered_kept, joined_bytes, steps_keep, used_kept, written_kept}

-- ---- a block request

sector_bytes : (disk : DiskState) (k : ℕ) → All AreBytes disk.mine → AreBytes (get_or disk.mine k [])
sector_bytes disk k h =
    ⊎_elim
    (λ (lt : k < length disk.mine). All-get_or AreBytes disk.mine k [] lt h)
    (λ (ge : length disk.mine ≤ k). subst AreBytes (sym (get_or_past disk.mine k [] ge)) AreBytes-nil)
    (cases_lt k (length disk.mine))

read_bytes : (disk : DiskState) (sector n : ℕ) → All AreBytes disk.mine → AreBytes (read_sectors disk sector n)
unfolding read_sectors
read_bytes disk sector zero h = AreBytes-nil
read_bytes disk sector (suc n) h =
    AreBytes-append (read_sectors disk sector n) (get_or disk.mine (sector + n) []) (read_bytes disk sector n h)
    (sector_bytes disk (sector + n) h)

sectors_kept : (disk : DiskState) (sector n : ℕ) (bytes : List ℕ) → All AreBytes disk.mine → AreBytes bytes
    → All AreBytes (write_sectors disk sector n bytes).mine
unfolding write_sectors
sectors_kept disk sector zero bytes h g = h
sectors_kept disk sector (suc n) bytes h g =
    All-set AreBytes (write_sectors disk sector n bytes).mine (sector + n)
    (take sector_size (drop (sector_size * n) bytes))
    (AreBytes-take sector_size (drop (sector_size * n) bytes) (AreBytes-drop (sector_size * n) bytes g))
    (sectors_kept disk sector n bytes h g)

record DoneBytes (d : Done) : Type 0 where
  memory : AreBytes d.memory.bytes
  disk : All AreBytes d.disk.mine

either_done : (b : Bool) (x y : Done) → DoneBytes x → DoneBytes y → DoneBytes (if b then x else y)
either_done true x y p q = p
either_done false x y p q = q

status_kept : (m : Memory) (chain : DescriptorChain) (status : ℕ) → AreBytes m.bytes → status < 256
    → AreBytes (with_status m chain status).bytes
status_kept m chain status h small =
    written_kept m (skip (answer_len chain - 1) (writable chain.parts)) (status ∷ []) h
    (AreBytes-cons status [] small AreBytes-nil)

alone_kept : (m : Memory) (disk : DiskState) (chain : DescriptorChain) (status : ℕ) → AreBytes m.bytes
    → All AreBytes disk.mine → status < 256 → DoneBytes (with_status_alone m disk chain status)
alone_kept m disk chain status h g small = record { memory = status_kept m chain status h small; disk = g }

in_kept : (m : Memory) (disk : DiskState) (chain : DescriptorChain) (sector : ℕ) → AreBytes m.bytes
    → All AreBytes disk.mine → DoneBytes (serve_in m disk chain sector)
in_kept m disk chain sector h g =
    let n = (answer_len chain - 1) / sector_size in
    let read = read_sectors disk sector n in
    let filled = write_joined m (writable chain.parts) read in
    either_done (are_sectors disk sector (answer_len chain - 1))
    (record { memory = with_status filled chain status_ok; disk = disk; written = as_word (answer_len chain) })
    (with_status_alone m disk chain status_ioerr)
    (record {
      memory = status_kept filled chain status_ok
          (written_kept m (writable chain.parts) read h (read_bytes disk sector n g)) (omega arith);
      disk = g;
    })
    (alone_kept m disk chain status_ioerr h g (omega arith))

out_kept : (m : Memory) (disk : DiskState) (chain : DescriptorChain) (sector : ℕ) → AreBytes m.bytes
    → All AreBytes disk.mine → DoneBytes (serve_out m disk chain sector)
out_kept m disk chain sector h g =
    let bytes = drop header_size (request_bytes m chain) in
    let count = (request_len chain - header_size) / sector_size in
    let written = write_sectors disk sector count bytes in
    let is : AreBytes bytes = AreBytes-drop header_size (request_bytes m chain)
    (joined_bytes m.bytes (readable chain.parts) h) in
    either_done (are_sectors disk sector (request_len chain - header_size))
    (with_status_alone m written chain status_ok) (with_status_alone m disk chain status_ioerr)
    (alone_kept m written chain status_ok h (sectors_kept disk sector count bytes g is) (omega arith))
    (alone_kept m disk chain status_ioerr h g (omega arith))

request_kept : (m : Memory) (disk : DiskState) (chain : DescriptorChain) → AreBytes m.bytes → All AreBytes disk.mine
    → DoneBytes (serve_request m disk chain)
unfolding serve_request
request_kept m disk chain h g =
    let sector = sector_of (request_bytes m chain) in
    either_done _ (serve_in m disk chain sector) _ (in_kept m disk chain sector h g)
    (either_done _ (serve_out m disk chain sector) _ (out_kept m disk chain sector h g)
    (either_done _ (with_status_alone m disk chain status_ok) (with_status_alone m disk chain status_unsupported)
    (alone_kept m disk chain status_ok h g (omega arith))
    (alone_kept m disk chain status_unsupported h g (omega arith))))

record ServingBytes (s : Serving) : Type 0 where
  memory : AreBytes s.memory.bytes
  disk : All AreBytes s.disk.mine

either_serving : (b : Bool) (x y : Serving) → ServingBytes x → ServingBytes y → ServingBytes (if b then x else y)
either_serving true x y p q = p
either_serving false x y p q = q

memory_returned : (d : Device) (m : Memory) (head len : ℕ) → AreBytes m.bytes
    → AreBytes (return_memory d m head len).bytes
memory_returned d m head len h = by_ring (ring_inside (length m.bytes) d.first)
  where
    by_ring : (b : Bool) → AreBytes (if b then with_used m d.first head len else m).bytes
    by_ring true = used_kept m d.first head len h
    by_ring false = h

chain_kept : (d : Device) (m : Memory) (disk : DiskState) (chain : DescriptorChain) → AreBytes m.bytes
    → All AreBytes disk.mine → ServingBytes (serve_chain d m disk chain)
chain_kept d m disk chain h g =
    let done = serve_request m disk chain in
    let kept = request_kept m disk chain h g in
    either_serving (is_request chain) (return_chain d chain.head done) (broken fault.Order d m disk)
    (record { memory = memory_returned d done.memory chain.head done.written kept.memory; disk = kept.disk })
    (record { memory = h; disk = g })

next_kept : (d : Device) (m : Memory) (disk : DiskState) (r : Result (Option DescriptorChain) RingFault)
    → AreBytes m.bytes → All AreBytes disk.mine → ServingBytes (serve_next d m disk r)
next_kept d m disk (Ok None) h g = record { memory = h; disk = g }
next_kept d m disk (Ok (Some chain)) h g =
    chain_kept (record d { first = record d.first { next = after_position d.first.next } }) m disk chain h g
next_kept d m disk (Err fault) h g = record { memory = h; disk = g }

serve_kept : (d : Device) (m : Memory) (disk : DiskState) → AreBytes m.bytes → All AreBytes disk.mine
    → ServingBytes (serve d m disk)
unfolding serve
serve_kept d m disk h g =
    either_serving (is_live d && d.first.ready) _ _ (next_kept d m disk (next_chain m.bytes d.first) h g)
    (record { memory = h; disk = g })

one_kept : (s : State) → StateBytes s → StateBytes (serve_one s)
unfolding serve_block
one_kept s h =
    let kept = serve_kept s.platform.blk s.platform.memory s.disk h.platform.memory h.disk in
    record { platform = record { memory = kept.memory; neighbour = h.platform.neighbour }; disk = kept.disk }

requests_kept : (n : ℕ) (s : State) → StateBytes s → StateBytes (serve_requests n s)
unfolding serve_requests
requests_kept zero s h = h
requests_kept (suc n) s h = one_kept (serve_requests n s) (requests_kept n s h)

-- ---- a frame, and a turn

met : (d : Delivery) (frame : List ℕ) → PortBytes d.port → AreBytes frame → PortBytes (meet_neighbour d frame)
met d frame h g = by_fault (is_none d.fault)
  where
    by_fault : (b : Bool) → PortBytes (if b
        then record d.port { card = record d.port.card { neighbour = source_mac frame } } else d.port)
    by_fault true = record { memory = h.memory; neighbour = AreBytes-range frame 6 12 g }
    by_fault false = h

frame_kept : (p : PlatformState) (frame : List ℕ) → HasBytes p → AreBytes frame → HasBytes (receive_frame p frame)
unfolding receive_frame
frame_kept p frame h g =
    let port = port_of p.net p.memory in
    let met_port = met (deliver port frame) frame
    (delivered_kept port frame (record { memory = h.memory; neighbour = h.neighbour }) g) g in
    record { memory = met_port.memory; neighbour = met_port.neighbour }

received_kept : (p : PlatformState) (frame : Option (List ℕ)) → HasBytes p → FrameBytes frame
    → HasBytes (receive p frame)
received_kept p None h g = h
received_kept p (Some frame) h g = frame_kept p frame h g

pub turns_keep : TurnsKeepBytes
unfolding make_turn
turns_keep s turn h g =
    let clock = advance_clock s.platform turn.ticks in
    let ticked : HasBytes clock = record { memory = h.platform.memory; neighbour = h.platform.neighbour } in
    let received = received_kept clock turn.frame ticked g in
    let begun : State = record s { platform = receive clock turn.frame } in
    let start = requests_kept turn.requests begun (record { platform = received; disk = h.disk }) in
    let ran = steps_keep turn.steps (serve_requests turn.requests begun).platform start.platform in
    record { state = record { platform = ran.platform; disk = start.disk }; frames = ran.frames }

-- ---- the state of a guest

pages_join : (pages : List (List ℕ)) → All AreBytes pages → AreBytes (flat_map (λ page. page) pages)
pages_join [] h = AreBytes-nil
pages_join (page ∷ pages) h =
    AreBytes-append page (flat_map (λ p. p) pages) (All-head AreBytes page pages h)
    (pages_join pages (All-tail AreBytes page pages h))

pages_cut : (n : ℕ) (b : List ℕ) → AreBytes b → All AreBytes (first_pages n b)
unfolding first_pages
pages_cut zero b h = All-nil AreBytes
pages_cut (suc n) b h =
    All-cons AreBytes (take page_size b) (first_pages n (drop page_size b)) (AreBytes-take page_size b h)
    (pages_cut n (drop page_size b) (AreBytes-drop page_size b h))

pub state_bytes : (g : GuestState) → GuestBytes g → StateBytes (state_in g)
unfolding state_in memory_of fields_in
state_bytes g h = record {
  platform = record {
    memory = pages_join g.pages h.pages;
    neighbour = AreBytes-take 6 (drop 289 g.bytes) (AreBytes-drop 289 g.bytes h.bytes);
  };
  disk = h.sectors;
}

big : (n v : ℕ) → AreBytes (big_bytes n v)
big n v = AreBytes-high_first n v

words_are : (words : List ℕ) → AreBytes (words_bytes words)
unfolding words_bytes
words_are [] = AreBytes-nil
words_are (w ∷ words) = AreBytes-append (big_bytes 4 w) (flat_map (big_bytes 4) words) (big 4 w) (words_are words)

-- parts behind one another, from the left
join : List ℕ → List (List ℕ) → List ℕ
join b [] = b
join b (x ∷ xs) = join (b ++ x) xs

EachBytes : List (List ℕ) → Type 0
EachBytes [] = Unit {0}
EachBytes (x ∷ xs) = AreBytes x × EachBytes xs

join_bytes : (b : List ℕ) (xs : List (List ℕ)) → AreBytes b → EachBytes xs → AreBytes (join b xs)
unfolding join EachBytes
join_bytes b [] h g = h
join_bytes b (x ∷ xs) h g = join_bytes (b ++ x) xs (AreBytes-append b x h g.0) g.1

csrs_are : (c : CsrFields) → AreBytes (csr_bytes c)
unfolding csr_bytes join EachBytes
csrs_are c =
    join_bytes (big_bytes 4 c.mstatus)
    (big_bytes 4 c.mie ∷ big_bytes 4 c.mtvec ∷ big_bytes 4 c.mscratch ∷ big_bytes 4 c.mepc ∷ big_bytes 4 c.mcause ∷
    big_bytes 4 c.mtval ∷ big_bytes 4 (flag_number c.msip) ∷ big_bytes 8 c.mtime ∷ big_bytes 8 c.mtimecmp ∷
    big_bytes 8 c.steps ∷ []) (big 4 c.mstatus) (
      big 4 c.mie,
      (
        big 4 c.mtvec,
        (
          big 4 c.mscratch,
          (
            big 4 c.mepc,
            (
              big 4 c.mcause,
              (
                big 4 c.mtval,
                (big 4 (flag_number c.msip), (big 8 c.mtime, (big 8 c.mtimecmp, (big 8 c.steps, tt)))),
              ),
            ),
          ),
        ),
      ),
    )

reservation_is : (h : HartFields) → AreBytes (reservation_bytes h)
unfolding reservation_bytes
reservation_is h =
    AreBytes-append (big_bytes 1 (flag_number h.reserved)) (big_bytes 4 h.address) (big 1 (flag_number h.reserved))
    (big 4 h.address)

queue_is : (q : QueueFields) → AreBytes (queue_bytes q)
unfolding queue_bytes join EachBytes
queue_is q =
    join_bytes (big_bytes 4 q.num)
    (big_bytes 4 (flag_number q.ready) ∷ big_bytes 8 q.desc ∷ big_bytes 8 q.driver ∷ big_bytes 8 q.device ∷
    big_bytes 2 q.next ∷ big_bytes 2 q.used ∷ []) (big 4 q.num) (
      big 4 (flag_number q.ready),
      (
        big 8 q.desc,
        (
          big 8 q.driver,
          (big 8 q.device, (big 2 q.next, (big 2 q.used, tt))),
        ),
      ),
    )

registers_are : (d : DeviceFields) → AreBytes (register_bytes d)
unfolding register_bytes join EachBytes
registers_are d =
    join_bytes (big_bytes 4 d.status)
    (big_bytes 4 d.device_features_sel ∷ big_bytes 8 d.driver_features ∷ big_bytes 4 d.driver_features_sel ∷
    big_bytes 4 d.queue_sel ∷ big_bytes 4 d.interrupt_status ∷ []) (big 4 d.status) (
      big 4 d.device_features_sel,
      (
        big 8 d.driver_features,
        (
          big 4 d.driver_features_sel,
          (
            big 4 d.queue_sel,
            (big 4 d.interrupt_status, tt),
          ),
        ),
      ),
    )

network_is : (d : DeviceFields) → AreBytes (network_bytes d)
unfolding network_bytes
network_is d =
    AreBytes-append (register_bytes d ++ queue_bytes (queue_at d 0)) (queue_bytes (queue_at d 1))
    (AreBytes-append (register_bytes d) (queue_bytes (queue_at d 0)) (registers_are d) (queue_is (queue_at d 0)))
    (queue_is (queue_at d 1))

block_is : (d : DeviceFields) → AreBytes (block_bytes d)
unfolding block_bytes
block_is d = AreBytes-append (register_bytes d) (queue_bytes (queue_at d 0)) (registers_are d) (queue_is (queue_at d 0))

spelled_are : (v : StateFields) → AreBytes v.neighbour → AreBytes (bytes_of v)
unfolding bytes_of join EachBytes
spelled_are v h =
    join_bytes (big_bytes 4 v.hart.pc)
    (words_bytes v.hart.x ∷ csr_bytes v.csrs ∷ reservation_bytes v.hart ∷ network_bytes v.net ∷ v.neighbour ∷
    block_bytes v.block ∷ []) (big 4 v.hart.pc)
    (words_are v.hart.x, (csrs_are v.csrs, (reservation_is v.hart, (network_is v.net, (h, (block_is v.block, tt))))))

pub guest_bytes : (s : State) → StateBytes s → GuestBytes (guest_state s)
unfolding guest_state pages_of
guest_bytes s h = record {
  bytes = spelled_are (fields_of s.platform) h.platform.neighbour;
  pages = pages_cut (length s.platform.memory.bytes / page_size) s.platform.memory.bytes h.platform.memory;
  sectors = h.disk;
}

pub machines_keep : MachinesKeepBytes
machines_keep m = record {
  next = λ g turn h f. guest_bytes (make_turn (state_in g) turn).state
      (turns_keep (state_in g) turn (state_bytes g h) f).state;
  sent = λ g turn h f. (turns_keep (state_in g) turn (state_bytes g h) f).frames;
}
