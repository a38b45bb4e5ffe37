-- Turns keep the numbers and sizes of pages and sectors.
use Rattle.std.proofs.Common.{◌≡◌, ℕ, ◌+◌, ◌*◌, ◌-◌, ◌/◌, ◌<◌, ◌≤◌, ◌&&◌, zero, suc, Bool, true, false, Option, Some, None, is_none, Result, Ok, Err, List, [], ◌∷◌, length, take, drop, All, refl, sym, ◌∙◌, subst, if◌then◌else◌, arith, length-append, length-drop}
use Rattle.std.proofs.lemmas.List.{length-take}
use Rattle.std.proofs.lemmas.List.Elements.{All-nil, All-cons, All-head, All-tail, All-set}
use Rattle.std.specs.List.{flat_map}
use Rattle.page_track.specs.Memory.{Memory, page_size}
use Rattle.virt_queue.specs.Chain.{next_chain}
use Rattle.virt_queue.specs.Parts.{DescriptorChain, parts_inside, skip, writable, write_joined}
use Rattle.virt_queue.specs.Ring.{after_position, ring_inside, with_used}
use Rattle.virt_queue.specs.declared.fields.RingFault.{RingFault}
use Rattle.virt_queue.specs.declared.fields.RingFault.TheVariants as fault
use Rattle.virtio_blk.specs.Disk.{DiskState}
use Rattle.virtio_blk.specs.Request.{Done, answer_len, are_sectors, as_word, header_size, read_sectors, request_bytes, request_len, sector_of, sector_size, serve_in, serve_out, serve_request, status_ioerr, status_ok, status_unsupported, with_status, with_status_alone, write_sectors}
use Rattle.virtio_blk.specs.Serve.{Serving, broken, is_request, return_chain, return_memory, serve, serve_chain, serve_next}
use Rattle.virtio_blk.proofs.SectorLemmas.{inside_of_kind, length-request}
use Rattle.virtio_mmio.specs.Device.{Device, is_live}
use Rattle.virtio_net.specs.Port.{port_of}
use Rattle.virtio_net.specs.Receive.{Delivery, deliver, source_mac}
use Rattle.rv_platform.specs.Devices.{advance_clock, receive_frame, serve_block}
use Rattle.rv_platform.specs.Step.{PlatformState}
use Rattle.state_wire.specs.Guest.{GuestTurn}
use Rattle.guest_machine.specs.Guest.{first_pages, guest_state, memory_of, pages_of, state_in}
use Rattle.guest_machine.specs.Turn.{State, make_turn, receive, serve_request as serve_one, serve_requests}
use Rattle.guest_machine.proofs.PageLemmas.{length_pages}
use Rattle.guest_machine.proofs.SectorLemmas.{block_count}
use Rattle.machine_laws.specs.Laws.{MachinesFit}
use Rattle.machine_laws.proofs.SizeLemmas.{SameSize, delivered_size, given_facts, joined_size, skip_inside, steps_stay, used_size}

abbrev IsSector : List ℕ → Type 0
IsSector sector = length sector ≡ 512

abbrev IsPage : List ℕ → Type 0
IsPage page = length page ≡ 4096

-- ---- a block request

sectors_are : (disk : DiskState) (sector n : ℕ) (bytes : List ℕ) → All IsSector disk.mine → 512 * n ≤ length bytes
    → All IsSector (write_sectors disk sector n bytes).mine
unfolding write_sectors
sectors_are disk sector zero bytes h le = h
sectors_are disk sector (suc n) bytes h le =
    let whole : IsSector (take sector_size (drop (sector_size * n) bytes)) =
    omega (arith, length-take sector_size (drop (sector_size * n) bytes), length-drop (sector_size * n) bytes) in
    All-set IsSector (write_sectors disk sector n bytes).mine (sector + n)
    (take sector_size (drop (sector_size * n) bytes)) whole
    (sectors_are disk sector n bytes h (omega arith))

record DoneFits (m : Memory) (d : Done) : Type 0 where
  memory : SameSize m d.memory
  sectors : All IsSector d.disk.mine

either_done : (m : Memory) (b : Bool) (x y : Done) → DoneFits m x → DoneFits m y → DoneFits m (if b then x else y)
either_done m true x y p q = p
either_done m false x y p q = q

status_size : (m : Memory) (chain : DescriptorChain) (status : ℕ) → parts_inside (length m.bytes) chain.parts ≡ true
    → SameSize m (with_status m chain status)
status_size m chain status inside =
    joined_size m (skip (answer_len chain - 1) (writable chain.parts)) (status ∷ [])
    (skip_inside (length m.bytes) (answer_len chain - 1) (writable chain.parts)
    (inside_of_kind (length m.bytes) true chain.parts inside))

alone_fits : (m : Memory) (disk : DiskState) (chain : DescriptorChain) (status : ℕ)
    → parts_inside (length m.bytes) chain.parts ≡ true → All IsSector disk.mine
    → DoneFits m (with_status_alone m disk chain status)
alone_fits m disk chain status inside h = record { memory = status_size m chain status inside; sectors = h }

in_fits : (m : Memory) (disk : DiskState) (chain : DescriptorChain) (sector : ℕ)
    → parts_inside (length m.bytes) chain.parts ≡ true → All IsSector disk.mine
    → DoneFits m (serve_in m disk chain sector)
in_fits m disk chain sector inside h =
    let read = read_sectors disk sector ((answer_len chain - 1) / sector_size) in
    let filled = write_joined m (writable chain.parts) read in
    let size = joined_size m (writable chain.parts) read (inside_of_kind (length m.bytes) true chain.parts inside) in
    either_done m (are_sectors disk sector (answer_len chain - 1))
    (record { memory = with_status filled chain status_ok; disk = disk; written = as_word (answer_len chain) })
    (with_status_alone m disk chain status_ioerr)
    (record {
      memory = status_size filled chain status_ok
          (subst (λ (n : ℕ). parts_inside n chain.parts ≡ true) (sym size) inside) ∙ size;
      sectors = h;
    })
    (alone_fits m disk chain status_ioerr inside h)

out_fits : (m : Memory) (disk : DiskState) (chain : DescriptorChain) (sector : ℕ)
    → parts_inside (length m.bytes) chain.parts ≡ true → All IsSector disk.mine
    → DoneFits m (serve_out m disk chain sector)
out_fits m disk chain sector inside h =
    let bytes = drop header_size (request_bytes m chain) in
    let count = (request_len chain - header_size) / sector_size in
    let written = write_sectors disk sector count bytes in
    let len = length-request m.bytes chain.parts inside in
    let few : 512 * count ≤ length bytes = omega (arith, len, length-drop header_size (request_bytes m chain)) in
    either_done m (are_sectors disk sector (request_len chain - header_size))
    (with_status_alone m written chain status_ok) (with_status_alone m disk chain status_ioerr)
    (alone_fits m written chain status_ok inside (sectors_are disk sector count bytes h few))
    (alone_fits m disk chain status_ioerr inside h)

request_fits : (m : Memory) (disk : DiskState) (chain : DescriptorChain)
    → parts_inside (length m.bytes) chain.parts ≡ true → All IsSector disk.mine
    → DoneFits m (serve_request m disk chain)
unfolding serve_request
request_fits m disk chain inside h =
    let sector = sector_of (request_bytes m chain) in
    either_done m _ (serve_in m disk chain sector) _ (in_fits m disk chain sector inside h)
    (either_done m _ (serve_out m disk chain sector) _ (out_fits m disk chain sector inside h)
    (either_done m _ (with_status_alone m disk chain status_ok) (with_status_alone m disk chain status_unsupported)
    (alone_fits m disk chain status_ok inside h) (alone_fits m disk chain status_unsupported inside h)))

record ServingFits (m : Memory) (s : Serving) : Type 0 where
  memory : SameSize m s.memory
  sectors : All IsSector s.disk.mine

either_serving : (m : Memory) (b : Bool) (x y : Serving) → ServingFits m x → ServingFits m y
    → ServingFits m (if b then x else y)
either_serving m true x y p q = p
either_serving m false x y p q = q

returned_memory : (d : Device) (m : Memory) (head len : ℕ) → 0 < d.first.num → SameSize m (return_memory d m head len)
returned_memory d m head len some = by_ring (ring_inside (length m.bytes) d.first) refl
  where
    by_ring : (b : Bool) → ring_inside (length m.bytes) d.first ≡ b
        → SameSize m (if b then with_used m d.first head len else m)
    by_ring true e = used_size m d.first head len e some
    by_ring false e = refl

chain_fits : (d : Device) (m : Memory) (disk : DiskState) (chain : DescriptorChain) → 0 < d.first.num
    → parts_inside (length m.bytes) chain.parts ≡ true → All IsSector disk.mine
    → ServingFits m (serve_chain d m disk chain)
chain_fits d m disk chain some inside h =
    let done = serve_request m disk chain in
    let fits = request_fits m disk chain inside h in
    either_serving m (is_request chain) (return_chain d chain.head done) (broken fault.Order d m disk)
    (record {
      memory = returned_memory d done.memory chain.head done.written some ∙ fits.memory;
      sectors = fits.sectors;
    })
    (record { memory = refl; sectors = h })

next_fits : (d : Device) (m : Memory) (disk : DiskState) (r : Result (Option DescriptorChain) RingFault)
    → next_chain m.bytes d.first ≡ r → All IsSector disk.mine → ServingFits m (serve_next d m disk r)
next_fits d m disk (Ok None) e h = record { memory = refl; sectors = h }
next_fits d m disk (Ok (Some chain)) e h =
    let facts = given_facts m.bytes d.first chain e in
    chain_fits (record d { first = record d.first { next = after_position d.first.next } }) m disk chain
    facts.some facts.parts h
next_fits d m disk (Err fault) e h = record { memory = refl; sectors = h }

serve_fits : (d : Device) (m : Memory) (disk : DiskState) → All IsSector disk.mine → ServingFits m (serve d m disk)
unfolding serve
serve_fits d m disk h =
    either_serving m (is_live d && d.first.ready) _ _ (next_fits d m disk (next_chain m.bytes d.first) refl h)
    (record { memory = refl; sectors = h })

-- ---- a turn

record StateFits (s t : State) : Type 0 where
  memory : SameSize s.platform.memory t.platform.memory
  count : length t.disk.mine ≡ length s.disk.mine
  sectors : All IsSector t.disk.mine

one_fits : (s : State) → All IsSector s.disk.mine → StateFits s (serve_one s)
unfolding serve_block
one_fits s h =
    let fits = serve_fits s.platform.blk s.platform.memory s.disk h in
    record { memory = fits.memory; count = block_count s.platform s.disk; sectors = fits.sectors }

requests_fit : (n : ℕ) (s : State) → All IsSector s.disk.mine → StateFits s (serve_requests n s)
unfolding serve_requests
requests_fit zero s h = record { memory = refl; count = refl; sectors = h }
requests_fit (suc n) s h =
    let before = requests_fit n s h in
    let next = one_fits (serve_requests n s) before.sectors in
    record { memory = next.memory ∙ before.memory; count = next.count ∙ before.count; sectors = next.sectors }

frame_size : (p : PlatformState) (frame : List ℕ) → SameSize p.memory (receive_frame p frame).memory
unfolding receive_frame
frame_size p frame = by_fault (is_none d.fault) ∙ delivered_size (port_of p.net p.memory) frame
  where
    d : Delivery
    d = deliver (port_of p.net p.memory) frame

    by_fault : (b : Bool) → SameSize d.port.memory (if b
        then record d.port { card = record d.port.card { neighbour = source_mac frame } } else d.port).memory
    by_fault true = refl
    by_fault false = refl

received_size : (p : PlatformState) (frame : Option (List ℕ)) → SameSize p.memory (receive p frame).memory
received_size p None = refl
received_size p (Some frame) = frame_size p frame

turn_fits : (s : State) (turn : GuestTurn) → All IsSector s.disk.mine → StateFits s (make_turn s turn).state
unfolding make_turn
turn_fits s turn h =
    let clock = advance_clock s.platform turn.ticks in
    let begun : State = record s { platform = receive clock turn.frame } in
    let start = requests_fit turn.requests begun h in
    record {
      memory = steps_stay turn.steps (serve_requests turn.requests begun).platform
          ∙ (start.memory ∙ received_size clock turn.frame);
      count = start.count;
      sectors = start.sectors;
    }

-- ---- the state of a guest

pages_length : (pages : List (List ℕ)) → All IsPage pages → length (flat_map (λ page. page) pages) ≡ 4096 * length pages
pages_length [] h = refl
pages_length (page ∷ pages) h =
    omega (
      arith,
      length-append page (flat_map (λ p. p) pages),
      All-head IsPage page pages h,
      pages_length pages (All-tail IsPage page pages h),
    )

pages_cut : (n : ℕ) (b : List ℕ) → n * 4096 ≤ length b → All IsPage (first_pages n b)
unfolding first_pages
pages_cut zero b le = All-nil IsPage
pages_cut (suc n) b le =
    All-cons IsPage (take page_size b) (first_pages n (drop page_size b)) (omega (arith, length-take page_size b))
    (pages_cut n (drop page_size b) (omega (arith, length-drop page_size b)))

pub all_pages : (b : List ℕ) → All IsPage (pages_of b)
unfolding pages_of
all_pages b = pages_cut (length b / page_size) b (omega arith)

pub machines_fit : MachinesFit
unfolding guest_state state_in memory_of
machines_fit m g turn h =
    let s = state_in g in
    let t = (make_turn s turn).state in
    let fits = turn_fits s turn h.sectors in
    let len = pages_length g.pages h.pages in
    let same : length t.platform.memory.bytes ≡ 4096 * length g.pages = fits.memory ∙ len in
    record {
      page_count = omega (arith, length_pages t.platform.memory.bytes, same, h.page_count);
      sector_count = fits.count ∙ h.sector_count;
      pages = all_pages t.platform.memory.bytes;
      sectors = fits.sectors;
    }
