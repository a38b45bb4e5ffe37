-- A block request keeps the number of sectors, and changes nothing where there was none.
use Rattle.std.proofs.Common.{◌≡◌, ℕ, zero, suc, ◌+◌, ◌*◌, ◌-◌, ◌/◌, ◌==◌, ◌&&◌, Bool, true, false, Option, Some, None, Result, Ok, Err, List, if◌then◌else◌, length, take, drop, refl, ap, ◌∙◌}
use Rattle.std.proofs.lemmas.List.{length-set}
use Rattle.page_track.specs.Memory.{Memory}
use Rattle.virt_queue.specs.Chain.{next_chain}
use Rattle.virt_queue.specs.Parts.{DescriptorChain, writable, write_joined}
use Rattle.virt_queue.specs.Ring.{after_position, ring_inside}
use Rattle.virt_queue.specs.declared.fields.RingFault.{RingFault}
use Rattle.virt_queue.specs.declared.fields.RingFault.TheVariants as outside
use Rattle.virtio_blk.specs.Disk.{DiskState}
use Rattle.virtio_blk.specs.Request.{Done, answer_len, are_sectors, as_word, header_size, read_sectors, request_bytes, request_len, sector_of, sector_size, serve_in, serve_out, serve_request, status_ioerr, status_ok, status_unsupported, type_flush, type_in, type_of, type_out, with_status, with_status_alone, write_sectors}
use Rattle.virtio_blk.specs.Serve.{Serving, broken, is_request, return_answer, return_chain, serve, serve_next}
use Rattle.virtio_mmio.specs.Device.{Device, is_live}
use Rattle.virtio_mmio.specs.declared.kind.Served.TheVariants as served
use Rattle.rv_platform.specs.Devices.{serve_block}
use Rattle.rv_platform.specs.Step.{PlatformState, unreserve_by}

written_count : (disk : DiskState) (sector n : ℕ) (bytes : List ℕ)
    → length (write_sectors disk sector n bytes).mine ≡ length disk.mine
unfolding write_sectors
written_count disk sector zero bytes = refl
written_count disk sector (suc n) bytes =
    length-set (write_sectors disk sector n bytes).mine (sector + n) (take sector_size (drop (sector_size * n) bytes))
    ∙ written_count disk sector n bytes

-- a choice of two outcomes over a disk of so many sectors
either_done : (b : Bool) (n : ℕ) (x y : Done) → length x.disk.mine ≡ n → length y.disk.mine ≡ n
    → length (if b then x else y).disk.mine ≡ n
either_done true n x y p q = p
either_done false n x y p q = q

either_serving : (b : Bool) (n : ℕ) (x y : Serving) → length x.disk.mine ≡ n → length y.disk.mine ≡ n
    → length (if b then x else y).disk.mine ≡ n
either_serving true n x y p q = p
either_serving false n x y p q = q

in_count : (memory : Memory) (disk : DiskState) (chain : DescriptorChain) (sector : ℕ)
    → length (serve_in memory disk chain sector).disk.mine ≡ length disk.mine
in_count memory disk chain sector =
    let read = read_sectors disk sector ((answer_len chain - 1) / sector_size) in
    either_done (are_sectors disk sector (answer_len chain - 1)) (length disk.mine)
    (record {
      memory = with_status (write_joined memory (writable chain.parts) read) chain status_ok;
      disk = disk;
      written = as_word (answer_len chain);
    })
    (with_status_alone memory disk chain status_ioerr) refl refl

out_count : (memory : Memory) (disk : DiskState) (chain : DescriptorChain) (sector : ℕ)
    → length (serve_out memory disk chain sector).disk.mine ≡ length disk.mine
out_count memory disk chain sector =
    let bytes = drop header_size (request_bytes memory chain) in
    let count = (request_len chain - header_size) / sector_size in
    either_done (are_sectors disk sector (request_len chain - header_size)) (length disk.mine)
    (with_status_alone memory (write_sectors disk sector count bytes) chain status_ok)
    (with_status_alone memory disk chain status_ioerr) (written_count disk sector count bytes) refl

request_count : (memory : Memory) (disk : DiskState) (chain : DescriptorChain)
    → length (serve_request memory disk chain).disk.mine ≡ length disk.mine
unfolding serve_request
request_count memory disk chain =
    let n = length disk.mine in
    let request = request_bytes memory chain in
    let kind = type_of request in
    let flush = with_status_alone memory disk chain status_ok in
    let other = with_status_alone memory disk chain status_unsupported in
    let rest = if kind == type_flush then flush else other in
    let out = serve_out memory disk chain (sector_of request) in
    either_done (kind == type_in) n (serve_in memory disk chain (sector_of request))
    (if kind == type_out then out else rest) (in_count memory disk chain (sector_of request))
    (either_done (kind == type_out) n out rest (out_count memory disk chain (sector_of request))
    (either_done (kind == type_flush) n flush other refl refl))

abbrev taken : Device → Device
taken d = record d { first = record d.first { next = after_position d.first.next } }

next_count : (d : Device) (memory : Memory) (disk : DiskState) (r : Result (Option DescriptorChain) RingFault)
    → length (serve_next d memory disk r).disk.mine ≡ length disk.mine
next_count d memory disk (Ok None) = refl
next_count d memory disk (Ok (Some chain)) = either_serving (is_request chain) (length disk.mine)
    (return_chain (taken d) chain.head (serve_request memory disk chain))
    (broken outside.Order (taken d) memory disk) (request_count memory disk chain) refl
next_count d memory disk (Err fault) = refl

abbrev idle : Device → Memory → DiskState → Serving
idle d memory disk = record { answer = served.Idle; device = d; memory = memory; disk = disk }

pub serve_count : (d : Device) (memory : Memory) (disk : DiskState)
    → length (serve d memory disk).disk.mine ≡ length disk.mine
unfolding serve
serve_count d memory disk =
    let r = next_chain memory.bytes d.first in
    either_serving (is_live d && d.first.ready) (length disk.mine) (serve_next d memory disk r) (idle d memory disk)
    (next_count d memory disk r) refl

-- ---- without a request

abbrev SameIfIdle : Device → Memory → DiskState → Serving → Type 0
SameIfIdle d memory disk s =
    s.answer ≡ served.Idle → s ≡ idle d memory disk

same_either : (d : Device) (memory : Memory) (disk : DiskState) (b : Bool) (x y : Serving)
    → SameIfIdle d memory disk x → SameIfIdle d memory disk y → SameIfIdle d memory disk (if b then x else y)
same_either d memory disk true x y p q = p
same_either d memory disk false x y p q = q

ring_answer : (b : Bool) → (if b then served.Done else served.Broken outside.Outside) ≡ served.Idle → ⊥
ring_answer true e = cc
ring_answer false e = cc

not_idle : (d : Device) (memory : Memory) → return_answer d memory ≡ served.Idle → ⊥
not_idle d memory h = ring_answer (ring_inside (length memory.bytes) d.first) h

broken_not_idle : (fault : RingFault) → served.Broken fault ≡ served.Idle → ⊥
broken_not_idle fault e = cc

same_next : (d : Device) (memory : Memory) (disk : DiskState) (r : Result (Option DescriptorChain) RingFault)
    → SameIfIdle d memory disk (serve_next d memory disk r)
same_next d memory disk (Ok None) = λ h. refl
same_next d memory disk (Ok (Some chain)) =
    let done = serve_request memory disk chain in
    same_either d memory disk (is_request chain) (return_chain (taken d) chain.head done)
    (broken outside.Order (taken d) memory disk)
    (λ e. absurd (not_idle (taken d) done.memory e)) (λ e. absurd (broken_not_idle outside.Order e))
same_next d memory disk (Err fault) = λ h. absurd (broken_not_idle fault h)

same_serve : (d : Device) (memory : Memory) (disk : DiskState) → SameIfIdle d memory disk (serve d memory disk)
unfolding serve
same_serve d memory disk =
    let r = next_chain memory.bytes d.first in
    same_either d memory disk (is_live d && d.first.ready) (serve_next d memory disk r) (idle d memory disk)
    (same_next d memory disk r) (λ e. refl)

pub idle_platform : (p : PlatformState) (disk : DiskState) → (serve_block p disk).answer ≡ served.Idle
    → (serve_block p disk).platform ≡ p
unfolding serve_block
idle_platform p disk h =
    let e = same_serve p.blk p.memory disk h in
    ap (λ (s : Serving). record p {
      hart = unreserve_by s.answer p.hart;
      blk = s.device;
      memory = s.memory;
    }) e

pub idle_disk : (p : PlatformState) (disk : DiskState) → (serve_block p disk).answer ≡ served.Idle
    → (serve_block p disk).disk ≡ disk
unfolding serve_block
idle_disk p disk h = ap (λ (s : Serving). s.disk) (same_serve p.blk p.memory disk h)

-- the disk of a block request
pub block_count : (p : PlatformState) (disk : DiskState)
    → length (serve_block p disk).disk.mine ≡ length disk.mine
unfolding serve_block
block_count p disk = serve_count p.blk p.memory disk
