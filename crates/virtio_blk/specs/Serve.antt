-- One call of the block device: the next request of its queue is served and returned, or there is
-- none, or the ring is at fault (VIRTIO 1.1, 2.6 "Split Virtqueues" and 5.2.6 "Device Operation").
use Rattle.std.specs.Prelude.{ℕ, ◌==◌, nat_lt, Bool, not, ◌||◌, if◌then◌else◌, Option, Some, None, Result, Ok, Err, length}
use Rattle.page_track.specs.Memory.{Memory}
use Rattle.virt_queue.specs.Chain.{next_chain}
use Rattle.virt_queue.specs.Parts.{DescriptorChain}
use Rattle.virt_queue.specs.Ring.{ring_inside, with_used, asks_interrupt, after_position}
use Rattle.virt_queue.specs.declared.fields.RingFault.{RingFault}
use Rattle.virt_queue.specs.declared.fields.RingFault.TheVariants.{Outside, Order}
use Rattle.virtio_mmio.specs.Device.{Device, fail_device, raise_used}
use Rattle.virtio_mmio.specs.Registers.{serves}
use Rattle.virtio_blk.specs.Disk.{DiskState}
use Rattle.virtio_blk.specs.Request.{Done, header_size, request_len, answer_len, serve_request}
use Rattle.virtio_mmio.specs.declared.kind.Served.{Served}
use Rattle.virtio_mmio.specs.declared.kind.Served.TheVariants as served

-- what a call answers, and what it leaves
pub record Serving : Type 0 where
  pub answer : Served
  pub device : Device
  pub memory : Memory
  pub disk : DiskState

-- the ring is at fault
abbrev pub broken : RingFault → Device → Memory → DiskState → Serving
broken fault device memory disk = record {
  answer = served.Broken fault;
  device = fail_device device;
  memory = memory;
  disk = disk;
}

-- a chain is returned with the number of bytes that were written, and an interrupt where the driver
-- asks for it; where the ring isn't in memory it is at fault
abbrev pub return_memory : Device → Memory → ℕ → ℕ → Memory
return_memory device memory head len =
    if ring_inside (length memory.bytes) device.first then with_used memory device.first head len
    else memory

abbrev pub return_device : Device → Memory → ℕ → ℕ → Device
return_device device memory head len =
    if ring_inside (length memory.bytes) device.first
    then (let used = after_position device.first.used in
    let returned = record device { first = record device.first { used = used } } in
    if asks_interrupt (with_used memory device.first head len).bytes device.first
    then raise_used returned
    else returned)
    else fail_device device

abbrev pub return_answer : Device → Memory → Served
return_answer device memory =
    if ring_inside (length memory.bytes) device.first then served.Done else served.Broken Outside

abbrev pub return_chain : Device → ℕ → Done → Serving
return_chain device head done = record {
  answer = return_answer device done.memory;
  device = return_device device done.memory head done.written;
  memory = return_memory device done.memory head done.written;
  disk = done.disk;
}

-- a request has a header, and a place for its status
abbrev pub is_request : DescriptorChain → Bool
is_request chain =
    not (nat_lt (request_len chain) header_size || (answer_len chain == 0))

abbrev pub serve_chain : Device → Memory → DiskState → DescriptorChain → Serving
serve_chain device memory disk chain =
    if is_request chain
    then return_chain device chain.head (serve_request memory disk chain)
    else broken Order device memory disk

-- what the ring gave: nothing, a chain, which it then has given, or a fault
abbrev pub serve_next : Device → Memory → DiskState → Result (Option DescriptorChain) RingFault
    → Serving
serve_next device memory disk (Ok None) =
    record { answer = served.Idle; device = device; memory = memory; disk = disk }
serve_next device memory disk (Ok (Some chain)) =
    (let next = after_position device.first.next in
    serve_chain (record device { first = record device.first { next = next } }) memory disk chain)
serve_next device memory disk (Err fault) = broken fault device memory disk

-- the device serves where it is live and its queue is ready
unfoldable pub serve : Device → Memory → DiskState → Serving
serve device memory disk =
    if serves device 0
    then serve_next device memory disk (next_chain memory.bytes device.first)
    else record { answer = served.Idle; device = device; memory = memory; disk = disk }
