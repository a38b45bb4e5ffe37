-- How the driver gets a frame (VIRTIO 1.1, 5.1.6.4 "Processing of Incoming Packets").
use Rattle.std.specs.Prelude.{ℕ, nat_le, Bool, ◌&&◌, if◌then◌else◌, Option, None, Some, is_none, Result, Ok, Err, List, [], ◌∷◌, ◌++◌, length, slice_range}
use Rattle.page_track.specs.Memory.{Memory}
use Rattle.virt_queue.specs.declared.fields.RingFault.{RingFault}
use Rattle.virt_queue.specs.Chain.{waits}
use Rattle.virt_queue.specs.Parts.{DescriptorChain, writable, total_len, write_joined}
use Rattle.virtio_net.specs.declared.net.Received.{Received}
use Rattle.virtio_net.specs.declared.net.Received.TheVariants.{Taken, Broken}
use Rattle.virtio_mmio.specs.Registers.{serves}
use Rattle.virtio_net.specs.Port.{Port, receive_queue, next_of, take_chain, return_chain}

-- the header before each frame: all 0 but the number of buffers, which is 1 (5.1.6 "Device
-- Operation")
abbrev pub header : List ℕ
header = 0 ∷ 0 ∷ 0 ∷ 0 ∷ 0 ∷ 0 ∷ 0 ∷ 0 ∷ 0 ∷ 0 ∷ 1 ∷ 0 ∷ []

-- whether the card can receive: it works on the queue, and there is a chain or a fault
abbrev pub can_receive : Port → Bool
can_receive port = serves port.card.device receive_queue && waits (next_of port receive_queue)

-- whether the writable parts of a chain have space for the header and a frame
abbrev pub has_space : DescriptorChain → List ℕ → Bool
has_space chain frame = nat_le (length (header ++ frame)) (total_len (writable chain.parts))

-- memory with the header and a frame in the writable parts, where they have the space
abbrev pub fill_chain : Memory → DescriptorChain → List ℕ → Memory
fill_chain memory chain frame =
    if has_space chain frame then write_joined memory (writable chain.parts) (header ++ frame)
    else memory

-- how many bytes were written
abbrev pub filled_len : DescriptorChain → List ℕ → ℕ
filled_len chain frame = if has_space chain frame then length (header ++ frame) else 0

-- what became of a frame: the port after it, and the fault, if one came
pub record Delivery : Type 0 where
  pub port : Port
  pub fault : Option RingFault

abbrev pub deliver_by : Port → List ℕ → Result (Option DescriptorChain) RingFault → Delivery
deliver_by port frame (Ok None) = record { port = port; fault = None }
deliver_by port frame (Ok (Some chain)) =
    let taken = take_chain port receive_queue (Ok (Some chain)) in
    let filled = record taken { memory = fill_chain port.memory chain frame } in
    record {
      port = return_chain filled receive_queue chain.head (filled_len chain frame);
      fault = None;
    }
deliver_by port frame (Err fault) = record {
  port = take_chain port receive_queue (Err fault);
  fault = Some fault;
}

-- a frame goes into the next chain of the receive queue
unfoldable pub deliver : Port → List ℕ → Delivery
deliver port frame = deliver_by port frame (next_of port receive_queue)

-- the MAC address that a frame comes from (IEEE 802.3, 3.1.1)
abbrev pub source_mac : List ℕ → List ℕ
source_mac frame = slice_range frame 6 12

-- the neighbour is the source of the frame, unless a fault came
abbrev pub meet_neighbour : Delivery → List ℕ → Port
meet_neighbour delivery frame =
    if is_none delivery.fault
    then record delivery.port { card = record delivery.port.card { neighbour = source_mac frame } }
    else delivery.port

abbrev pub received : Option RingFault → Received
received None = Taken
received (Some fault) = Broken fault
