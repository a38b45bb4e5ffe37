-- A network card and the memory that it works on: its queues, the chains that it takes from them
-- and returns (VIRTIO 1.1, 2.6.13 "Supplying Buffers to The Device", 2.6.14 "Receiving Used Buffers
-- From The Device" and 5.1 "Network Device").
use Rattle.std.specs.Prelude.{ℕ, ◌==◌, if◌then◌else◌, Option, Result, Ok, Err, List, replicate}
use Rattle.page_track.specs.Memory.{Memory}
use Rattle.virt_queue.specs.declared.fields.QueueFields.{QueueFields}
use Rattle.virt_queue.specs.declared.fields.RingFault.{RingFault}
use Rattle.virt_queue.specs.Chain.{next_chain, after_chain}
use Rattle.virt_queue.specs.Parts.{DescriptorChain}
use Rattle.virt_queue.specs.Ring.{with_used, asks_interrupt, after_position}
use Rattle.virtio_mmio.specs.Device.{Device, fail_device, raise_used}
use Rattle.virtio_mmio.specs.Registers.{write_event, write_register}
use Rattle.virtio_mmio.specs.declared.kind.Event.{Event}
use Rattle.virtio_mmio.specs.declared.kind.Event.TheVariants.{Nothing, Notify, Reset, Ack}
use Rattle.virtio_mmio.specs.Lending.{with_numbered}

-- a network card: its registers and queues, and the MAC address of its neighbour, all 0 before a
-- frame came
pub record Card : Type 0 where
  pub device : Device
  pub neighbour : List ℕ

-- a card and memory
pub record Port : Type 0 where
  pub card : Card
  pub memory : Memory

abbrev pub port_of : Card → Memory → Port
port_of card memory = record { card = card; memory = memory }

-- a reset of the card forgets its neighbour
abbrev pub neighbour_after : Event → List ℕ → List ℕ
neighbour_after Nothing neighbour = neighbour
neighbour_after (Notify queue) neighbour = neighbour
neighbour_after Reset neighbour = replicate 6 0
neighbour_after Ack neighbour = neighbour

-- the card after the driver wrote to a register
abbrev pub write_card : Card → ℕ → ℕ → Card
write_card card offset value = record {
  device = write_register card.device offset value;
  neighbour = neighbour_after (write_event offset value) card.neighbour;
}

-- the port with another device
abbrev pub with_device : Port → Device → Port
with_device port device = record port { card = record port.card { device = device } }

-- the queue by which the driver gets frames, and the one by which it sends them (5.1.2)
abbrev pub receive_queue : ℕ
receive_queue = 0

abbrev pub send_queue : ℕ
send_queue = 1

abbrev pub queue_of : Device → ℕ → QueueFields
queue_of d k = if k == 0 then d.first else d.second

-- the next chain of queue k
abbrev pub next_of : Port → ℕ → Result (Option DescriptorChain) RingFault
next_of port k = next_chain port.memory.bytes (queue_of port.card.device k)

-- the port after it was asked for: a chain that is given is taken from the queue, and a fault makes
-- the device fail
abbrev pub take_chain : Port → ℕ → Result (Option DescriptorChain) RingFault → Port
take_chain port k (Ok chain) =
    let d = port.card.device in
    with_device port (with_numbered d k (after_chain (queue_of d k) (Ok chain)))
take_chain port k (Err fault) = with_device port (fail_device port.card.device)

-- the port after a chain was returned to queue k: the used ring has it, and the driver may be
-- interrupted
unfoldable pub return_chain : Port → ℕ → ℕ → ℕ → Port
return_chain port k head len =
    let d = port.card.device in
    let q = queue_of d k in
    let memory = with_used port.memory q head len in
    let returned = with_numbered d k (record q { used = after_position q.used }) in
    record {
      card = record port.card {
        device = if asks_interrupt memory.bytes q then raise_used returned else returned;
      };
      memory = memory;
    }
