-- What one notify sends, said of all its chains at once: so many chains, one after the other, and
-- why no more.
use Rattle.std.specs.Prelude.{◌≡◌, ◌⊎◌, ◌≤◌, ◌<◌, ℕ, zero, suc, true, List, [], ◌++◌}
use Rattle.virt_queue.specs.declared.fields.RingFault.{RingFault}
use Rattle.virtio_mmio.specs.declared.kind.Served.{Served}
use Rattle.virtio_mmio.specs.declared.kind.Served.TheVariants.{Done, Idle, Broken}
use Rattle.virtio_mmio.specs.Registers.{serves}
use Rattle.virtio_net.specs.Port.{Port, send_queue, queue_of}
use Rattle.virtio_net.specs.Send.{Sending, send_chain, send}

-- the port after k chains
unfoldable pub port_after : ℕ → Port → Port
port_after zero port = port
port_after (suc k) port = port_after k (send_chain port).port

-- the frames of k chains, in order
unfoldable pub frames_of : ℕ → Port → List (List ℕ)
frames_of zero port = []
frames_of (suc k) port = (send_chain port).frames ++ frames_of k (send_chain port).port

-- the answer after k chains
abbrev pub answer_after : ℕ → Served → Served
answer_after zero so_far = so_far
answer_after (suc k) so_far = Done

-- what k chains sent
abbrev pub sent_by : ℕ → Served → Port → Sending
sent_by k so_far port = record {
  port = port_after k port;
  frames = frames_of k port;
  answer = answer_after k so_far;
}

-- after k chains no chain is left
abbrev pub IsLast : ℕ → Port → Type 0
IsLast k port = (send_chain (port_after k port)).answer ≡ Idle

-- after k chains a fault comes, and this is what was sent with it
abbrev pub IsBroken : ℕ → Port → Sending → RingFault → Type 0
IsBroken k port sending fault = let last = send_chain (port_after k port) in
    (last.answer ≡ Broken fault)
    × (sending ≡ record {
      port = last.port;
      frames = frames_of k port ++ last.frames;
      answer = Broken fault;
    })

-- k chains were sent, each of them wholly, and that is all: as many were asked for, none is left,
-- or a fault came
pub record SendsChains (most : ℕ) (so_far : Served) (port : Port) (sending : Sending) : Type 0 where
  pub k : ℕ
  pub within : k ≤ most
  pub each : (j : ℕ) → j < k → (send_chain (port_after j port)).answer ≡ Done
  pub all : (((k ≡ most) ⊎ IsLast k port) × (sending ≡ sent_by k so_far port))
      ⊎ ((fault : RingFault) × IsBroken k port sending fault)

-- one notify of a card that works on its queue sends at most as many chains as the queue's number
abbrev pub NotifySends : Port → Type 0
NotifySends port = serves port.card.device send_queue ≡ true →
    SendsChains (queue_of port.card.device send_queue).num Idle port (send port)
