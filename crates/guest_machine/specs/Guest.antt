-- What the machine means as a guest: its state as bytes, pages and sectors, and the functions of
-- its kind on these.
use Rattle.std.specs.Prelude.{ℕ, zero, suc, ◌/◌, Bool, List, [], ◌∷◌, length, take, drop}
use Rattle.std.specs.List.{flat_map}
use Rattle.machine_bytes.specs.Reading.{accepts, fields_in}
use Rattle.machine_bytes.specs.Spelling.{bytes_of}
use Rattle.machine_bytes.specs.declared.fields.StateFields.{StateFields}
use Rattle.page_track.specs.Memory.{Memory, page_size}
use Rattle.rv_core.specs.Fields as hart
use Rattle.state_wire.specs.Guest.{GuestState, Kind, Meaning}
use Rattle.virtio_mmio.specs.Fields as device
use Rattle.virtio_mmio.specs.declared.kind.Kind.TheVariants.{Network, Block}
use Rattle.virtio_net.specs.Port.{port_of}
use Rattle.virtio_net.specs.Receive.{can_receive}
use Rattle.rv_platform.specs.Step.{PlatformState}
use Rattle.guest_machine.specs.Turn.{State, make_turn}

-- ---- memory as pages

-- the first n pages
unfoldable pub first_pages : ℕ → List ℕ → List (List ℕ)
first_pages zero bytes = []
first_pages (suc n) bytes = take page_size bytes ∷ first_pages n (drop page_size bytes)

unfoldable pub pages_of : List ℕ → List (List ℕ)
pages_of bytes = first_pages (length bytes / page_size) bytes

-- memory of these pages, in order
unfoldable pub memory_of : List (List ℕ) → Memory
memory_of pages = record { bytes = flat_map (λ page. page) pages }

-- ---- the values that are neither memory nor disk

abbrev pub fields_of : PlatformState → StateFields
fields_of p = record {
  hart = hart.fields_of p.hart;
  csrs = p.csrs;
  net = device.fields_of p.net.device;
  neighbour = p.net.neighbour;
  block = device.fields_of p.blk;
}

-- the platform of these values, with memory, over a disk of so many sectors
abbrev pub platform_of : StateFields → Memory → ℕ → PlatformState
platform_of f memory sectors = record {
  hart = hart.state_of f.hart;
  csrs = f.csrs;
  net = record { device = device.device_of Network f.net; neighbour = f.neighbour };
  blk = device.device_of (Block sectors) f.block;
  memory = memory;
}

-- ---- the state of a guest

unfoldable pub guest_state : State → GuestState
guest_state s = record {
  bytes = bytes_of (fields_of s.platform);
  pages = pages_of s.platform.memory.bytes;
  sectors = s.disk.mine;
}

unfoldable pub state_in : GuestState → State
state_in g = record {
  platform = platform_of (fields_in g.bytes) (memory_of g.pages) (length g.sectors);
  disk = record { mine = g.sectors };
}

-- ---- the kind: how many pages and sectors there are

abbrev pub accepts_frame : State → Bool
accepts_frame s = can_receive (port_of s.platform.net s.platform.memory)

abbrev pub machine_kind : ℕ → ℕ → Kind
machine_kind pages sectors = record {
  page_count = pages;
  sector_count = sectors;
  can_receive = λ g. accepts_frame (state_in g);
  accepts = accepts;
  next = λ g turn. guest_state (make_turn (state_in g) turn).state;
  sent = λ g turn. (make_turn (state_in g) turn).frames;
}

-- ---- the machine

-- its state, how many turns this value has made, and whether it ran out of memory
pub record MachineParts : Type 0 where
  pub state : State
  pub turned : ℕ
  pub spent : Bool

abbrev pub machine_meaning : MachineParts → Meaning
machine_meaning m = record {
  kind = machine_kind
      (length m.state.platform.memory.bytes / page_size) (length m.state.disk.mine);
  state = guest_state m.state;
  turned = m.turned;
}
