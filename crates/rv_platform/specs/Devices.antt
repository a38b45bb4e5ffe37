-- What happens to the platform between its steps: the clock goes on, a frame is received, a block
-- request is served (VIRTIO 1.1, 5.1.6.4 and 5.2.6; RISC-V privileged, 3.2.1).
use Rattle.std.specs.Prelude.{ℕ, ◌+◌, ◌%◌, ◌^◌, false, List, replicate}
use Rattle.page_track.specs.Memory.{Memory}
use Rattle.rv_core.specs.Registers.{unreserve}
use Rattle.rv_traps.specs.Fields.{fields_of}
use Rattle.rv_traps.specs.Trap.{boot_csrs}
use Rattle.virtio_blk.specs.Disk.{DiskState}
use Rattle.virtio_blk.specs.Serve.{serve}
use Rattle.virtio_mmio.specs.Device.{reset_device}
use Rattle.virtio_mmio.specs.declared.kind.Kind.TheVariants.{Network, Block}
use Rattle.virtio_mmio.specs.declared.kind.Served.{Served}
use Rattle.virtio_net.specs.Port.{port_of}
use Rattle.virtio_net.specs.Receive.{deliver, meet_neighbour}
use Rattle.rv_platform.specs.Step.{PlatformState, unreserve_by}

-- a platform with this memory that starts at an address, over a disk of so many sectors: each
-- register is 0, the CSRs are as they start, both devices are reset, and there is no neighbour
-- (RISC-V privileged, 3.4)
abbrev pub start_platform : ℕ → Memory → ℕ → PlatformState
start_platform entry memory sectors = record {
  hart = record { pc = entry; x = replicate 32 0; reserved = false; address = 0 };
  csrs = fields_of boot_csrs;
  net = record { device = reset_device Network; neighbour = replicate 6 0 };
  blk = reset_device (Block sectors);
  memory = memory;
}

-- the clock goes on by so many microseconds
abbrev pub advance_clock : PlatformState → ℕ → PlatformState
advance_clock p ticks =
    record p { csrs = record p.csrs { mtime = (p.csrs.mtime + ticks) % 2 ^ 64 } }

-- the network card receives a frame, which ends the reservation
unfoldable pub receive_frame : PlatformState → List ℕ → PlatformState
receive_frame p frame =
    let port = meet_neighbour (deliver (port_of p.net p.memory) frame) frame in
    record p { hart = unreserve p.hart; net = port.card; memory = port.memory }

-- what the block device answered, and the platform and the disk after it
pub record BlockStep : Type 0 where
  pub answer : Served
  pub platform : PlatformState
  pub disk : DiskState

-- the block device serves the next request, if there is one
unfoldable pub serve_block : PlatformState → DiskState → BlockStep
serve_block p disk = let serving = serve p.blk p.memory disk in record {
  answer = serving.answer;
  platform = record p {
    hart = unreserve_by serving.answer p.hart;
    blk = serving.device;
    memory = serving.memory;
  };
  disk = serving.disk;
}
