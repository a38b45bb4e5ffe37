-- Which values a machine can have beside its memory and its disk.
use Rattle.std.specs.Prelude.{◌≡◌, ℕ, ◌<◌, ◌%◌, ◌^◌, length, slice_index}
use Rattle.shared_definitions.specs.Bytes.{AreBytes}
use Rattle.rv_core.specs.declared.registers.HartFields.{HartFields}
use Rattle.rv_traps.specs.CsrState.{AreLegal}
use Rattle.rv_traps.specs.declared.fields.CsrFields.{CsrFields}
use Rattle.virt_queue.specs.declared.fields.QueueFields.{QueueFields}
use Rattle.virtio_mmio.specs.declared.fields.DeviceFields.{DeviceFields}
use Rattle.virtio_mmio.specs.declared.kind.Kind.TheVariants.{Network, Block}
use Rattle.virtio_mmio.specs.Fields.{CanHold, queue_at}
use Rattle.machine_bytes.specs.declared.fields.StateFields.{StateFields}

-- what the hart, the CSRs and both devices can hold; a disk may have any number of sectors
pub record IsLegal (v : StateFields) : Type 0 where
  pub hart : v.hart.pc % 4 ≡ 0
  pub csrs : AreLegal v.csrs.mstatus v.csrs.mie v.csrs.mtvec v.csrs.mepc
  pub net : CanHold Network v.net
  pub block : (sectors : ℕ) → CanHold (Block sectors) v.block

-- ---- each number fits its type

pub record IsHartInRange (h : HartFields) : Type 0 where
  pub pc : h.pc < 2 ^ 32
  pub count : length h.x ≡ 31
  pub x : (k : ℕ) → slice_index h.x k < 2 ^ 32
  pub address : h.address < 2 ^ 32

pub record AreCsrsInRange (c : CsrFields) : Type 0 where
  pub mstatus : c.mstatus < 2 ^ 32
  pub mie : c.mie < 2 ^ 32
  pub mtvec : c.mtvec < 2 ^ 32
  pub mscratch : c.mscratch < 2 ^ 32
  pub mepc : c.mepc < 2 ^ 32
  pub mcause : c.mcause < 2 ^ 32
  pub mtval : c.mtval < 2 ^ 32
  pub mtime : c.mtime < 2 ^ 64
  pub mtimecmp : c.mtimecmp < 2 ^ 64
  pub steps : c.steps < 2 ^ 64

pub record IsQueueInRange (q : QueueFields) : Type 0 where
  pub num : q.num < 2 ^ 32
  pub desc : q.desc < 2 ^ 64
  pub driver : q.driver < 2 ^ 64
  pub device : q.device < 2 ^ 64
  pub next : q.next < 2 ^ 16
  pub used : q.used < 2 ^ 16

-- a device beside its queues
pub record IsDeviceInRange (d : DeviceFields) : Type 0 where
  pub status : d.status < 2 ^ 32
  pub device_features_sel : d.device_features_sel < 2 ^ 32
  pub driver_features : d.driver_features < 2 ^ 64
  pub driver_features_sel : d.driver_features_sel < 2 ^ 32
  pub queue_sel : d.queue_sel < 2 ^ 32
  pub interrupt_status : d.interrupt_status < 2 ^ 32

-- whole values; what the block device's second queue is, `IsLegal` says
pub record IsInRange (v : StateFields) : Type 0 where
  pub hart : IsHartInRange v.hart
  pub csrs : AreCsrsInRange v.csrs
  pub net : IsDeviceInRange v.net
  pub net_queues : length v.net.queues ≡ 2
  pub receives : IsQueueInRange (queue_at v.net 0)
  pub sends : IsQueueInRange (queue_at v.net 1)
  pub count : length v.neighbour ≡ 6
  pub neighbour : AreBytes v.neighbour
  pub block : IsDeviceInRange v.block
  pub block_queues : length v.block.queues ≡ 2
  pub serves : IsQueueInRange (queue_at v.block 0)
