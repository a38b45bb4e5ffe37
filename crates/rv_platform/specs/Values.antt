-- The values that the parts of a platform hold, and the platform with other values.
use Rattle.std.specs.Prelude.{◌≡◌, List, ℕ}
use Rattle.rv_core.specs.Fields as hart
use Rattle.rv_core.specs.declared.registers.HartFields.{HartFields}
use Rattle.rv_traps.specs.Fields as csrs
use Rattle.rv_traps.specs.declared.fields.CsrFields.{CsrFields}
use Rattle.virtio_mmio.specs.Device.{Device}
use Rattle.virtio_mmio.specs.Fields as device
use Rattle.virtio_mmio.specs.declared.fields.DeviceFields.{DeviceFields}
use Rattle.rv_platform.specs.Step.{PlatformState}

-- ---- the hart and the CSRs

abbrev pub hart_fields : PlatformState → HartFields
hart_fields p = hart.fields_of p.hart

abbrev pub IsLegalHart : HartFields → Type 0
IsLegalHart h = hart.IsLegal h

abbrev pub IsLegalCsrs : CsrFields → Type 0
IsLegalCsrs c = csrs.IsLegal c

-- the hart's values make the hart again
abbrev pub MakesHart : HartFields → PlatformState → Type 0
MakesHart h p = hart.state_of h ≡ p.hart

abbrev pub with_hart : PlatformState → HartFields → CsrFields → PlatformState
with_hart p h c = record p { hart = hart.state_of h; csrs = c }

-- ---- a device

abbrev pub device_fields : Device → DeviceFields
device_fields d = device.fields_of d

-- values that a device of this one's kind can hold, and those that make it again
abbrev pub IsLegalFor : Device → DeviceFields → Type 0
IsLegalFor d f = device.CanHold d.kind f

abbrev pub MakesDevice : DeviceFields → Device → Type 0
MakesDevice f d = device.device_of d.kind f ≡ d

abbrev pub with_devices : PlatformState → DeviceFields → List ℕ → DeviceFields
    → PlatformState
with_devices p network neighbour block = record p {
  net = record { device = device.device_of p.net.device.kind network; neighbour = neighbour };
  blk = device.device_of p.blk.kind block;
}
