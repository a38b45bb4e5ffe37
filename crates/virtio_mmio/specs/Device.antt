-- What a device over MMIO holds, its features and its configuration space (VIRTIO 1.1, 2.1 "Device
-- Status Field", 2.2 "Feature Bits", 4.2.2 "MMIO Device Register Layout", 5.1 "Network Device" and
-- 5.2 "Block Device").
use Rattle.std.specs.Prelude.{ℕ, ◌+◌, ◌/◌, ◌%◌, ◌^◌, ◌==◌, Bool, true, false, not, ◌&&◌, if◌then◌else◌, bit_and, bit_or, List, [], ◌∷◌}
use Rattle.std.specs.Int.{w64, to_le_bytes}
use Rattle.virt_queue.specs.Queue.{no_queue}
use Rattle.virt_queue.specs.declared.fields.QueueFields.{QueueFields}
use Rattle.virtio_mmio.specs.declared.kind.Kind.{Kind}
use Rattle.virtio_mmio.specs.declared.kind.Kind.TheVariants.{Network, Block}

-- a device: its kind, what the driver wrote, and its two queues, of which a block device has the
-- first alone
pub record Device : Type 0 where
  pub kind : Kind
  pub status : ℕ
  pub device_features_sel : ℕ
  pub driver_features : ℕ
  pub driver_features_sel : ℕ
  pub queue_sel : ℕ
  pub interrupt_status : ℕ
  pub first : QueueFields
  pub second : QueueFields

-- a device after a reset: every field is 0
abbrev pub reset_device : Kind → Device
reset_device kind = record {
  kind = kind;
  status = 0;
  device_features_sel = 0;
  driver_features = 0;
  driver_features_sel = 0;
  queue_sel = 0;
  interrupt_status = 0;
  first = no_queue;
  second = no_queue;
}

-- the device's number (5): 1 is a network card, 2 a block device
abbrev pub device_id : Kind → ℕ
device_id Network = 1
device_id (Block sectors) = 2

abbrev pub has_second_queue : Kind → Bool
has_second_queue Network = true
has_second_queue (Block sectors) = false

-- ---- features: VIRTIO_F_VERSION_1 is bit 32 (6), VIRTIO_NET_F_MAC bit 5 (5.1.3),
-- VIRTIO_BLK_F_FLUSH bit 9 (5.2.3)

abbrev pub version_1 : ℕ
version_1 = 2 ^ 32

abbrev pub offered_features : Kind → ℕ
offered_features Network = version_1 + 2 ^ 5
offered_features (Block sectors) = version_1 + 2 ^ 9

-- the driver's features are offered, and VERSION_1 is one of them
abbrev pub accepts_features : Kind → ℕ → Bool
accepts_features kind features =
    (bit_and features (offered_features kind) == features) && (features / 2 ^ 32 % 2 == 1)

-- ---- device status bits by their value (2.1)

abbrev pub driver_ok : ℕ
driver_ok = 4

abbrev pub features_ok : ℕ
features_ok = 8

abbrev pub needs_reset : ℕ
needs_reset = 64

abbrev pub has_bit : ℕ → ℕ → Bool
has_bit bit word = not (bit_and word bit == 0)

-- a device is live where the driver runs and no fault came
abbrev pub is_live : Device → Bool
is_live d = has_bit driver_ok d.status && not (has_bit needs_reset d.status)

-- ---- interrupt status bits by their value (4.2.2): a used buffer, and a change of the
-- configuration

abbrev pub used_buffer : ℕ
used_buffer = 1

abbrev pub configuration_change : ℕ
configuration_change = 2

-- a used buffer asks for an interrupt
abbrev pub raise_used : Device → Device
raise_used d = record d { interrupt_status = bit_or d.interrupt_status used_buffer }

-- a fault of a ring: the device needs a reset, and tells it where the driver runs (2.1.2)
abbrev pub fail_device : Device → Device
fail_device d = record d {
  status = bit_or d.status needs_reset;
  interrupt_status =
      if has_bit driver_ok d.status then bit_or d.interrupt_status configuration_change
      else d.interrupt_status;
}

-- ---- the configuration space (5.1.4 and 5.2.4): the MAC address, and the capacity in sectors;
-- zeros follow

abbrev pub config_bytes : Kind → List ℕ
config_bytes Network = 0x52 ∷ 0x54 ∷ 0x00 ∷ 0x12 ∷ 0x34 ∷ 0x56 ∷ 0 ∷ 0 ∷ []
config_bytes (Block sectors) = to_le_bytes w64 sectors
