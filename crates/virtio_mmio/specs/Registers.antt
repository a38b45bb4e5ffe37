-- The registers of a device by their offset: what each reads, and what a write does (VIRTIO 1.1,
-- 4.2.2 "MMIO Device Register Layout").
use Rattle.std.specs.Prelude.{ℕ, ◌+◌, ◌-◌, ◌*◌, ◌%◌, ◌^◌, ◌==◌, nat_le, Bool, true, false, ◌&&◌, ◌||◌, if◌then◌else◌, bit_and, bit_or, get_or, Option, Some, None, List, [], ◌∷◌}
use Rattle.std.specs.Int.{w32, bit_not}
use Rattle.std.specs.List.{find}
use Rattle.std.specs.Option.{option_map_or}
use Rattle.shared_definitions.specs.Halves.{low_half, high_half, with_low_half, with_high_half}
use Rattle.virt_queue.specs.Queue.{is_queue_size}
use Rattle.virt_queue.specs.declared.fields.QueueFields.{QueueFields}
use Rattle.virtio_mmio.specs.declared.kind.Event.{Event}
use Rattle.virtio_mmio.specs.declared.kind.Event.TheVariants.{Nothing, Notify, Reset, Ack}
use Rattle.virtio_mmio.specs.Device.{Device, is_live, reset_device, device_id, has_second_queue, offered_features, accepts_features, features_ok, needs_reset, fail_device, config_bytes}

-- ---- the selected queue

-- whether there is a queue with this number
abbrev pub has_queue : Device → ℕ → Bool
has_queue d k = (k == 0) || ((k == 1) && has_second_queue d.kind)

-- the queue with a number, where there is one
abbrev pub find_queue : Device → ℕ → Option QueueFields
find_queue d k =
    if k == 0 then Some d.first
    else if has_queue d k then Some d.second
    else None

-- whether there is such a queue, and it is ready; and whether a live device serves it
abbrev pub is_queue_ready : Device → ℕ → Bool
is_queue_ready d k =
    if k == 0 then d.first.ready
    else has_queue d k && d.second.ready

abbrev pub serves : Device → ℕ → Bool
serves d k = is_live d && is_queue_ready d k

-- what the selected queue gives, 0 where there is none
abbrev pub of_queue : Device → (QueueFields → ℕ) → ℕ
of_queue d field =
    if d.queue_sel == 0 then field d.first
    else if has_queue d d.queue_sel then field d.second
    else 0

-- the device with the selected queue changed, where there is one
abbrev pub with_queue : Device → (QueueFields → QueueFields) → Device
with_queue d change =
    if d.queue_sel == 0 then record d { first = change d.first }
    else if has_queue d d.queue_sel then record d { second = change d.second }
    else d

-- the most entries that a queue may have
abbrev pub queue_num_max : ℕ
queue_num_max = 256

-- the number of a queue changes only while it isn't ready
abbrev pub write_num : ℕ → QueueFields → QueueFields
write_num num q = if q.ready then q else record q { num = num }

abbrev pub ready_number : QueueFields → ℕ
ready_number q = if q.ready then 1 else 0

-- not ready: both positions are 0
abbrev pub stop_queue : QueueFields → QueueFields
stop_queue q = record q { ready = false; next = 0; used = 0 }

abbrev pub start_queue : QueueFields → QueueFields
start_queue q = record q { ready = true }

-- whether a queue can't be made ready: it isn't yet, and its number is no size
abbrev pub is_bad_size : Device → Bool
is_bad_size d = of_queue d (λ q. if q.ready || is_queue_size q.num then 0 else 1) == 1

abbrev pub write_ready : Device → ℕ → Device
write_ready d value =
    if value % 2 == 0 then with_queue d stop_queue
    else if is_bad_size d then fail_device d
    else with_queue d start_queue

-- ---- features and status

abbrev pub device_features : Device → ℕ
device_features d =
    if d.device_features_sel == 0 then low_half (offered_features d.kind)
    else if d.device_features_sel == 1 then high_half (offered_features d.kind)
    else 0

abbrev pub write_driver_features : Device → ℕ → Device
write_driver_features d value =
    if d.driver_features_sel == 0
    then record d { driver_features = with_low_half d.driver_features value }
    else if d.driver_features_sel == 1
    then record d { driver_features = with_high_half d.driver_features value }
    else d

-- a word with a bit as another word has it, and one without a bit
abbrev pub with_bit_of : ℕ → ℕ → ℕ → ℕ
with_bit_of bit other word = bit_or (bit_and word (bit_not w32 bit)) (bit_and other bit)

abbrev pub without_bit : ℕ → ℕ → ℕ
without_bit bit word = bit_and word (bit_not w32 bit)

-- 0 resets the device. Any other word is kept but for the bit that asks for a reset, which stays,
-- and the bit that accepts the features, which is kept only where they can be.
abbrev pub write_status : Device → ℕ → Device
write_status d value =
    if value == 0 then reset_device d.kind
    else (let kept = with_bit_of needs_reset d.status value in
    record d {
      status =
          if accepts_features d.kind d.driver_features then kept
          else without_bit features_ok kept;
    })

-- ---- the configuration space, from 0x100 on

abbrev pub config_start : ℕ
config_start = 0x100

abbrev pub config_byte : Device → ℕ → ℕ
config_byte d place = get_or (config_bytes d.kind) place 0

-- the number of so many bytes from a place on, little-endian
abbrev pub config_number : Device → ℕ → ℕ → ℕ
config_number d place width =
    if width == 1 then config_byte d place
    else if width == 2 then config_byte d place + 2 ^ 8 * config_byte d (place + 1)
    else config_byte d place + 2 ^ 8 * config_byte d (place + 1)
    + 2 ^ 16 * config_byte d (place + 2) + 2 ^ 24 * config_byte d (place + 3)

-- aligned accesses of 1, 2 and 4 bytes are taken there
abbrev pub is_config_access : ℕ → ℕ → Bool
is_config_access offset width =
    ((width == 1) || ((width == 2) || (width == 4)))
    && ((offset % width == 0) && (nat_le config_start offset && nat_le (offset + width) 0x1000))

unfoldable pub read_config : Device → ℕ → ℕ → Option ℕ
read_config d offset width =
    if is_config_access offset width then Some (config_number d (offset - config_start) width)
    else None

-- ---- the registers that can be read; every other reads 0

pub record Readable : Type 0 where
  pub offset : ℕ
  pub read : Device → ℕ

abbrev pub readable : ℕ → (Device → ℕ) → Readable
readable offset read = record { offset = offset; read = read }

unfoldable pub readables : List Readable
readables =
    readable 0x000 (λ d. 0x74726976) ∷  -- MagicValue: "virt"
    readable 0x004 (λ d. 2) ∷  -- Version
    readable 0x008 (λ d. device_id d.kind) ∷  -- DeviceID
    readable 0x00C (λ d. 0x4F4C4F43) ∷  -- VendorID: "COLO"
    readable 0x010 device_features ∷  -- DeviceFeatures
    readable 0x034 (λ d. of_queue d (λ q. queue_num_max)) ∷  -- QueueNumMax
    readable 0x044 (λ d. of_queue d ready_number) ∷  -- QueueReady
    readable 0x060 (λ d. d.interrupt_status) ∷  -- InterruptStatus
    readable 0x070 (λ d. d.status) ∷  -- Status
    readable 0x0FC (λ d. 0) ∷ []  -- ConfigGeneration

unfoldable pub read_register : Device → ℕ → ℕ
read_register d offset =
    if nat_le config_start offset then config_number d (offset - config_start) 4
    else option_map_or (λ r. r.read d) (find (λ r. r.offset == offset) readables) 0

-- ---- the registers that can be written; a write to any other is ignored

pub record Writable : Type 0 where
  pub offset : ℕ
  pub write : Device → ℕ → Device
  pub event : ℕ → Event

abbrev pub writable : ℕ → (Device → ℕ → Device) → Writable
writable offset write = record { offset = offset; write = write; event = λ value. Nothing }

-- a queue's address, of which a write changes one half
abbrev pub with_desc : (ℕ → ℕ → ℕ) → Device → ℕ → Device
with_desc half d value = with_queue d (λ q. record q { desc = half q.desc value })

abbrev pub with_driver : (ℕ → ℕ → ℕ) → Device → ℕ → Device
with_driver half d value = with_queue d (λ q. record q { driver = half q.driver value })

abbrev pub with_device : (ℕ → ℕ → ℕ) → Device → ℕ → Device
with_device half d value = with_queue d (λ q. record q { device = half q.device value })

unfoldable pub writables : List Writable
writables =
    writable 0x014 (λ d v. record d { device_features_sel = v }) ∷  -- DeviceFeaturesSel
    writable 0x020 write_driver_features ∷  -- DriverFeatures
    writable 0x024 (λ d v. record d { driver_features_sel = v }) ∷  -- DriverFeaturesSel
    writable 0x030 (λ d v. record d { queue_sel = v }) ∷  -- QueueSel
    writable 0x038 (λ d v. with_queue d (write_num v)) ∷  -- QueueNum
    writable 0x044 write_ready ∷  -- QueueReady
    record { offset = 0x050; write = λ d v. d; event = λ v. Notify v } ∷  -- QueueNotify
    record {
      offset = 0x064;
      write = λ d v. record d { interrupt_status = without_bit v d.interrupt_status };
      event = λ v. Ack;
    } ∷  -- InterruptACK
    record {
      offset = 0x070;
      write = write_status;
      event = λ v. if v == 0 then Reset else Nothing;
    } ∷  -- Status
    writable 0x080 (with_desc with_low_half) ∷  -- QueueDescLow
    writable 0x084 (with_desc with_high_half) ∷  -- QueueDescHigh
    writable 0x090 (with_driver with_low_half) ∷  -- QueueDriverLow
    writable 0x094 (with_driver with_high_half) ∷  -- QueueDriverHigh
    writable 0x0A0 (with_device with_low_half) ∷  -- QueueDeviceLow
    writable 0x0A4 (with_device with_high_half) ∷ []  -- QueueDeviceHigh

unfoldable pub write_register : Device → ℕ → ℕ → Device
write_register d offset value =
    option_map_or (λ r. r.write d value) (find (λ r. r.offset == offset) writables) d

unfoldable pub write_event : ℕ → ℕ → Event
write_event offset value =
    option_map_or (λ r. r.event value) (find (λ r. r.offset == offset) writables) Nothing
