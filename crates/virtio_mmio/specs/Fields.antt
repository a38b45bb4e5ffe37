-- The values of the machine's state that a device holds, and the device that has them.
use Rattle.std.specs.Prelude.{◌≡◌, ℕ, ◌∷◌, [], true, false, get_or}
use Rattle.virt_queue.specs.Queue.{is_legal, no_queue}
use Rattle.virt_queue.specs.declared.fields.QueueFields.{QueueFields}
use Rattle.virtio_mmio.specs.declared.fields.DeviceFields.{DeviceFields}
use Rattle.virtio_mmio.specs.declared.kind.Kind.{Kind}
use Rattle.virtio_mmio.specs.Device.{Device, has_second_queue}

abbrev pub fields_of : Device → DeviceFields
fields_of d = record {
  status = d.status;
  device_features_sel = d.device_features_sel;
  driver_features = d.driver_features;
  driver_features_sel = d.driver_features_sel;
  queue_sel = d.queue_sel;
  interrupt_status = d.interrupt_status;
  queues = d.first ∷ d.second ∷ [];
}

-- queue k of the values
abbrev pub queue_at : DeviceFields → ℕ → QueueFields
queue_at f k = get_or f.queues k no_queue

-- the device of this kind with these values
abbrev pub device_of : Kind → DeviceFields → Device
device_of kind f = record {
  kind = kind;
  status = f.status;
  device_features_sel = f.device_features_sel;
  driver_features = f.driver_features;
  driver_features_sel = f.driver_features_sel;
  queue_sel = f.queue_sel;
  interrupt_status = f.interrupt_status;
  first = queue_at f 0;
  second = queue_at f 1;
}

-- what a device of this kind can hold: each ready queue has a size, and a block device's second
-- queue is all 0
pub record CanHold (kind : Kind) (f : DeviceFields) : Type 0 where
  pub first : is_legal (queue_at f 0) ≡ true
  pub second : is_legal (queue_at f 1) ≡ true
  pub one_queue : has_second_queue kind ≡ false → queue_at f 1 ≡ no_queue
