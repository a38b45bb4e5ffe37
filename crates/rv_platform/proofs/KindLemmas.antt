-- A write of a register, and a request that is served, leave the device's kind.
use Rattle.std.proofs.Common.{◌≡◌, ℕ, ◌%◌, ◌==◌, Bool, true, false, Option, Some, None, Result, Ok, Err, List, [], ◌∷◌, drop, if◌then◌else◌, refl}
use Rattle.std.specs.List.{find}
use Rattle.std.specs.Option.{option_map_or}
use Rattle.shared_definitions.specs.Halves.{with_high_half, with_low_half}
use Rattle.page_track.specs.Memory.{Memory}
use Rattle.virt_queue.specs.Chain.{next_chain}
use Rattle.virt_queue.specs.Parts.{DescriptorChain}
use Rattle.virt_queue.specs.Ring.{after_position}
use Rattle.virt_queue.specs.declared.fields.QueueFields.{QueueFields}
use Rattle.virt_queue.specs.declared.fields.RingFault.{RingFault}
use Rattle.virtio_blk.specs.Disk.{DiskState}
use Rattle.virtio_blk.specs.Serve.{Serving, return_device, serve, serve_chain, serve_next}
use Rattle.virtio_mmio.specs.Device.{Device, fail_device}
use Rattle.virtio_mmio.specs.Registers.{Writable, has_queue, is_bad_size, start_queue, stop_queue, with_desc, with_device, with_driver, with_queue, writables, write_driver_features, write_num, write_ready, write_register, write_status}
use Rattle.virtio_mmio.specs.declared.kind.Kind.{Kind}

-- a choice of two devices of one kind
pub either_kind : (b : Bool) (k : Kind) (x y : Device) → x.kind ≡ k → y.kind ≡ k → (if b then x else y).kind ≡ k
either_kind true k x y p q = p
either_kind false k x y p q = q

queue_kind : (d : Device) (change : QueueFields → QueueFields) → (with_queue d change).kind ≡ d.kind
queue_kind d change =
    let second = record d { second = change d.second } in
    either_kind (d.queue_sel == 0) d.kind (record d { first = change d.first })
    (if has_queue d d.queue_sel then second else d) refl
    (either_kind (has_queue d d.queue_sel) d.kind second d refl refl)

ready_kind : (d : Device) (value : ℕ) → (write_ready d value).kind ≡ d.kind
ready_kind d value =
    let started = with_queue d start_queue in
    either_kind (value % 2 == 0) d.kind (with_queue d stop_queue)
    (if is_bad_size d then fail_device d else started) (queue_kind d stop_queue)
    (either_kind (is_bad_size d) d.kind (fail_device d) started refl (queue_kind d start_queue))

features_kind : (d : Device) (value : ℕ) → (write_driver_features d value).kind ≡ d.kind
features_kind d value =
    let high = record d { driver_features = with_high_half d.driver_features value } in
    either_kind (d.driver_features_sel == 0) d.kind
    (record d { driver_features = with_low_half d.driver_features value })
    (if d.driver_features_sel == 1 then high else d) refl
    (either_kind (d.driver_features_sel == 1) d.kind high d refl refl)

status_kind : (d : Device) (value : ℕ) → (write_status d value).kind ≡ d.kind
status_kind d value = either_kind _ d.kind _ _ refl refl

-- each of these rows keeps the kind
Keeps : List Writable → Type 0
Keeps [] = Unit {0}
Keeps (r ∷ rows) = ((d : Device) (v : ℕ) → (r.write d v).kind ≡ d.kind) × Keeps rows

found_step : (r : Writable) (rows : List Writable) (p : Writable → Bool) (d : Device) (v : ℕ) (b : Bool) → p r ≡ b
    → (r.write d v).kind ≡ d.kind
    → (option_map_or (λ (x : Writable). x.write d v) (find p rows) d).kind ≡ d.kind
    → (option_map_or (λ (x : Writable). x.write d v) (find p (r ∷ rows)) d).kind ≡ d.kind
found_step r rows p d v true e h rest = rw e h
found_step r rows p d v false e h rest = rw e rest

found_keeps : (rows : List Writable) (p : Writable → Bool) (d : Device) (v : ℕ) → Keeps rows
    → (option_map_or (λ (r : Writable). r.write d v) (find p rows) d).kind ≡ d.kind
unfolding Keeps
found_keeps [] p d v h = refl
found_keeps (r ∷ rows) p d v h = found_step r rows p d v (p r) refl (h.0 d v) (found_keeps rows p d v h.1)

desc_kind : (half : ℕ → ℕ → ℕ) (d : Device) (v : ℕ) → (with_desc half d v).kind ≡ d.kind
desc_kind half d v = queue_kind d (λ q. record q { desc = half q.desc v })

driver_kind : (half : ℕ → ℕ → ℕ) (d : Device) (v : ℕ) → (with_driver half d v).kind ≡ d.kind
driver_kind half d v = queue_kind d (λ q. record q { driver = half q.driver v })

queue_device_kind : (half : ℕ → ℕ → ℕ) (d : Device) (v : ℕ) → (with_device half d v).kind ≡ d.kind
queue_device_kind half d v = queue_kind d (λ q. record q { device = half q.device v })

addresses_keep : Keeps (drop 9 writables)
unfolding Keeps writables
addresses_keep = (
  desc_kind with_low_half,
  (
    desc_kind with_high_half,
    (
      driver_kind with_low_half,
      (driver_kind with_high_half, (queue_device_kind with_low_half, (queue_device_kind with_high_half, tt))),
    ),
  ),
)

all_keep : Keeps writables
unfolding Keeps writables
all_keep = (
  λ d v. refl,
  (
    features_kind,
    (
      λ d v. refl,
      (
        λ d v. refl,
        (
          λ d v. queue_kind d (write_num v),
          (
            ready_kind,
            (λ d v. refl, (λ d v. refl, (status_kind, addresses_keep))),
          ),
        ),
      ),
    ),
  ),
)

pub write_keeps_kind : (d : Device) (offset value : ℕ) → (write_register d offset value).kind ≡ d.kind
unfolding write_register
write_keeps_kind d offset value = found_keeps writables _ d value all_keep

-- ---- a block request

returned_kind : (d : Device) (memory : Memory) (head len : ℕ) → (return_device d memory head len).kind ≡ d.kind
returned_kind d memory head len =
    either_kind _ d.kind _ _ (either_kind _ d.kind _ _ refl refl) refl

either_serving : (b : Bool) (k : Kind) (x y : Serving) → x.device.kind ≡ k → y.device.kind ≡ k
    → (if b then x else y).device.kind ≡ k
either_serving true k x y p q = p
either_serving false k x y p q = q

chain_kind : (d : Device) (memory : Memory) (disk : DiskState) (chain : DescriptorChain)
    → (serve_chain d memory disk chain).device.kind ≡ d.kind
chain_kind d memory disk chain = either_serving _ d.kind _ _ (returned_kind d _ chain.head _) refl

next_kind : (d : Device) (memory : Memory) (disk : DiskState) (r : Result (Option DescriptorChain) RingFault)
    → (serve_next d memory disk r).device.kind ≡ d.kind
next_kind d memory disk (Ok None) = refl
next_kind d memory disk (Ok (Some chain)) =
    chain_kind (record d { first = record d.first { next = after_position d.first.next } }) memory disk chain
next_kind d memory disk (Err fault) = refl

pub serve_keeps_kind : (d : Device) (memory : Memory) (disk : DiskState) → (serve d memory disk).device.kind ≡ d.kind
unfolding serve
serve_keeps_kind d memory disk =
    either_serving _ d.kind _ _ (next_kind d memory disk (next_chain memory.bytes d.first)) refl
