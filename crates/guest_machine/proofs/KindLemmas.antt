-- What follows from the kinds of the devices.
use Rattle.std.proofs.Common.{◌≡◌, length, sym, ap, ◌∙◌}
use Rattle.machine_bytes.specs.declared.fields.StateFields.{StateFields}
use Rattle.rv_core.specs.Fields as hart
use Rattle.rv_platform.specs.Settled.{KeepsKinds}
use Rattle.rv_platform.specs.Step.{PlatformState}
use Rattle.rv_platform.specs.Values.{with_devices, with_hart}
use Rattle.virtio_blk.specs.Disk.{DiskState}
use Rattle.virtio_mmio.specs.Fields.{device_of}
use Rattle.virtio_mmio.specs.declared.kind.Kind.{Kind}
use Rattle.virtio_mmio.specs.declared.kind.Kind.TheVariants.{Network, Block}
use Rattle.guest_machine.specs.Guest.{platform_of}
use Rattle.guest_machine.specs.Kinds.{IsOfKinds}

-- kinds that are kept are still these
pub still_of_kinds : (p q : PlatformState) (d e : DiskState) → IsOfKinds p d → KeepsKinds p q
    → length e.mine ≡ length d.mine → IsOfKinds q e
still_of_kinds p q d e h k same = record {
  net = k.net ∙ h.net;
  blk = k.blk ∙ (h.blk ∙ ap Block (sym same));
}

-- a platform whose values were set is the one of these values
pub platform_set : (p q r : PlatformState) (d : DiskState) (f : StateFields) → IsOfKinds p d
    → q ≡ with_hart p f.hart f.csrs
    → r ≡ with_devices q f.net f.neighbour f.block
    → r ≡ platform_of f p.memory (length d.mine)
platform_set p q r d f k e g =
    let of : PlatformState → PlatformState = λ x. with_devices x f.net f.neighbour f.block in
    let with : Kind → Kind → PlatformState = λ a b. record {
      hart = hart.state_of f.hart;
      csrs = f.csrs;
      net = record { device = device_of a f.net; neighbour = f.neighbour };
      blk = device_of b f.block;
      memory = p.memory;
    } in
    g ∙ (ap of e ∙ (ap (λ (a : Kind). with a p.blk.kind) k.net ∙ ap (with Network) k.blk))
