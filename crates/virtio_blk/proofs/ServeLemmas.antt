-- What a call does where its ring gave a chain.
use Rattle.std.proofs.Common.{◌≡◌, true, Option, Some, None, Result, Ok, Err, refl, ap, sym, ◌∙◌}
use Rattle.page_track.specs.Memory.{Memory}
use Rattle.virt_queue.specs.Chain.{next_chain, is_given, chain_of, after_chain}
use Rattle.virt_queue.specs.Parts.{DescriptorChain}
use Rattle.virt_queue.specs.declared.fields.RingFault.{RingFault}
use Rattle.virtio_mmio.specs.Device.{Device}
use Rattle.virtio_mmio.specs.Registers.{serves}
use Rattle.virtio_blk.specs.Disk.{DiskState}
use Rattle.virtio_blk.specs.Serve.{serve, serve_next, serve_chain}

by_ring : (d : Device) (m : Memory) (k : DiskState) (r : Result (Option DescriptorChain) RingFault)
    → Ok true ≡ is_given r
    → serve_next d m k r ≡ serve_chain (record d { first = after_chain d.first r }) m k (chain_of r)
by_ring d m k (Ok None) e = absurd (cc)
by_ring d m k (Ok (Some chain)) e = refl
by_ring d m k (Err fault) e = absurd (cc)

pub serve_given : (d : Device) (m : Memory) (k : DiskState) → serves d 0 ≡ true
    → Ok true ≡ is_given (next_chain m.bytes d.first)
    → serve d m k
    ≡ serve_chain (record d { first = after_chain d.first (next_chain m.bytes d.first) }) m k (chain_of
    (next_chain m.bytes d.first))
unfolding serve
serve_given d m k live given = rw live (by_ring d m k (next_chain m.bytes d.first) given)

-- the same where the device and the chain are those that the ring left
pub serves_so : (d after : Device) (m : Memory) (k : DiskState) (chain : DescriptorChain)
    → serves d 0 ≡ true
    → Ok true ≡ is_given (next_chain m.bytes d.first)
    → after ≡ record d { first = after_chain d.first (next_chain m.bytes d.first) }
    → chain ≡ chain_of (next_chain m.bytes d.first)
    → serve_chain after m k chain ≡ serve d m k
serves_so d after m k chain live given is_after is_chain =
    ap (λ (x : Device). serve_chain x m k chain) is_after
    ∙ (ap (serve_chain (record d { first = after_chain d.first (next_chain m.bytes d.first) }) m k) is_chain
    ∙ sym (serve_given d m k live given))
