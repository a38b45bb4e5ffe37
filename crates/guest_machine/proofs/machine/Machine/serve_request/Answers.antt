-- One block request of the platform.
use Rattle.std.proofs.Common.{length, ap, sym, ◌∙◌}
use Rattle.rv_platform.specs.Step.{PlatformState}
use Rattle.virtio_blk.specs.Disk.{DiskState}
use Rattle.guest_machine.specs.Guest.{MachineParts}
use Rattle.guest_machine.specs.Turn.{State}
use Rattle.guest_machine.proofs.KindLemmas.{still_of_kinds}
use Rattle.guest_machine.proofs.SectorLemmas.{block_count, idle_disk, idle_platform}
use Rattle.guest_machine.proofs.machine.Machine.serve_request.Goals as goal

pub invariant_of-self : goal.invariant_of-self
invariant_of-self g c =
    let p = c.self.inside.platform in
    let d = g.D.Disk.state c.self.inside.disk in
    still_of_kinds p c.serve_block.new.self d (g.D.Disk.state c.serve_block.new.disk) c.self.invariant
    c.serve_block.ensures.kinds
    (ap (λ (x : DiskState). length x.mine) c.serve_block.ensures.disk ∙ block_count p d)

pub returns-clause-idle : goal.returns-clause-idle
returns-clause-idle g c = λ e.
    let p = c.self.inside.platform in
    let d = g.D.Disk.state c.self.inside.disk in
    let of : PlatformState → DiskState → State = λ x y. record { platform = x; disk = y } in
    let idle = sym c.serve_block.ensures.answer ∙ e in
    ap (λ (x : PlatformState). of x (g.D.Disk.state c.serve_block.new.disk))
    (c.serve_block.ensures.after ∙ idle_platform p d idle)
    ∙ (ap (of p) (c.serve_block.ensures.disk ∙ idle_disk p d idle)
    ∙ ap (λ (m : MachineParts). m.state) c.self.view_is)

pub returns-clause-size : goal.returns-clause-size
returns-clause-size g c =
    let p = c.self.inside.platform in
    let d = g.D.Disk.state c.self.inside.disk in
    record {
      memory = c.serve_block.ensures.kinds.memory
          ∙ ap (λ (m : MachineParts). length m.state.platform.memory.bytes) c.self.view_is;
      disk = ap (λ (x : DiskState). length x.mine) c.serve_block.ensures.disk ∙ (block_count p d
          ∙ ap (λ (m : MachineParts). length m.state.disk.mine) c.self.view_is);
    }
