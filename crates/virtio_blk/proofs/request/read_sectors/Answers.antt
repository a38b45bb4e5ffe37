-- One sector more of the answer.
use Rattle.std.proofs.Common.{◌*◌, ap, ◌∙◌, arith}
use Rattle.virt_queue.specs.Parts.{skip, writable, write_joined}
use Rattle.virtio_blk.proofs.SectorLemmas.{read_none, read_more}
use Rattle.virtio_blk.proofs.request.read_sectors.Goals as goal

pub loop-k-init : goal.loop-k-init
loop-k-init g c =
    read_none c.args.ram.now (g.D.Disk.state c.args.disk.now) c.args.chain.now.parts c.args.sector

pub loop-k-preserved : goal.loop-k-preserved
loop-k-preserved g c =
    read_more _ _ _ _ _ _ _ _ c.loop-k.invariant c.requires.inside (omega arith) c.read_sector.ensures
    c.read_sector.array_long
    (c.write.ensures.after
    ∙ ap (λ n. write_joined c.loop-k.ram (skip (n * 512) (writable c.args.chain.now.parts)) c.read_sector.new.into)
    c.from.ensures)
    c.write.ensures.size
