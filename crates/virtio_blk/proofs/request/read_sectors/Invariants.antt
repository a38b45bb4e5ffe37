use Rattle.virtio_blk.proofs.SectorLemmas.{IsReadSoFar}
use Rattle.virtio_blk.proofs.request.read_sectors.Given as goal

abbrev pub invariant-loop-k : goal.invariant-loop-k
invariant-loop-k g l = IsReadSoFar l.fn.ram l.ram (g.D.Disk.state l.disk) l.chain.parts l.sector l.k
