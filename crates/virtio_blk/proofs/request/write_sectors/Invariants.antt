use Rattle.std.specs.Prelude.{drop}
use Rattle.virtio_blk.specs.Request.{request_bytes}
use Rattle.virtio_blk.proofs.SectorLemmas.{IsWrittenSoFar}
use Rattle.virtio_blk.proofs.request.write_sectors.Given as goal

abbrev pub invariant-loop-k : goal.invariant-loop-k
invariant-loop-k g l =
    IsWrittenSoFar (g.D.Disk.state l.fn.disk) (g.D.Disk.state l.disk) (drop 16
    (request_bytes l.ram l.chain)) l.sector l.k
