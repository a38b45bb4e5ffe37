-- One sector more was cut off.
use Rattle.disk_buffers.proofs.SplitLemmas.{split_one}
use Rattle.disk_buffers.proofs.whole.read_sectors.Goals as goal

pub loop-sector-preserved : goal.loop-sector-preserved
loop-sector-preserved c =
    let cut = c.in-Some.ensures.cases in
    rw c.in_ok-push.ensures.items
    (split_one c.args.bytes.now c.loop-sector.sectors.items c.loop-sector.rest.now _ _
    c.loop-sector.invariant cut.0 cut.1 cut.2)
