-- The sectors so far are the bytes before the rest.
use Rattle.std.proofs.Common.{length}
use Rattle.disk_buffers.proofs.SplitLemmas.{IsSplit}
use Rattle.disk_buffers.proofs.whole.read_sectors.Given as goal

abbrev pub invariant-loop-sector : goal.invariant-loop-sector
invariant-loop-sector l = IsSplit l.bytes l.sectors.items l.rest

abbrev pub decreases-loop-sector : goal.decreases-loop-sector
decreases-loop-sector l = length l.rest
