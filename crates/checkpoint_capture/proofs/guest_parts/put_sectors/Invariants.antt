use Rattle.std.proofs.Common.{◌≡◌, ◌*◌, ◌++◌, take}
use Rattle.checkpoint_capture.specs.Sizes.{HaveSize}
use Rattle.checkpoint_capture.proofs.StateLemmas.{disk_front}
use Rattle.checkpoint_capture.proofs.guest_parts.put_sectors.Given as goal

abbrev pub invariant-loop-k : goal.invariant-loop-k
invariant-loop-k g l =
    (l.waits ≡ l.initial.waits ++ disk_front (g.G.Guest.meaning l.guest).state.sectors l.k)
    × HaveSize 512 (take (128 * l.k) (g.G.Guest.meaning l.guest).state.sectors)
