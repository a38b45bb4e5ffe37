-- The sectors before this one are written.
use Rattle.std.proofs.Common.{take}
use Rattle.file_steps.specs.Steps.{Writes}
use Rattle.command_plans.specs.Replay.{sector_steps}
use Rattle.command_plans.proofs.replay.write_disk.Given as goal

abbrev pub invariant-loop-k : goal.invariant-loop-k
invariant-loop-k g l =
    Writes l.out (sector_steps (take l.k (g.G.Guest.meaning l.guest).state.sectors))
    (g.S.Shelf.state l.initial.shelf) (g.S.Shelf.state l.shelf)
