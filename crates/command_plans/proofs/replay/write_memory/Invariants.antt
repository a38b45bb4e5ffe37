-- The pages before this one are written.
use Rattle.std.proofs.Common.{take}
use Rattle.file_steps.specs.Steps.{Writes}
use Rattle.command_plans.specs.Replay.{page_steps}
use Rattle.command_plans.proofs.replay.write_memory.Given as goal

abbrev pub invariant-loop-k : goal.invariant-loop-k
invariant-loop-k g l =
    Writes l.out (page_steps (take l.k (g.G.Guest.meaning l.guest).state.pages))
    (g.S.Shelf.state l.initial.shelf) (g.S.Shelf.state l.shelf)
