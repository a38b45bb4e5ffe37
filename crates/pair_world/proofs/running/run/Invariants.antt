-- The events before this line were made.
use Rattle.std.proofs.Common.{◌≡◌, take}
use Rattle.pair_core.specs.Pair.{pair_of}
use Rattle.pair_world.specs.Running.{RunsBy}
use Rattle.pair_world.proofs.running.run.Given as goal

abbrev pub invariant-loop-line : goal.invariant-loop-line
invariant-loop-line g l = record {
  steps : l.pair.steps ≡ l.line-index;
  runs : RunsBy (pair_of g.G.Guest.meaning l.initial.pair) (take l.line-index l.lines)
      (pair_of g.G.Guest.meaning l.pair) l.made.items;
}
