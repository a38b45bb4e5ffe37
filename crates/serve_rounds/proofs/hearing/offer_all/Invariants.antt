-- The frames so far were offered, and those that wait are the rest.
use Rattle.std.proofs.Common.{◌≡◌, ◌+◌, length}
use Rattle.pair_core.specs.Pair.{pair_of}
use Rattle.serve_rounds.specs.Serving.{IsOffered}
use Rattle.serve_rounds.proofs.hearing.offer_all.Given as goal

abbrev pub invariant-loop-frame : goal.invariant-loop-frame
invariant-loop-frame g l = record {
  count : l.count + length l.unframer.frames ≡ length l.initial.unframer.frames;
  offered : IsOffered (pair_of g.G.Guest.meaning l.initial.pair) (pair_of g.G.Guest.meaning l.pair)
      l.initial.unframer.frames l.unframer.frames;
  steps : l.pair.steps ≡ l.initial.pair.steps;
  rest : l.unframer ≡ record l.initial.unframer { frames = l.unframer.frames };
}

abbrev pub decreases-loop-frame : goal.decreases-loop-frame
decreases-loop-frame g l = length l.unframer.frames
