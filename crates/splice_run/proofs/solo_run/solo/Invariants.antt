-- The turns before this one were made, and the openings sent by then are known.
use Rattle.std.proofs.Common.{take}
use Rattle.indexmap.specs.IndexMap.{get}
use Rattle.state_wire.specs.Guest.{BeginsWith}
use Rattle.tcp_track.specs.Segments.{same_tuple}
use Rattle.splice_run.specs.Openings.{KnowsOpenings}
use Rattle.splice_run.specs.Solo.{HasMade, sender}
use Rattle.splice_run.proofs.solo_run.solo.Given as goal

abbrev pub invariant-loop-k : goal.invariant-loop-k
invariant-loop-k g l = record {
  made : HasMade l.client (sender (g.G.Guest.meaning l.initial.machine) l.initial.out)
      (sender (g.G.Guest.meaning l.machine) l.out) (take l.k l.turns);
  known : KnowsOpenings (get same_tuple l.openings) l.out;
  front : BeginsWith l.out l.initial.out;
}
