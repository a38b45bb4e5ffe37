-- The openings of the frames before this one are known.
use Rattle.std.proofs.Common.{take}
use Rattle.indexmap.specs.IndexMap.{get}
use Rattle.tcp_track.specs.Segments.{same_tuple}
use Rattle.splice_run.specs.Openings.{KnowsOpenings}
use Rattle.splice_run.proofs.openings.note_frames.Given as goal

abbrev pub invariant-loop-k : goal.invariant-loop-k
invariant-loop-k l = KnowsOpenings (get same_tuple l.openings) (take l.k l.sent)
