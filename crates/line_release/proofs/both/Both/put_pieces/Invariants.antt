-- The frames of the pieces before the index are added.
use Rattle.std.proofs.Common.{◌≡◌, ◌++◌}
use Rattle.line_release.specs.Both.{both_of}
use Rattle.line_release.proofs.PieceLemmas.{first_frames}
use Rattle.line_release.proofs.both.Both.put_pieces.Given as goal

abbrev pub invariant-loop-k : goal.invariant-loop-k
invariant-loop-k l = l.out ≡ l.initial.out ++ first_frames (both_of l.self) l.offset l.bytes l.ends l.k
