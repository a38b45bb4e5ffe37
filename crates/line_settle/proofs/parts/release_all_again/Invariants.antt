-- What the segments before the index carry was released.
use Rattle.std.proofs.Common.{◌≡◌, ◌++◌, map, take}
use Rattle.std.specs.List.{flat_map}
use Rattle.line_release.specs.Both.{both_of}
use Rattle.settle_rules.specs.Matching.{client_or_zero}
use Rattle.settle_rules.specs.Release.{released_frame}
use Rattle.settle_rules.specs.Settle.{release_again, shown_after}
use Rattle.line_settle.proofs.parts.release_all_again.Given as goal

abbrev pub invariant-loop-took : goal.invariant-loop-took
invariant-loop-took l = record {
  out : l.out ≡ l.initial.out
      ++ map released_frame (flat_map (release_again (both_of l.both) l.edge) (take l.took-index l.tooks));
  shown : l.shown ≡ shown_after (client_or_zero (both_of l.both).mine.opening) l.initial.shown
      (flat_map (release_again (both_of l.both) l.edge) (take l.took-index l.tooks));
}
