-- No segment before the index is one.
use Rattle.std.proofs.Common.{◌≡◌, false, take}
use Rattle.std.specs.List.{list_any}
use Rattle.line_release.specs.Both.{both_of}
use Rattle.settle_rules.specs.Settle.{is_bare}
use Rattle.line_settle.proofs.due.has_bare.Given as goal

abbrev pub invariant-loop-took : goal.invariant-loop-took
invariant-loop-took l = list_any (is_bare (both_of l.both) l.edge) (take l.took-index l.tooks) ≡ false
