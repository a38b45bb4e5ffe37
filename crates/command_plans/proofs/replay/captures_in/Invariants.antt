-- The marks before this one are counted.
use Rattle.std.proofs.Common.{◌≡◌, take}
use Rattle.std.specs.Prelude.{sum_by}
use Rattle.command_plans.specs.Replay.{captures_by, count}
use Rattle.command_plans.proofs.replay.captures_in.Given as goal

abbrev pub invariant-loop-mark : goal.invariant-loop-mark
invariant-loop-mark l = l.captured ≡ count (sum_by captures_by (take l.mark-index l.marks))
