-- No tuple before the index differs.
use Rattle.std.proofs.Common.{◌≡◌, drop}
use Rattle.settle_table.specs.Kept.{tuples_of}
use Rattle.settle_table.specs.Needs.{first_differ}
use Rattle.settle_table.specs.Scenes.{kept_scene}
use Rattle.settle_table.proofs.causes.first_differ.Given as goal

abbrev pub invariant-loop-k : goal.invariant-loop-k
invariant-loop-k l = first_differ (kept_scene l.scene) l.table.entries (tuples_of l.scene.mine.now)
    ≡ first_differ (kept_scene l.scene) l.table.entries (drop l.k (tuples_of l.scene.mine.now))
