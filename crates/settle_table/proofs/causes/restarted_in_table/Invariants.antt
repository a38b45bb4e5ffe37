-- No tuple before the index was restarted.
use Rattle.std.proofs.Common.{◌≡◌, drop, find}
use Rattle.settle_table.specs.Kept.{is_restarted, tuples_of}
use Rattle.settle_table.specs.Scenes.{kept_scene}
use Rattle.settle_table.proofs.causes.restarted_in_table.Given as goal

abbrev pub invariant-loop-k : goal.invariant-loop-k
invariant-loop-k l = find (is_restarted (kept_scene l.scene)) (tuples_of l.scene.mine.now)
    ≡ find (is_restarted (kept_scene l.scene)) (drop l.k (tuples_of l.scene.mine.now))
