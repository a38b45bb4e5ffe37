-- The tuples before the index are settled.
use Rattle.std.proofs.Common.{◌≡◌, ◌++◌, map, take}
use Rattle.settle_rules.specs.Release.{released_frame}
use Rattle.settle_table.specs.Kept.{settle_tuples, tuples_of}
use Rattle.settle_table.specs.Scenes.{kept_scene}
use Rattle.settle_table.specs.Table.{AreUntrimmed}
use Rattle.settle_table.proofs.settling.settle_all.Given as goal

abbrev pub invariant-loop-k : goal.invariant-loop-k
invariant-loop-k l = record {
  progress : l.table.entries
      ≡ (settle_tuples (kept_scene l.scene) l.initial.table.entries (take l.k (tuples_of l.scene.mine.now))).progress;
  out : l.out ≡ l.initial.out ++ map released_frame
      (settle_tuples (kept_scene l.scene) l.initial.table.entries (take l.k (tuples_of l.scene.mine.now))).out;
  untrimmed : AreUntrimmed l.scene.mine.now l.table.entries;
}
