-- The places before the index are settled.
use Rattle.std.proofs.Common.{◌≡◌, ◌++◌, map, take}
use Rattle.settle_rules.specs.Release.{released_frame}
use Rattle.settle_table.specs.Scenes.{kept_scene}
use Rattle.settle_touched.specs.Places.{AreStoredUntrimmed, settle_places}
use Rattle.settle_touched.proofs.settling.Settling.settle_places.Given as goal

abbrev pub invariant-loop-place : goal.invariant-loop-place
invariant-loop-place l = record {
  table : l.table.entries ≡ (settle_places (kept_scene l.self.scene.now) l.self.turns l.initial.table.entries
      (take l.place-index l.places)).table;
  out : l.out ≡ l.initial.out ++ map released_frame (settle_places (kept_scene l.self.scene.now) l.self.turns
      l.initial.table.entries (take l.place-index l.places)).out;
  untrimmed : AreStoredUntrimmed l.self.scene.now.mine.now l.table.entries;
}
