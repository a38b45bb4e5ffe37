-- A scene of the code as its tables.
use Rattle.settle_table.specs.Kept.{KeptScene}
use Rattle.settle_table.specs.declared.scene.Scene.{Scene}

abbrev pub kept_scene : Scene → KeptScene
kept_scene s = record {
  mine = s.mine.now;
  theirs = s.theirs.now;
  numbers = s.numbers.now;
  unknown = s.unknown.now.keys;
  is_alone = s.is_alone;
  is_turn = s.is_turn;
  tooks = s.tooks.now;
  restarts = s.restarts.now;
}
