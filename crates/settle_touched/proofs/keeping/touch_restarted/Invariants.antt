-- The restarted ones of the places before the index are touched.
use Rattle.std.proofs.Common.{◌≡◌, ℕ, true, take, slice_get, Some}
use Rattle.inet_frame.specs.declared.tuple.Tuple.{Tuple}
use Rattle.tcp_track.specs.declared.table.Entry.{Entry}
use Rattle.settle_table.specs.Kept.{is_restarted}
use Rattle.settle_table.specs.Scenes.{kept_scene}
use Rattle.settle_touched.specs.Places.{is_among}
use Rattle.settle_touched.specs.TouchedPlaces.{is_touched}
use Rattle.settle_touched.proofs.keeping.touch_restarted.Given as goal

abbrev pub invariant-loop-place : goal.invariant-loop-place
invariant-loop-place l =
    (k : ℕ) (x : Tuple × Entry) → slice_get l.scene.mine.now.entries k ≡ Some x →
    is_among k (take l.place-index l.places) ≡ true → is_restarted (kept_scene l.scene) x.0 ≡ true →
    is_touched l.touched k ≡ true
