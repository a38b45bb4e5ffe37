-- What is kept of all connections, and what of them needs no settling.
use Rattle.std.specs.Prelude.{◌≡◌, ℕ, false, not, slice_get, Some}
use Rattle.std.specs.List.{IsDistinct}
use Rattle.inet_frame.specs.declared.tuple.Tuple.{Tuple}
use Rattle.tcp_track.specs.Segments.{same_tuple}
use Rattle.tcp_track.specs.declared.table.Entry.{Entry}
use Rattle.settle_table.specs.Kept.{KeptScene, is_restarted, tuples_of}
use Rattle.settle_touched.specs.Places.{AreStoredUntrimmed, IsAtRest, IsStored}
use Rattle.settle_touched.specs.Quiet.{has_segment}
use Rattle.settle_touched.specs.TouchedPlaces.{is_stale, is_touched}
use Rattle.settle_touched.specs.declared.keeping.Keeping.{Keeping}

-- A connection at a place that isn't touched rests, with its age counted where the place isn't
-- stale either.
abbrev pub AreAtRest : KeptScene → Keeping → Type 0
AreAtRest scene kept =
    (k : ℕ) (x : Tuple × Entry) → slice_get scene.mine.entries k ≡ Some x →
    is_touched kept.touched k ≡ false →
    IsAtRest scene kept.table.entries x.0 x.1.line (not (is_stale kept.stale k))

-- the event has no segment of a connection, and didn't restart it
pub record IsNotOf (scene : KeptScene) (t : Tuple) : Type 0 where
  pub no_segment : has_segment t scene.tooks ≡ false
  pub no_restart : is_restarted scene t ≡ false

-- Each place whose connection has a part in the event is touched.
abbrev pub AreNotOfEvent : KeptScene → Keeping → Type 0
AreNotOfEvent scene kept =
    (k : ℕ) (x : Tuple × Entry) → slice_get scene.mine.entries k ≡ Some x →
    is_touched kept.touched k ≡ false → IsNotOf scene x.0

-- What is kept stands for the progress of the whole table.
pub record IsKept (scene : KeptScene) (kept : Keeping) : Type 0 where
  pub distinct : IsDistinct same_tuple (tuples_of scene.mine)
  pub stored : IsStored scene kept.turns kept.table.entries
  pub untrimmed : AreStoredUntrimmed scene.mine kept.table.entries
  pub rests : AreAtRest scene kept
