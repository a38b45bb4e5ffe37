-- Settling some places of the table is settling all of it, where the other connections are
-- untouched.
use Rattle.std.specs.Prelude.{◌≡◌, ℕ, Bool, true, false, List, [], length, slice_get, Some}
use Rattle.std.specs.List.{IsDistinct}
use Rattle.std.specs.Map.{lookup}
use Rattle.inet_frame.specs.declared.tuple.Tuple.{Tuple}
use Rattle.tcp_track.specs.Segments.{same_tuple}
use Rattle.tcp_track.specs.declared.answers.Took.{Took}
use Rattle.tcp_track.specs.declared.table.Entry.{Entry}
use Rattle.settle_rules.specs.Matching.{BothLines}
use Rattle.settle_rules.specs.Progress.{Progress, ProgressTable}
use Rattle.settle_rules.specs.Settle.{settle_one, settle_or_rest}
use Rattle.settle_table.specs.Kept.{KeptScene, is_restarted, settle_kept, tuples_of}
use Rattle.settle_table.specs.Needs.{has_waited, need_of}
use Rattle.settle_touched.specs.Ages.{IsSince, StoredTable, progress_now, stored_after, table_now, turns_after}
use Rattle.settle_touched.specs.Firsts.{ArePlacesOf, entry_differs, need_at}
use Rattle.settle_touched.specs.Places.{AreAscending, IsAtRest, IsStored, IsUntouched, is_among, settle_places}
use Rattle.settle_touched.specs.Quiet.{IsQuiet, IsTimed, age_in_turn, has_segment}
use Rattle.settle_touched.specs.declared.stored.Stored.{Stored}

-- Where a connection is quiet and the event has no segment of it, nothing goes out, and its
-- progress stays, in an event that is no turn.
abbrev pub QuietSettlesToNothing : Type 0
QuietSettlesToNothing =
    (b : BothLines) (p : Progress) (tooks : List Took) →
    IsQuiet b p → has_segment b.tuple tooks ≡ false →
    settle_one b p false tooks ≡ record { progress = p; out = [] }

-- In a turn, where its age is counted with what stands now, it grows older, if it waits.
abbrev pub TimedGrowsOlder : Type 0
TimedGrowsOlder =
    (b : BothLines) (p : Progress) (tooks : List Took) →
    IsQuiet b p → IsTimed b p → has_segment b.tuple tooks ≡ false →
    settle_one b p true tooks
    ≡ record { progress = record p { age = age_in_turn p.age }; out = [] }

-- A connection is quiet after it was settled, whatever its progress was.
abbrev pub SettlingMakesQuiet : Type 0
SettlingMakesQuiet =
    (b : BothLines) (p : Progress) (is_turn : Bool) (tooks : List Took) →
    IsQuiet b (settle_one b p is_turn tooks).progress

-- And after a turn its age is counted with what stands now.
abbrev pub TurnMakesTimed : Type 0
TurnMakesTimed =
    (b : BothLines) (p : Progress) (tooks : List Took) →
    IsTimed b (settle_one b p true tooks).progress

-- A connection is settled from what is stored as from its progress.
abbrev pub SettlesWhatIsStored : Type 0
SettlesWhatIsStored =
    (restarted : Bool) (b : BothLines) (s : Stored) (is_turn : Bool) (turns : ℕ)
    (tooks : List Took) → IsSince turns s →
    settle_or_rest restarted b (progress_now turns s) is_turn tooks
    ≡ record (settle_or_rest restarted b s.progress is_turn tooks) {
      progress = progress_now (turns_after is_turn turns) (stored_after is_turn turns s
          (settle_or_rest restarted b s.progress is_turn tooks).progress);
    }

-- And what is stored then says since when it waits.
abbrev pub StoresSince : Type 0
StoresSince =
    (restarted : Bool) (b : BothLines) (s : Stored) (is_turn : Bool) (turns : ℕ)
    (tooks : List Took) → IsSince turns s →
    IsSince (turns_after is_turn turns) (stored_after is_turn turns s
    (settle_or_rest restarted b s.progress is_turn tooks).progress)

-- Where every place that isn't among some ascending ones is untouched, settling these is settling
-- the whole table: the same goes out in the same order, and the same progress is left.
abbrev pub SettlesTouchedAlone : Type 0
SettlesTouchedAlone =
    (scene : KeptScene) (turns : ℕ) (table : StoredTable) (places : List ℕ) →
    IsDistinct same_tuple (tuples_of scene.mine) → IsStored scene turns table →
    AreAscending 0 (length scene.mine.entries) places →
    ((k : ℕ) (x : Tuple × Entry) → slice_get scene.mine.entries k ≡ Some x →
    is_among k places ≡ false → IsUntouched scene table x.0 x.1.line) →
    settle_kept scene (table_now turns table) ≡ record {
      progress = table_now (turns_after scene.is_turn turns)
          (settle_places scene turns table places).table;
      out = (settle_places scene turns table places).out;
    }

-- A connection at one of the places that wasn't restarted rests then, and after a turn its age is
-- counted.
abbrev pub SettledPlacesRest : Type 0
SettledPlacesRest =
    (scene : KeptScene) (turns : ℕ) (table : StoredTable) (places : List ℕ) (k : ℕ)
    (x : Tuple × Entry) → IsDistinct same_tuple (tuples_of scene.mine) →
    AreAscending 0 (length scene.mine.entries) places →
    slice_get scene.mine.entries k ≡ Some x → is_among k places ≡ true →
    is_restarted scene x.0 ≡ false →
    IsAtRest scene (settle_places scene turns table places).table x.0 x.1.line scene.is_turn

-- What is stored of a connection at another place stays.
abbrev pub OtherPlacesStay : Type 0
OtherPlacesStay =
    (scene : KeptScene) (turns : ℕ) (table : StoredTable) (places : List ℕ) (k : ℕ)
    (x : Tuple × Entry) → IsDistinct same_tuple (tuples_of scene.mine) →
    AreAscending 0 (length scene.mine.entries) places →
    slice_get scene.mine.entries k ≡ Some x → is_among k places ≡ false →
    lookup (same_tuple x.0) (settle_places scene turns table places).table
    ≡ lookup (same_tuple x.0) table

-- What is stored goes on to belong to lines, once each, and to say since when they wait.
abbrev pub StoresOn : Type 0
StoresOn =
    (scene : KeptScene) (turns : ℕ) (table : StoredTable) (places : List ℕ) →
    IsDistinct same_tuple (tuples_of scene.mine) →
    AreAscending 0 (length scene.mine.entries) places → IsStored scene turns table →
    IsStored scene (turns_after scene.is_turn turns) (settle_places scene turns table places).table

-- The need of a checkpoint comes from the first of the places whose lines differ, of those that
-- were restarted, and of those that have waited: no pass over the table finds more.
abbrev pub NeedsFirstPlaces : Type 0
NeedsFirstPlaces =
    (scene : KeptScene) (progress : ProgressTable) (differing restarted waiting : List ℕ) →
    IsDistinct same_tuple (tuples_of scene.mine) →
    ArePlacesOf (entry_differs scene progress) scene.mine (length scene.mine.entries) differing →
    ArePlacesOf (λ x. is_restarted scene x.0) scene.mine (length scene.mine.entries) restarted →
    ArePlacesOf (λ x. has_waited progress x.0) scene.mine (length scene.mine.entries) waiting →
    need_of scene progress ≡ need_at scene progress differing restarted waiting
