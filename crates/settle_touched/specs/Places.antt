-- Settling of some places of the table of lines, in ascending order.
use Rattle.std.specs.Prelude.{◌≡◌, ℕ, ◌≤◌, ◌<◌, ◌+◌, Bool, true, false, nat_eq, is_some, if◌then◌else◌, List, [], ◌∷◌, ◌++◌, fold, unwrap_or, Option, None, Some}
use Rattle.std.specs.List.{IsDistinct, list_any}
use Rattle.std.specs.Map.{lookup, set_value, keys_of}
use Rattle.inet_frame.specs.declared.tuple.Tuple.{Tuple}
use Rattle.tcp_track.specs.LineFields.{LineFields}
use Rattle.tcp_track.specs.Segments.{same_tuple}
use Rattle.tcp_track.specs.Tracking.{Tracking, entry_at}
use Rattle.line_match.specs.Untrimmed.{IsUntrimmed}
use Rattle.settle_rules.specs.Progress.{no_progress}
use Rattle.settle_rules.specs.Release.{Released}
use Rattle.settle_table.specs.Kept.{KeptScene, both_kept, is_restarted, line_settled, tuples_of}
use Rattle.settle_touched.specs.Ages.{IsSince, StoredTable, stored_after}
use Rattle.settle_touched.specs.Quiet.{IsQuiet, IsTimed, has_segment}
use Rattle.settle_touched.specs.declared.stored.Stored.{Stored}

-- nothing is stored yet of the connection at a place
abbrev pub nothing_stored : ℕ → Stored
nothing_stored place = record { progress = no_progress; since = 0; place = place }

abbrev pub stored_of : StoredTable → Tuple → ℕ → Stored
stored_of table t place = unwrap_or (lookup (same_tuple t) table) (nothing_stored place)

-- what is stored of a connection is set, last where there is none yet
abbrev pub set_stored : StoredTable → Tuple → Stored → StoredTable
set_stored table t s =
    if is_some (lookup (same_tuple t) table) then set_value (same_tuple t) table s
    else table ++ (t, s) ∷ []

-- what is stored after some places were settled, and what went out
pub record PlacesSettled : Type 0 where
  pub table : StoredTable
  pub out : List Released

abbrev pub no_places : StoredTable → PlacesSettled
no_places table = record { table = table; out = [] }

-- the line of one place is settled from what is stored
unfoldable pub settle_entry : KeptScene → ℕ → StoredTable → ℕ → Tuple → LineFields → PlacesSettled
unfolding line_settled
settle_entry scene turns table k t l =
    let s = stored_of table t k in
    let one = line_settled scene s.progress t l in
    record {
      table = set_stored table t (stored_after scene.is_turn turns s one.progress);
      out = one.out;
    }

abbrev pub settle_entry_at :
    KeptScene → ℕ → StoredTable → ℕ → Option (Tuple × LineFields) → PlacesSettled
settle_entry_at scene turns table k None = no_places table
settle_entry_at scene turns table k (Some x) = settle_entry scene turns table k x.0 x.1

-- what one place leaves, and what goes out of it
abbrev pub settle_place : KeptScene → ℕ → StoredTable → ℕ → PlacesSettled
settle_place scene turns table k = settle_entry_at scene turns table k (entry_at scene.mine k)

abbrev pub add_place : KeptScene → ℕ → PlacesSettled → ℕ → PlacesSettled
add_place scene turns so_far k =
    let one = settle_place scene turns so_far.table k in
    record { table = one.table; out = so_far.out ++ one.out }

-- the places of a list, one after the other
abbrev pub settle_places : KeptScene → ℕ → StoredTable → List ℕ → PlacesSettled
settle_places scene turns table places =
    fold (add_place scene turns) (no_places table) places

-- places from one on that ascend, each below a bound
abbrev pub AreAscending : ℕ → ℕ → List ℕ → Type 0
AreAscending from bound [] = Unit {0}
AreAscending from bound (k ∷ places) =
    (from ≤ k) × (k < bound) × AreAscending (k + 1) bound places

abbrev pub is_among : ℕ → List ℕ → Bool
is_among k places = list_any (nat_eq k) places

-- A connection that needs no settling in an event: it has no segment there and wasn't restarted,
-- it is quiet, and in a turn its age is counted.
pub record IsUntouched (scene : KeptScene) (table : StoredTable) (t : Tuple) (l : LineFields)
    : Type 0 where
  pub stored : Stored
  pub found : lookup (same_tuple t) table ≡ Some stored
  pub no_segment : has_segment t scene.tooks ≡ false
  pub no_restart : is_restarted scene t ≡ false
  pub quiet : IsQuiet (both_kept scene t l) stored.progress
  pub timed : scene.is_turn ≡ true → IsTimed (both_kept scene t l) stored.progress

-- A connection that rests: it is quiet, and where that is asked its age is counted.
pub record IsAtRest (scene : KeptScene) (table : StoredTable) (t : Tuple) (l : LineFields)
    (is_counted : Bool) : Type 0 where
  pub stored : Stored
  pub found : lookup (same_tuple t) table ≡ Some stored
  pub quiet : IsQuiet (both_kept scene t l) stored.progress
  pub timed : is_counted ≡ true → IsTimed (both_kept scene t l) stored.progress

-- no line is trimmed past its edge
abbrev pub AreStoredUntrimmed : Tracking → StoredTable → Type 0
AreStoredUntrimmed mine table =
    (k : ℕ) (x : Tuple × LineFields) → entry_at mine k ≡ Some x →
    IsUntrimmed x.1 (stored_of table x.0 k).progress.edge

-- what is stored belongs to lines, once each, and says of each that waits since when
pub record IsStored (scene : KeptScene) (turns : ℕ) (table : StoredTable) : Type 0 where
  pub once : IsDistinct same_tuple (keys_of table)
  pub within : (t : Tuple) → list_any (same_tuple t) (keys_of table) ≡ true →
      list_any (same_tuple t) (tuples_of scene.mine) ≡ true
  pub since : (t : Tuple) (s : Stored) → lookup (same_tuple t) table ≡ Some s → IsSince turns s
