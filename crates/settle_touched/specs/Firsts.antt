-- The causes of a checkpoint from the places in the table that have them.
use Rattle.std.specs.Prelude.{◌≡◌, ℕ, ◌<◌, Bool, false, if◌then◌else◌, List, [], ◌∷◌, slice_get, Option, None, Some}
use Rattle.std.specs.Option.{option_map, option_map_or}
use Rattle.inet_frame.specs.declared.tuple.Tuple.{Tuple}
use Rattle.tcp_track.specs.Tracking.{Tracking}
use Rattle.tcp_track.specs.declared.table.Entry.{Entry}
use Rattle.settle_rules.specs.Progress.{ProgressTable}
use Rattle.settle_table.specs.Kept.{KeptScene}
use Rattle.settle_table.specs.Needs.{first_need, line_differs, matched_at, restart_among, wait_of}
use Rattle.settle_table.specs.declared.causes.Need.{Need}
use Rattle.settle_table.specs.declared.causes.Need.TheVariants.{Nothing, Differ}
use Rattle.settle_touched.specs.Places.{AreAscending, is_among}

-- the entry at a place passes a test
abbrev pub holds_at : (Tuple × Entry → Bool) → Tracking → ℕ → Bool
holds_at test mine k = option_map_or test (slice_get mine.entries k) false

-- some ascending places are exactly those whose entries pass a test
pub record ArePlacesOf (test : Tuple × Entry → Bool) (mine : Tracking) (bound : ℕ) (places : List ℕ)
    : Type 0 where
  pub ascending : AreAscending 0 bound places
  pub exactly : (k : ℕ) → k < bound → is_among k places ≡ holds_at test mine k

abbrev pub first_entry : Tracking → List ℕ → Option (Tuple × Entry)
first_entry mine [] = None
first_entry mine (k ∷ places) = slice_get mine.entries k

abbrev pub first_tuple : Tracking → List ℕ → Option Tuple
first_tuple mine places = option_map (λ (x : Tuple × Entry). x.0) (first_entry mine places)

abbrev pub difference_at : KeptScene → ProgressTable → Option (Tuple × Entry) → Option Need
difference_at scene progress None = None
difference_at scene progress (Some x) =
    Some (Differ x.0 (matched_at scene progress x.0 x.1.line))

abbrev pub entry_differs : KeptScene → ProgressTable → Tuple × Entry → Bool
entry_differs scene progress x = line_differs scene progress x.0 x.1.line

-- the need, from the places whose lines differ, those restarted in the event, and those that have
-- waited
abbrev pub need_at : KeptScene → ProgressTable → List ℕ → List ℕ → List ℕ → Need
need_at scene progress differing restarted waiting =
    if scene.is_alone then Nothing
    else first_need (difference_at scene progress (first_entry scene.mine differing))
    (restart_among scene.restarts (first_tuple scene.mine restarted))
    (wait_of (first_tuple scene.mine waiting))
