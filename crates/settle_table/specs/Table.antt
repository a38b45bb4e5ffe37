-- The progress of each connection, in the order in which it was first noted.
use Rattle.std.specs.Prelude.{◌≡◌, is_some, if◌then◌else◌, List, [], ◌∷◌, ◌++◌, unwrap_or, Option, Some}
use Rattle.std.specs.Map.{lookup, set_value}
use Rattle.inet_frame.specs.declared.tuple.Tuple.{Tuple}
use Rattle.tcp_track.specs.LineFields.{LineFields}
use Rattle.tcp_track.specs.Segments.{same_tuple}
use Rattle.tcp_track.specs.Tracking.{Tracking, line_at}
use Rattle.line_match.specs.Untrimmed.{IsUntrimmed}
use Rattle.settle_rules.specs.Progress.{Progress, ProgressTable, no_progress}

abbrev pub progress_at : ProgressTable → Tuple → Progress
progress_at table t = unwrap_or (lookup (same_tuple t) table) no_progress

-- a connection's progress is set, last where there is none yet
abbrev pub set_progress : ProgressTable → Tuple → Progress → ProgressTable
set_progress table t p =
    if is_some (lookup (same_tuple t) table) then set_value (same_tuple t) table p
    else table ++ (t, p) ∷ []

-- No line is trimmed past its edge.
abbrev pub AreUntrimmed : Tracking → ProgressTable → Type 0
AreUntrimmed mine table =
    (t : Tuple) (l : LineFields)
    → line_at mine t ≡ Some l → IsUntrimmed l (progress_at table t).edge
