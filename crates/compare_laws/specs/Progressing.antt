-- What a list of a comparer's calls says of one connection's progress: what is due, last said and
-- last shown.
use Rattle.std.specs.Prelude.{if◌then◌else◌, Bool, List, [], ◌∷◌, Option, None, Some}
use Rattle.inet_frame.specs.declared.tuple.Tuple.{Tuple}
use Rattle.tcp_track.specs.LineFields.{LineFields}
use Rattle.tcp_track.specs.Segments.{same_tuple}
use Rattle.tcp_track.specs.Tracking.{current_at, line_at, took_of}
use Rattle.tcp_track.specs.declared.answers.Took.{Took}
use Rattle.tcp_track.specs.declared.openings.Opening.{Opening}
use Rattle.settle_rules.specs.Matching.{client_or_zero}
use Rattle.settle_rules.specs.OwnFrames.{progress_with}
use Rattle.settle_rules.specs.Progress.{Progress}
use Rattle.settle_rules.specs.Release.{Released}
use Rattle.settle_rules.specs.Settle.{shown_after}
use Rattle.settle_table.specs.Kept.{KeptScene, line_settled}
use Rattle.settle_table.specs.Table.{progress_at}
use Rattle.out_compare.specs.Comparing.{Comparing, scene_of}
use Rattle.compare_laws.specs.Calls.{CompareCall, sends, settles, acknowledges, compare_after}

-- a segment of the own guest on the connection, by what it was
abbrev pub progress_sent : Tuple → Progress → Took → Progress
progress_sent t p took = if same_tuple t took.tuple then progress_with took.what p else p

-- a settling, where the connection has a line
abbrev pub progress_settled : KeptScene → Tuple → Progress → Option LineFields → Progress
progress_settled scene t p None = p
progress_settled scene t p (Some l) = (line_settled scene p t l).progress

-- Nothing else changes a connection's progress: no segment of another connection, nothing heard,
-- no number, no client, no capture. An acknowledgement begins its age anew.
abbrev pub progress_next : Comparing → Tuple → Progress → CompareCall → Progress
progress_next x t p (sends frame) = progress_sent t p (took_of x.mine frame)
progress_next x t p (settles is_turn) =
    progress_settled (scene_of x is_turn) t p (line_at x.mine t)
progress_next x t p acknowledges = record p { age = 0 }
progress_next x t p _ = p

abbrev pub progress_from : Comparing → Tuple → Progress → List CompareCall → Progress
progress_from x t p [] = p
progress_from x t p (call ∷ calls) =
    progress_from (compare_after x call) t (progress_next x t p call) calls

-- what a settling releases of one connection
abbrev pub line_released : KeptScene → Tuple → Progress → Option LineFields → List Released
line_released scene t p None = []
line_released scene t p (Some l) = (line_settled scene p t l).out

abbrev pub released_of : Comparing → Bool → Tuple → List Released
released_of x is_turn t =
    line_released (scene_of x is_turn) t (progress_at x.progress t) (line_at x.mine t)

-- the SYN last released of it
abbrev pub shown_next : Comparing → Tuple → Option Opening → CompareCall → Option Opening
shown_next x t shown (settles is_turn) =
    shown_after (client_or_zero (current_at x.mine t)) shown (released_of x is_turn t)
shown_next x t shown _ = shown

abbrev pub shown_from :
    Comparing → Tuple → Option Opening → List CompareCall → Option Opening
shown_from x t shown [] = shown
shown_from x t shown (call ∷ calls) =
    shown_from (compare_after x call) t (shown_next x t shown call) calls
