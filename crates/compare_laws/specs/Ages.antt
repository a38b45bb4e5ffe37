-- What a list of a comparer's calls says of one connection's edge and age.
use Rattle.std.specs.Prelude.{ℕ, suc, Bool, ◌&&◌, is_some, if◌then◌else◌, List, [], ◌∷◌, Option, None, Some}
use Rattle.inet_frame.specs.declared.tuple.Tuple.{Tuple}
use Rattle.tcp_track.specs.LineFields.{LineFields}
use Rattle.tcp_track.specs.Segments.{same_tuple}
use Rattle.tcp_track.specs.Tracking.{line_at, took_of}
use Rattle.tcp_track.specs.declared.answers.Took.{Took}
use Rattle.settle_rules.specs.Matching.{BothLines, matched_end, is_unmatched}
use Rattle.settle_rules.specs.Progress.{AgeKey, Progress}
use Rattle.settle_rules.specs.Settle.{age_key_of, same_age_key, new_edge}
use Rattle.settle_table.specs.Kept.{KeptScene, both_kept, is_restarted}
use Rattle.settle_table.specs.Table.{progress_at}
use Rattle.out_compare.specs.Comparing.{Comparing, scene_of, settle}
use Rattle.out_compare.specs.Noting.{opening_made}
use Rattle.compare_laws.specs.Calls.{CompareCall, sends, settles, acknowledges, compare_after}
use Rattle.compare_laws.specs.Starts.{Start, start_of}

-- THE EDGE

-- an opening of the node's own guest sets it to 0
abbrev pub edge_with : Tuple → ℕ → Took → ℕ
edge_with t edge took =
    if same_tuple t took.tuple && is_some (opening_made took.what) then 0 else edge

abbrev pub edge_settled : KeptScene → Tuple → ℕ → Option LineFields → ℕ
edge_settled scene t edge None = edge
edge_settled scene t edge (Some l) = new_edge (both_kept scene t l) edge

-- a settling takes it to the matched end where symbols go out, but not of a restarted connection
abbrev pub edge_at_end : KeptScene → Tuple → ℕ → ℕ
edge_at_end scene t edge =
    if is_restarted scene t then edge else edge_settled scene t edge (line_at scene.mine t)

abbrev pub edge_after : Comparing → Tuple → ℕ → CompareCall → ℕ
edge_after x t edge (sends frame) = edge_with t edge (took_of x.mine frame)
edge_after x t edge (settles is_turn) = edge_at_end (scene_of x is_turn) t edge
edge_after x t edge _ = edge

abbrev pub edge_from : Comparing → Tuple → ℕ → List CompareCall → ℕ
edge_from x t edge [] = edge
edge_from x t edge (call ∷ calls) =
    edge_from (compare_after x call) t (edge_after x t edge call) calls

-- from a start on: a new comparer's is 0
abbrev pub edge_of : Start → Tuple → List CompareCall → ℕ
edge_of start t calls =
    edge_from (start_of start) t (progress_at (start_of start).progress t).edge calls

-- THE AGE

-- what the end of a turn shows of a connection: whether it is unmatched, and what has to stay the
-- same for it to grow older
pub record Sight : Type 0 where
  pub key : AgeKey
  pub unmatched : Bool

abbrev pub sight_of : BothLines → Progress → Sight
sight_of b p =
    let m = matched_end b p.edge in
    record { key = age_key_of b m; unmatched = is_unmatched b p m }

abbrev pub sights_with : KeptScene → Tuple → Progress → Option LineFields → List Sight → List Sight
sights_with scene t p None earlier = earlier
sights_with scene t p (Some l) earlier = sight_of (both_kept scene t l) p ∷ earlier

-- the latest first
abbrev pub sights_at_end : KeptScene → Tuple → Progress → List Sight → List Sight
sights_at_end scene t p earlier = sights_with scene t p (line_at scene.mine t) earlier

-- the ends of turns since the last acknowledgement
abbrev pub sights_after : Comparing → Tuple → List Sight → CompareCall → List Sight
sights_after x t earlier (settles is_turn) =
    if is_turn
    then sights_at_end (scene_of x is_turn) t (progress_at (settle x is_turn).progress t) earlier
    else earlier
sights_after x t earlier acknowledges = []
sights_after x t earlier _ = earlier

abbrev pub sights_from : Comparing → Tuple → List Sight → List CompareCall → List Sight
sights_from x t earlier [] = earlier
sights_from x t earlier (call ∷ calls) =
    sights_from (compare_after x call) t (sights_after x t earlier call) calls

abbrev pub sights_of : Start → Tuple → List CompareCall → List Sight
sights_of start t calls = sights_from (start_of start) t [] calls

-- for how many turns in a row, from the latest back, a connection was unmatched with one key
abbrev pub turns_in_a_row : AgeKey → List Sight → ℕ
turns_in_a_row key [] = 0
turns_in_a_row key (s ∷ earlier) =
    if s.unmatched && same_age_key s.key key then suc (turns_in_a_row key earlier) else 0

abbrev pub turns_waited : List Sight → ℕ
turns_waited [] = 0
turns_waited (s ∷ earlier) = turns_in_a_row s.key (s ∷ earlier)
