-- Settling over what a node keeps: the tables of both nodes' lines, the numbers, and the progress
-- of each connection.
use Rattle.std.specs.Prelude.{ℕ, Bool, not, ◌&&◌, ◌||◌, is_some, if◌then◌else◌, List, [], ◌++◌, fold, unwrap_or, Option, None, Some}
use Rattle.std.specs.List.{list_any}
use Rattle.std.specs.Map.{keys_of}
use Rattle.inet_frame.specs.declared.tuple.Tuple.{Tuple}
use Rattle.tcp_track.specs.LineFields.{LineFields}
use Rattle.tcp_track.specs.Lines.{Line, no_line}
use Rattle.tcp_track.specs.Segments.{same_tuple}
use Rattle.tcp_track.specs.Tracking.{Tracking, line_at, same_incarnation}
use Rattle.tcp_track.specs.declared.answers.Took.{Took}
use Rattle.tcp_track.specs.declared.openings.Incarnation.{Incarnation}
use Rattle.seq_rewriter.specs.Kept.{KeptNumbers, number_of}
use Rattle.line_release.specs.Whole.{whole_of}
use Rattle.settle_rules.specs.Matching.{BothLines, client_or_zero}
use Rattle.settle_rules.specs.Progress.{Progress, ProgressTable}
use Rattle.settle_rules.specs.Settle.{Settled, Settlement, settle_one, settle_or_rest}
use Rattle.settle_table.specs.Table.{progress_at, set_progress}

-- An event that settles: the tables of the node's own lines and of the other's known ones, the kept
-- numbers and which of them wait to be known, whether the node is alone, whether this is a turn,
-- what the event's own segments were, and the tuples restarted in it.
pub record KeptScene : Type 0 where
  pub mine : Tracking
  pub theirs : Tracking
  pub numbers : KeptNumbers
  pub unknown : List Incarnation
  pub is_alone : Bool
  pub is_turn : Bool
  pub tooks : List Took
  pub restarts : List Tuple

abbrev pub whole_or_none : Option LineFields → Line
whole_or_none None = no_line
whole_or_none (Some l) = whole_of l

-- the other node is known to have the number
abbrev pub is_number_known : KeptScene → Tuple → ℕ → Bool
is_number_known scene t client =
    is_some (number_of scene.numbers t client)
    && not (list_any (same_incarnation (record { tuple = t; client = client })) scene.unknown)

-- both lines of a tuple; for a node alone its own in the place of both, and every number known
unfoldable pub both_kept : KeptScene → Tuple → LineFields → BothLines
both_kept scene t l =
    let client = client_or_zero l.opening in
    record {
      tuple = t;
      mine = whole_of l;
      theirs = if scene.is_alone then whole_of l else whole_or_none (line_at scene.theirs t);
      number = unwrap_or (number_of scene.numbers t client) 0;
      number_known = scene.is_alone || is_number_known scene t client;
    }

abbrev pub is_restarted : KeptScene → Tuple → Bool
is_restarted scene t = list_any (same_tuple t) scene.restarts

-- nothing goes out
abbrev pub no_release : ProgressTable → Settlement
no_release progress = record { progress = progress; out = [] }

-- what goes out of one line, and its progress then
unfoldable pub line_settled : KeptScene → Progress → Tuple → LineFields → Settled
unfolding both_kept settle_one
line_settled scene p t l =
    settle_or_rest (is_restarted scene t) (both_kept scene t l) p scene.is_turn scene.tooks

-- what goes out of one tuple, and the table of progress then
unfoldable pub settle_line : KeptScene → ProgressTable → Tuple → LineFields → Settlement
unfolding line_settled
settle_line scene progress t l =
    let one = line_settled scene (progress_at progress t) t l in
    record { progress = set_progress progress t one.progress; out = one.out }

abbrev pub settle_found : KeptScene → ProgressTable → Tuple → Option LineFields → Settlement
settle_found scene progress t None = no_release progress
settle_found scene progress t (Some l) = settle_line scene progress t l

unfoldable pub settle_kept_tuple : KeptScene → ProgressTable → Tuple → Settlement
unfolding settle_line
settle_kept_tuple scene progress t = settle_found scene progress t (line_at scene.mine t)

abbrev pub add_tuple : KeptScene → Settlement → Tuple → Settlement
add_tuple scene so_far t =
    let one = settle_kept_tuple scene so_far.progress t in
    record { progress = one.progress; out = so_far.out ++ one.out }

abbrev pub tuples_of : Tracking → List Tuple
tuples_of mine = keys_of mine.entries

-- the tuples of a list, one after the other
abbrev pub settle_tuples : KeptScene → ProgressTable → List Tuple → Settlement
settle_tuples scene progress tuples = fold (add_tuple scene) (no_release progress) tuples

-- Each tuple in table order. Nothing goes out of those restarted in the event.
unfoldable pub settle_kept : KeptScene → ProgressTable → Settlement
unfolding settle_kept_tuple
settle_kept scene progress = settle_tuples scene progress (tuples_of scene.mine)
