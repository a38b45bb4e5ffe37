-- Where a list of a comparer's calls begins: at a new one, or at a survivor's, whose tables may
-- have been put back from a checkpoint.
use Rattle.std.specs.Prelude.{List, fold}
use Rattle.inet_frame.specs.declared.tuple.Tuple.{Tuple}
use Rattle.tcp_track.specs.Laws.{Call, call_after}
use Rattle.tcp_track.specs.LineFields.{LineFields}
use Rattle.tcp_track.specs.Tracking.{Tracking, nothing_tracked, with_line}
use Rattle.seq_rewriter.specs.Kept.{KeptNumbers}
use Rattle.out_compare.specs.Comparing.{Comparing, nothing_compared}
use Rattle.out_compare.specs.Surviving.{survive, survivor}

-- a call that changes a tracker: a line is put back, or a frame, a trim or a commit is taken
pub data TableCall : Type 0 where
  puts : Tuple → LineFields → TableCall
  does : Call → TableCall

abbrev pub table_after : Tracking → TableCall → Tracking
table_after tracking (puts t l) = with_line tracking t l
table_after tracking (does call) = call_after tracking call

-- what a tracker holds after such calls
abbrev pub table_made : List TableCall → Tracking
table_made calls = fold table_after nothing_tracked calls

pub data Start : Type 0 where
  at_new : Start
  at_survivor : List TableCall → KeptNumbers → Start

abbrev pub start_of : Start → Comparing
start_of at_new = nothing_compared
start_of (at_survivor calls numbers) =
    survivor (table_made calls) (survive (table_made calls) numbers)
