-- What a surviving secondary releases at the report of the primary's stop, and its comparer then.
use Rattle.std.specs.Prelude.{ℕ, true, is_some, unwrap_or, List, [], ◌++◌, fold, Option, None, Some}
use Rattle.std.specs.Map.{keys_of}
use Rattle.inet_frame.specs.declared.tuple.Tuple.{Tuple}
use Rattle.tcp_track.specs.LineFields.{LineFields}
use Rattle.tcp_track.specs.Tracking.{Tracking, line_at, nothing_tracked}
use Rattle.tcp_track.specs.declared.openings.Opening.{Opening}
use Rattle.seq_rewriter.specs.Kept.{KeptNumbers, keep_number, number_of}
use Rattle.line_release.specs.Whole.{whole_of}
use Rattle.settle_rules.specs.Progress.{ProgressTable}
use Rattle.settle_rules.specs.Release.{Released, release_refusal}
use Rattle.settle_rules.specs.Survive.{lone_lines, survivor_out, survivor_progress}
use Rattle.settle_table.specs.Table.{set_progress}
use Rattle.out_compare.specs.Comparing.{Comparing}

-- the numbers and the progress of the survivor, and what it released so far
pub record Surviving : Type 0 where
  pub numbers : KeptNumbers
  pub progress : ProgressTable
  pub out : List Released

-- what one line adds: the numbers and the progress then, and what goes out of it

-- a line without an opening has at most a refusal
abbrev pub survive_unopened : Surviving → Tuple → LineFields → Surviving
survive_unopened x t l = record x {
  out = release_refusal (lone_lines t (whole_of l) 0) l.refused (is_some l.refused);
}

abbrev pub survive_numbered : Surviving → Tuple → LineFields → Opening → KeptNumbers → Surviving
survive_numbered x t l o numbers =
    let b = lone_lines t (whole_of l) (unwrap_or (number_of numbers t o.client) 0) in
    record {
      numbers = numbers;
      progress = set_progress x.progress t (survivor_progress b o);
      out = survivor_out b;
    }

abbrev pub survive_with : Surviving → Tuple → LineFields → Option Opening → Surviving
survive_with x t l None = survive_unopened x t l
survive_with x t l (Some o) =
    survive_numbered x t l o (keep_number x.numbers t o.client o.own)

abbrev pub survive_found : Surviving → Tuple → Option LineFields → Surviving
survive_found x t None = record x { out = [] }
survive_found x t (Some l) = survive_with x t l l.opening

unfoldable pub survive_tuple : Tracking → Surviving → Tuple → Surviving
unfolding survivor_out
survive_tuple lines x t = survive_found x t (line_at lines t)

abbrev pub add_tuple : Tracking → Surviving → Tuple → Surviving
add_tuple lines x t = let one = survive_tuple lines x t in record one { out = x.out ++ one.out }

abbrev pub survive_tuples : Tracking → KeptNumbers → List Tuple → Surviving
survive_tuples lines numbers tuples =
    fold (add_tuple lines) (record { numbers = numbers; progress = []; out = [] }) tuples

-- each tuple in table order
unfoldable pub survive : Tracking → KeptNumbers → Surviving
unfolding survive_tuple
survive lines numbers = survive_tuples lines numbers (keys_of lines.entries)

-- the survivor is alone
abbrev pub survivor : Tracking → Surviving → Comparing
survivor lines x = record {
  mine = lines;
  theirs = nothing_tracked;
  numbers = x.numbers;
  unknown = [];
  progress = x.progress;
  tooks = [];
  restarts = [];
  is_alone = true;
}
