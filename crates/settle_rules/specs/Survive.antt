-- What a surviving secondary releases at the report of the primary's stop: all that its lines hold,
-- even if it went out before.
use Rattle.std.specs.Prelude.{ℕ, true, max, is_some, List, [], ◌++◌, length, fold, Option, None, Some}
use Rattle.inet_frame.specs.declared.tuple.Tuple.{Tuple}
use Rattle.tcp_track.specs.Lines.{Item, Line, line}
use Rattle.tcp_track.specs.declared.openings.Opening.{Opening}
use Rattle.settle_rules.specs.Matching.{BothLines, agreed_ack_window}
use Rattle.settle_rules.specs.Numbers.{KeptNumber, keep_number, kept_number, number_or_zero}
use Rattle.settle_rules.specs.Progress.{Progress, ProgressTable, no_progress, put_progress}
use Rattle.settle_rules.specs.Release.{Released, syn_segments, release_symbols, release_reset, release_refusal}

-- a node's own line in the place of both
abbrev pub lone_lines : Tuple → Line → ℕ → BothLines
lone_lines t l number =
    record { tuple = t; mine = l; theirs = l; number = number; number_known = true }

-- the numbers and the progress of the survivor, and what it releases
pub record Survival : Type 0 where
  pub numbers : List KeptNumber
  pub progress : ProgressTable
  pub out : List Released

-- the edge is the line's end, and nothing is due
abbrev pub survivor_progress : BothLines → Opening → Progress
survivor_progress b o = record no_progress {
  edge = length b.mine.symbols;
  last = Some (agreed_ack_window b);
  shown = Some (record { client = o.client; own = b.number });
}

-- SYN, the untrimmed symbols up to the line's end, a reset and a refusal that the line holds
unfoldable pub survivor_out : BothLines → List Released
unfolding release_symbols
survivor_out b =
    syn_segments b true
    ++ release_symbols b (max 1 b.mine.base) (length b.mine.symbols)
    ++ release_reset b (length b.mine.symbols) b.mine.reset
    ++ release_refusal b b.mine.refused (is_some b.mine.refused)

unfoldable pub survive_line : Survival → Tuple → Line → Option Opening → Survival
unfolding survivor_out
survive_line x t l None = record x {
  out = x.out ++ release_refusal (lone_lines t l 0) l.refused (is_some l.refused);
}
survive_line x t l (Some o) =
    let numbers = keep_number t o.client o.own true x.numbers in
    let b = lone_lines t l (number_or_zero (kept_number t o.client numbers)) in
    record {
      numbers = numbers;
      progress = put_progress t (survivor_progress b o) x.progress;
      out = x.out ++ survivor_out b;
    }

unfoldable pub survive_tuple : List Item → Survival → Tuple → Survival
unfolding line survive_line
survive_tuple items x t = survive_line x t (line t items) (line t items).opening

-- each tuple in table order
unfoldable pub survive : List Item → List KeptNumber → List Tuple → Survival
unfolding survive_tuple
survive items numbers tuples =
    fold (survive_tuple items) (record { numbers = numbers; progress = []; out = [] }) tuples
