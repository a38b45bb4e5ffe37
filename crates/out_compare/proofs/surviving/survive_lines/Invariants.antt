-- The lines before the index are released.
use Rattle.std.proofs.Common.{◌≡◌, ◌++◌, map, take}
use Rattle.std.specs.Map.{keys_of}
use Rattle.settle_rules.specs.Release.{released_frame}
use Rattle.out_compare.specs.Surviving.{survive_tuples}
use Rattle.out_compare.proofs.surviving.survive_lines.Given as goal

abbrev pub invariant-loop-k : goal.invariant-loop-k
invariant-loop-k l = record {
  numbers : l.numbers
      ≡ (survive_tuples l.lines l.initial.numbers (take l.k (keys_of l.lines.entries))).numbers;
  progress : l.progress.entries
      ≡ (survive_tuples l.lines l.initial.numbers (take l.k (keys_of l.lines.entries))).progress;
  out : l.out ≡ l.initial.out ++ map released_frame
      (survive_tuples l.lines l.initial.numbers (take l.k (keys_of l.lines.entries))).out;
}
