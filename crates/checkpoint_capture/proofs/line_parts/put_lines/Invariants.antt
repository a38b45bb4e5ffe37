use Rattle.std.proofs.Common.{◌≡◌, ◌++◌, take}
use Rattle.std.specs.List.{flat_map}
use Rattle.checkpoint_form.specs.Captured.{lines_of}
use Rattle.checkpoint_form.specs.Rows.{line_messages}
use Rattle.checkpoint_capture.proofs.line_parts.put_lines.Given as goal

abbrev pub invariant-loop-k : goal.invariant-loop-k
invariant-loop-k l = l.waits ≡ l.initial.waits ++ flat_map (line_messages l.numbers) (take l.k (lines_of l.lines))
