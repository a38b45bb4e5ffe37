-- The lines before this one are written.
use Rattle.std.proofs.Common.{◌≡◌, take}
use Rattle.input_maker.specs.Made.{schedule_text}
use Rattle.input_maker.proofs.making.schedule_text.Given as goal

abbrev pub invariant-loop-line : goal.invariant-loop-line
invariant-loop-line l = l.text.items ≡ schedule_text (take l.line-index l.lines)
