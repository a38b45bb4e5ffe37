-- The turns before this one are written.
use Rattle.std.proofs.Common.{◌≡◌, take}
use Rattle.command_plans.specs.Splice.{single_text}
use Rattle.command_plans.proofs.splice.text_of.Given as goal

abbrev pub invariant-loop-turn : goal.invariant-loop-turn
invariant-loop-turn l = l.text.items ≡ single_text (take l.turn-index l.turns)
