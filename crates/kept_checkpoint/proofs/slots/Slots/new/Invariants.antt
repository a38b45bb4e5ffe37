use Rattle.std.proofs.Common.{◌≡◌}
use Rattle.kept_checkpoint.specs.Slots.{no_parts}
use Rattle.kept_checkpoint.proofs.slots.Slots.new.Given as goal

abbrev pub invariant-loop : goal.invariant-loop
invariant-loop l = l.parts.items ≡ no_parts l.counter
