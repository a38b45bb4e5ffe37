use Rattle.std.proofs.Common.{◌≡◌, ◌++◌, take, drop}
use Rattle.std.specs.List.{concat}
use Rattle.checkpoint_capture.specs.Sizes.{HaveSize}
use Rattle.checkpoint_capture.proofs.guest_parts.gather.Given as goal

abbrev pub invariant-loop-i : goal.invariant-loop-i
invariant-loop-i g l =
    (l.bytes.items ≡ l.initial.bytes.items
    ++ concat (take l.i (drop l.first (g.G.Guest.meaning l.guest).state.sectors)))
    × HaveSize 512 (take l.i (drop l.first (g.G.Guest.meaning l.guest).state.sectors))
