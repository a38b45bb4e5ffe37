-- The frames before this one are there.
use Rattle.std.proofs.Common.{◌≡◌, take}
use Rattle.sock_link.specs.Stream.{stream_of}
use Rattle.command_plans.proofs.replay.stream.Given as goal

abbrev pub invariant-loop-k : goal.invariant-loop-k
invariant-loop-k l = l.text.items ≡ stream_of (take l.k l.frames)
