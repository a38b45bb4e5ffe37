-- The frames that were passed have been followed and told.
use Rattle.std.proofs.Common.{◌≡◌, ◌++◌, take}
use Rattle.std.specs.Prelude.{fold}
use Rattle.tcp_track.specs.Tracking.{taken}
use Rattle.node_secondary.specs.Turns.{sent_messages}
use Rattle.node_secondary.proofs.telling.tell_all.Given as goal

abbrev pub invariant-loop-k : goal.invariant-loop-k
invariant-loop-k l = record {
  lines : l.lines ≡ fold taken l.initial.lines (take l.k l.frames);
  waits : l.waits ≡ l.initial.waits ++ sent_messages (take l.k l.frames);
}
