use Rattle.std.proofs.Common.{◌≡◌, ◌++◌}
use Rattle.checkpoint_capture.proofs.PieceLemmas.{bytes_front}
use Rattle.checkpoint_capture.proofs.line_parts.put_pieces.Given as goal

abbrev pub invariant-loop-k : goal.invariant-loop-k
invariant-loop-k l = l.waits ≡ l.initial.waits ++ bytes_front l.bytes l.k
