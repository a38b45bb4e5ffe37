-- The entries before the index are done.
use Rattle.std.proofs.Common.{◌≡◌}
use Rattle.tcp_track.proofs.FirstLemmas.{change_first, note_commit}
use Rattle.tcp_track.proofs.steps.commit_entries.Given as goal

abbrev pub invariant-loop-k : goal.invariant-loop-k
invariant-loop-k l = l.table.entries ≡ change_first note_commit l.k l.initial.table.entries
