-- The ages before the index are counted anew.
use Rattle.std.proofs.Common.{◌≡◌}
use Rattle.tcp_track.proofs.FirstLemmas.{change_first}
use Rattle.settle_table.proofs.TableLemmas.{clear_age}
use Rattle.settle_table.proofs.progress_table.clear_ages.Given as goal

abbrev pub invariant-loop-k : goal.invariant-loop-k
invariant-loop-k l = l.table.entries ≡ change_first clear_age l.k l.initial.table.entries
