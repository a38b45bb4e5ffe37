-- A commit leaves all lines, and ages change no edge.
use Rattle.std.proofs.Common.{◌≡◌, sym, subst}
use Rattle.tcp_track.specs.Tracking.{Tracking, commit_tracking}
use Rattle.settle_rules.specs.Progress.{ProgressTable}
use Rattle.settle_table.specs.Table.{AreUntrimmed}
use Rattle.out_compare.proofs.OrderLemmas.{acknowledged_untrimmed}
use Rattle.out_compare.proofs.tables.acknowledge.Goals as goal

pub returns-clause-order : goal.returns-clause-order
returns-clause-order c =
    let mine = c.args.tables.now.mine in
    let table = c.args.tables.now.progress.entries in
    subst (λ (m : Tracking). AreUntrimmed m c.clear_ages.new.table.entries) (sym c.commit.ensures) (subst
    (λ (t : ProgressTable). AreUntrimmed (commit_tracking mine) t) (sym c.clear_ages.ensures)
    (acknowledged_untrimmed mine table c.requires))
