-- A trim goes no further than the edge.
use Rattle.std.proofs.Common.{◌≡◌, ℕ, ◌≤◌, sym, subst}
use Rattle.tcp_track.specs.Tracking.{Tracking}
use Rattle.settle_table.specs.Table.{AreUntrimmed, progress_at}
use Rattle.out_compare.proofs.OrderLemmas.{trim_untrimmed}
use Rattle.out_compare.proofs.tables.look.Goals as goal

pub returns-in-Some-clause-order : goal.returns-in-Some-clause-order
returns-in-Some-clause-order c = λ h.
    let mine = c.args.tables.now.mine in
    let table = c.args.tables.now.progress.entries in
    let t = c.client_tuple-tuple.result in
    let low : c.trim_of-trim.result ≤ (progress_at table t).edge =
    subst (λ (n : ℕ). c.trim_of-trim.result ≤ n) c.progress_of-edge.ensures.edge c.trim_of-trim.ensures.within in
    subst (λ (m : Tracking). AreUntrimmed m table) (sym c.trim.ensures)
    (trim_untrimmed mine table t c.in-Some.shown.client
    c.trim_of-trim.result low h)
