-- A frame leaves the lines untrimmed past their edges.
use Rattle.std.proofs.Common.{◌≡◌, sym, ap, subst, ◌∙◌}
use Rattle.tcp_track.specs.Tracking.{Tracking, taken, took_of}
use Rattle.tcp_track.specs.declared.answers.Took.{Took}
use Rattle.settle_rules.specs.Progress.{ProgressTable}
use Rattle.settle_table.specs.Table.{AreUntrimmed}
use Rattle.out_compare.specs.Noting.{note_progress}
use Rattle.out_compare.proofs.OrderLemmas.{own_untrimmed}
use Rattle.out_compare.proofs.tables.take_own.Goals as goal

pub returns-clause-order : goal.returns-clause-order
returns-clause-order c =
    let mine = c.args.tables.now.mine in
    let table = c.args.tables.now.progress.entries in
    let noted = c.in_ok-note_progress.ensures
    ∙ ap (λ (t : Took). note_progress table t) c.in_ok-took.ensures.answer in
    subst (λ (m : Tracking). AreUntrimmed m c.note_progress.new.table.entries) (sym c.in_ok-took.ensures.after)
    (subst (λ
    (t : ProgressTable). AreUntrimmed (taken mine c.args.frame.now) t) (sym noted) (own_untrimmed mine table
    c.args.frame.now c.requires))
