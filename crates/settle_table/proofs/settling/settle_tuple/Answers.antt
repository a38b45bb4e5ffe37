-- The tuple's edge only grows, and all others stay.
use Rattle.std.proofs.Common.{◌≡◌, sym, subst}
use Rattle.line_release.specs.Both.{both_of}
use Rattle.settle_rules.specs.Progress.{ProgressTable}
use Rattle.settle_rules.specs.Settle.{settle_or_rest}
use Rattle.settle_table.specs.Table.{AreUntrimmed, progress_at}
use Rattle.settle_table.proofs.TableLemmas.{untrimmed_set}
use Rattle.settle_table.proofs.settling.settle_tuple.Goals as goal

pub returns-in_ok-settle_entry-in-Some-clause-untrimmed : goal.returns-in_ok-settle_entry-in-Some-clause-untrimmed
returns-in_ok-settle_entry-in-Some-clause-untrimmed c =
    let mine = c.args.scene.now.mine.now in
    let table = c.args.table.now.entries in
    let b = c.both_lines-both.result in
    let p = (settle_or_rest c.is_restarted-restarted.result (both_of b) (progress_at table b.tuple)
    c.args.scene.now.is_turn c.args.scene.now.tooks.now).progress in
    subst (λ (t : ProgressTable). AreUntrimmed mine t) (sym c.in_ok-settle_entry-in-Some.ensures.progress)
    (untrimmed_set mine
    table b.tuple p c.requires c.in_ok-settle_entry-in-Some.ensures.after)
