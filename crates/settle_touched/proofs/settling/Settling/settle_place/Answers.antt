-- The line at the place is that of both lines.
use Rattle.std.proofs.Common.{◌≡◌, ℕ, ◌≤◌, true, is_some, List, Some, sym, subst, ◌∙◌}
use Rattle.inet_frame.specs.declared.tuple.Tuple.{Tuple}
use Rattle.tcp_track.specs.LineFields.{LineFields}
use Rattle.line_release.specs.Both.{both_of}
use Rattle.line_match.specs.Untrimmed.{IsUntrimmed}
use Rattle.settle_rules.specs.Settle.{settle_or_rest}
use Rattle.settle_table.specs.Kept.{is_restarted}
use Rattle.settle_table.specs.Scenes.{kept_scene}
use Rattle.settle_touched.specs.Ages.{StoredTable, stored_after}
use Rattle.settle_touched.specs.Places.{AreStoredUntrimmed, stored_of}
use Rattle.settle_touched.proofs.RestLemmas.{untrimmed_set}
use Rattle.settle_touched.proofs.SettleLemmas.{on_ok_both, on_ok_map, place_table}
use Rattle.settle_touched.proofs.settling.Settling.settle_place.Goals as goal

pub settle_entry-requires : goal.settle_entry-requires
settle_entry-requires c =
    let table = c.args.table.now.entries in
    let both = c.both_lines-both in
    let line = c.in-Some.line.now in
    let low = c.requires c.args.k (c.in-Some.tuple.now, line) (sym c.in-Some.ensures) in
    subst (λ (l : LineFields). IsUntrimmed l (stored_of table both.result.tuple c.args.k).progress.edge)
    (sym both.ensures.mine)
    (subst (λ (t : Tuple). IsUntrimmed line (stored_of table t c.args.k).progress.edge) (sym both.ensures.tuple) low)

pub returns-in-Some-clause-table : goal.returns-in-Some-clause-table
returns-in-Some-clause-table c =
    let both = c.both_lines-both in
    on_ok_map c.settle_entry.result _ _ c.settle_entry.ensures.table
    (λ e. e ∙ place_table (kept_scene c.args.self.now.scene.now) c.args.self.now.turns c.args.table.now.entries c.args.k
    c.in-Some.tuple.now both.result.tuple c.in-Some.line.now (both_of both.result) both.ensures.tuple both.ensures.both
    (sym c.in-Some.ensures))

pub returns-in-Some-clause-untrimmed : goal.returns-in-Some-clause-untrimmed
returns-in-Some-clause-untrimmed c =
    let scene = kept_scene c.args.self.now.scene.now in
    let table = c.args.table.now.entries in
    let both = c.both_lines-both in
    let u = both.result.tuple in
    let s = stored_of table u c.args.k in
    let after = stored_after scene.is_turn c.args.self.now.turns s (settle_or_rest (is_restarted scene u)
    (both_of both.result) s.progress scene.is_turn scene.tooks).progress in
    on_ok_both c.settle_entry.result _ _ _ c.settle_entry.ensures.table c.settle_entry.ensures.after
    (λ e more. subst (λ (es : StoredTable). AreStoredUntrimmed scene.mine es) (sym e)
    (untrimmed_set scene.mine table u c.args.k after c.requires more))
