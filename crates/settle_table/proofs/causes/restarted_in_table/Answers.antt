-- The tuple at the index is the next of the list.
use Rattle.std.proofs.Common.{◌≡◌, Bool, suc, List, None, Option, Some, cond, find, drop, sym, ap, ◌∙◌, add-one}
use Rattle.inet_frame.specs.declared.tuple.Tuple.{Tuple}
use Rattle.settle_table.specs.Kept.{is_restarted, tuples_of}
use Rattle.settle_table.specs.Scenes.{kept_scene}
use Rattle.settle_table.proofs.StepLemmas.{drop_step}
use Rattle.settle_table.proofs.causes.restarted_in_table.Goals as goal

pub returns-then-is_restarted : goal.returns-then-is_restarted
returns-then-is_restarted c =
    let scene = kept_scene c.args.scene.now in
    let tuples = tuples_of c.args.scene.now.mine.now in
    let t = c.tuple_at-tuple.result in
    let rest = find (is_restarted scene) (drop (suc c.loop-k.k) tuples) in
    sym (c.loop-k.invariant
    ∙ (ap (λ (ts : List Tuple). find (is_restarted scene) ts) (drop_step tuples c.loop-k.k t c.tuple_at-tuple.ensures)
    ∙ ap (λ (b : Bool). cond b (Some t) rest) (sym c.is_restarted.ensures ∙ c.if-is_restarted.true)))

pub loop-k-preserved : goal.loop-k-preserved
loop-k-preserved c =
    let scene = kept_scene c.args.scene.now in
    let tuples = tuples_of c.args.scene.now.mine.now in
    let t = c.tuple_at-tuple.result in
    let rest = find (is_restarted scene) (drop (suc c.loop-k.k) tuples) in
    rw add-one (c.loop-k.invariant
    ∙ (ap (λ (ts : List Tuple). find (is_restarted scene) ts) (drop_step tuples c.loop-k.k t c.tuple_at-tuple.ensures)
    ∙ ap (λ (b : Bool). cond b (Some t) rest) (sym c.is_restarted.ensures ∙ c.if-is_restarted.false)))
