-- The tuple at the index is the next of the list.
use Rattle.std.proofs.Common.{◌≡◌, ℕ, suc, List, None, Option, Some, drop, sym, ap, ◌∙◌, add-one}
use Rattle.inet_frame.specs.declared.tuple.Tuple.{Tuple}
use Rattle.settle_table.specs.Kept.{KeptScene, tuples_of}
use Rattle.settle_table.specs.Needs.{first_differ, differ_or}
use Rattle.settle_table.specs.Scenes.{kept_scene}
use Rattle.settle_table.proofs.StepLemmas.{drop_step}
use Rattle.settle_table.proofs.causes.first_differ.Goals as goal

pub returns-in-Some : goal.returns-in-Some
returns-in-Some c =
    let scene = kept_scene c.args.scene.now in
    let table = c.args.table.now.entries in
    let tuples = tuples_of c.args.scene.now.mine.now in
    let t = c.tuple_at-tuple.result in
    let rest = first_differ scene table (drop (suc c.loop-k.k) tuples) in
    sym (c.loop-k.invariant
    ∙ (ap (λ (ts : List Tuple). first_differ scene table ts) (drop_step tuples c.loop-k.k t c.tuple_at-tuple.ensures)
    ∙ ap (λ (d : Option ℕ). differ_or t d rest) (sym c.difference_of.ensures ∙ c.in-Some.is)))

pub loop-k-preserved : goal.loop-k-preserved
loop-k-preserved c =
    let scene = kept_scene c.args.scene.now in
    let table = c.args.table.now.entries in
    let tuples = tuples_of c.args.scene.now.mine.now in
    let t = c.tuple_at-tuple.result in
    let rest = first_differ scene table (drop (suc c.loop-k.k) tuples) in
    rw add-one (c.loop-k.invariant
    ∙ (ap (λ (ts : List Tuple). first_differ scene table ts) (drop_step tuples c.loop-k.k t c.tuple_at-tuple.ensures)
    ∙ ap (λ (d : Option ℕ). differ_or t d rest) (sym c.difference_of.ensures ∙ c.in-None.is)))
