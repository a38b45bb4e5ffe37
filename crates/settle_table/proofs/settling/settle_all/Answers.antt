-- Each step settles one tuple more.
use Rattle.std.proofs.Common.{◌≡◌, ℕ, ◌+◌, suc, List, ◌++◌, map, take, sym, ap, ◌∙◌, add-one}
use Rattle.settle_rules.specs.Progress.{ProgressTable}
use Rattle.settle_rules.specs.Release.{released_frame}
use Rattle.settle_rules.specs.Settle.{Settlement}
use Rattle.line_settle.proofs.OutLemmas.{added_twice}
use Rattle.settle_table.specs.Kept.{add_tuple, settle_kept_tuple, settle_tuples, tuples_of}
use Rattle.settle_table.specs.Scenes.{kept_scene}
use Rattle.settle_table.proofs.KeptLemmas.{one_more}
use Rattle.settle_table.proofs.settling.settle_all.Goals as goal

pub loop-k-preserved : goal.loop-k-preserved
loop-k-preserved c =
    let scene = kept_scene c.args.scene.now in
    let tuples = tuples_of c.args.scene.now.mine.now in
    let start = c.args.table.now.entries in
    let k = c.loop-k.k in
    let t = c.tuple_at-tuple.result in
    let done = settle_tuples scene start (take k tuples) in
    let one = settle_kept_tuple scene done.progress t in
    let more : settle_tuples scene start (take (k + 1) tuples) ≡ add_tuple scene done t =
    rw add-one (one_more scene start tuples k t c.tuple_at-tuple.ensures) in
    record {
      progress = c.in_ok-settle_tuple.ensures.progress
          ∙ (ap (λ (p : ProgressTable). (settle_kept_tuple scene p t).progress) c.loop-k.invariant.progress
          ∙ sym (ap (λ (s : Settlement). s.progress) more));
      out = added_twice c.args.out.now c.loop-k.out c.settle_tuple.new.out done.out one.out c.loop-k.invariant.out
          (c.in_ok-settle_tuple.ensures.out ∙ ap (λ (p : ProgressTable). c.loop-k.out
          ++ map released_frame (settle_kept_tuple scene p t).out) c.loop-k.invariant.progress)
          ∙ sym (ap (λ (s : Settlement). c.args.out.now ++ map released_frame s.out) more);
      untrimmed = c.in_ok-settle_tuple.ensures.untrimmed;
    }
