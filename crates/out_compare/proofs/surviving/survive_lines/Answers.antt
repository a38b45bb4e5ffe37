-- Each step releases one line more.
use Rattle.std.proofs.Common.{◌≡◌, ℕ, ◌+◌, suc, List, [], ◌++◌, map, take, refl, sym, ap, ◌∙◌, add-one}
use Rattle.std.specs.Map.{keys_of}
use Rattle.settle_rules.specs.Release.{released_frame}
use Rattle.line_settle.proofs.OutLemmas.{added_twice}
use Rattle.settle_table.proofs.StepLemmas.{fold_step}
use Rattle.out_compare.proofs.SurviveLemmas.{tuple_apart}
use Rattle.out_compare.specs.Surviving.{Surviving, add_tuple, survive_tuple, survive_tuples}
use Rattle.out_compare.proofs.surviving.survive_lines.Goals as goal

pub loop-k-preserved : goal.loop-k-preserved
loop-k-preserved c =
    let lines = c.args.lines.now in
    let tuples = keys_of lines.entries in
    let start = c.args.numbers.now in
    let k = c.loop-k.k in
    let t = c.tuple_at-tuple.result in
    let done = survive_tuples lines start (take k tuples) in
    let one = survive_tuple lines done t in
    let none : Surviving = record { numbers = start; progress = []; out = [] } in
    let mid : Surviving = record { numbers = c.loop-k.numbers; progress = c.loop-k.progress.entries; out = [] } in
    let more : survive_tuples lines start (take (k + 1) tuples) ≡ add_tuple lines done t =
    rw add-one (fold_step (add_tuple lines) none tuples k t c.tuple_at-tuple.ensures) in
    let same : mid ≡ record done { out = [] } = (λ i. record {
      numbers = c.loop-k.invariant.numbers i;
      progress = c.loop-k.invariant.progress i;
      out = [];
    }) in
    let step : survive_tuple lines mid t ≡ one = ap (λ (x : Surviving). survive_tuple lines x t) same
    ∙ sym (tuple_apart lines done t) in
    record {
      numbers = c.in_ok-survive_tuple.ensures.numbers ∙ (ap (λ (x : Surviving). x.numbers) step
          ∙ sym (ap (λ (x : Surviving). x.numbers) more));
      progress = c.in_ok-survive_tuple.ensures.progress ∙ (ap (λ (x : Surviving). x.progress) step
          ∙ sym (ap (λ (x : Surviving). x.progress) more));
      out = added_twice c.args.out.now c.loop-k.out c.survive_tuple.new.out done.out one.out c.loop-k.invariant.out
          (c.in_ok-survive_tuple.ensures.out ∙ ap (λ (x : Surviving). c.loop-k.out ++ map released_frame x.out) step)
          ∙ sym (ap (λ (x : Surviving). c.args.out.now ++ map released_frame x.out) more);
    }
