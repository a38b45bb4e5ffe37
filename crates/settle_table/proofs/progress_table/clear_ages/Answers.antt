-- Each step does one age more, and the last does all.
use Rattle.std.proofs.Common.{◌≡◌, ℕ, length, slice_get, Some, ap, subst, ◌∙◌, add-one, arith}
use Rattle.std.specs.Map.{values_of}
use Rattle.settle_rules.specs.Progress.{ProgressTable}
use Rattle.settle_table.proofs.TableLemmas.{clear_age}
use Rattle.tcp_track.proofs.FirstLemmas.{change_first, change_first-suc, change_first-all, length-change_first}
use Rattle.settle_table.proofs.progress_table.clear_ages.Goals as goal

pub index_mut-progress-requires : goal.index_mut-progress-requires
index_mut-progress-requires c = omega (
  arith,
  ap length c.loop-k.invariant,
  length-change_first clear_age c.loop-k.k c.args.table.now.entries,
  c.len-k-end.ensures.len,
  c.loop-k-test.true,
)

pub loop-k-preserved : goal.loop-k-preserved
loop-k-preserved c =
    let k = c.loop-k.k in
    let done = change_first clear_age k c.args.table.now.entries in
    let old = c.index_mut-progress.result.now in
    let at : slice_get (values_of done) k ≡ Some old = subst (λ (es : ProgressTable). slice_get
    (values_of es) k ≡ Some old) c.loop-k.invariant c.index_mut-progress.ensures.value in
    rw (add-one, c.clear_age.ensures, c.loop-k.invariant)
    (change_first-suc clear_age k c.args.table.now.entries old at)

pub returns : goal.returns
returns c =
    let es = c.args.table.now.entries in
    let all : c.loop-k.k ≡ length es = omega (
      arith,
      c.loop-k.auto.k-end,
      c.loop-k-test.false,
      c.len-k-end.ensures.len,
    ) in
    c.loop-k.invariant ∙ (ap (λ (n : ℕ). change_first clear_age n es) all ∙ change_first-all clear_age es)
