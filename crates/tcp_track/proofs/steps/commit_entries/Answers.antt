-- Each step does one entry more, and the last does all.
use Rattle.std.proofs.Common.{◌≡◌, ℕ, length, List, slice_get, Some, ap, subst, ◌∙◌, add-one, arith}
use Rattle.std.specs.Map.{values_of}
use Rattle.inet_frame.specs.declared.tuple.Tuple.{Tuple}
use Rattle.tcp_track.specs.declared.table.Entry.{Entry}
use Rattle.tcp_track.proofs.FirstLemmas.{change_first, change_first-suc, change_first-all, length-change_first, note_commit}
use Rattle.tcp_track.proofs.steps.commit_entries.Goals as goal

pub index_mut-entry-requires : goal.index_mut-entry-requires
index_mut-entry-requires c = omega (
  arith,
  ap length c.loop-k.invariant,
  length-change_first note_commit c.loop-k.k c.args.table.now.entries,
  c.len-k-end.ensures.len,
  c.loop-k-test.true,
)

pub loop-k-preserved : goal.loop-k-preserved
loop-k-preserved c =
    let k = c.loop-k.k in
    let done = change_first note_commit k c.args.table.now.entries in
    let old = c.index_mut-entry.result.now in
    let at : slice_get (values_of done) k ≡ Some old = subst (λ (es : List (Tuple × Entry)). slice_get
    (values_of es) k ≡ Some old) c.loop-k.invariant c.index_mut-entry.ensures.value in
    rw (add-one, c.note_commit.ensures, c.loop-k.invariant)
    (change_first-suc note_commit k c.args.table.now.entries old at)

pub returns : goal.returns
returns c =
    let es = c.args.table.now.entries in
    let all : c.loop-k.k ≡ length es = omega (
      arith,
      c.loop-k.auto.k-end,
      c.loop-k-test.false,
      c.len-k-end.ensures.len,
    ) in
    c.loop-k.invariant ∙ (ap (λ (n : ℕ). change_first note_commit n es) all ∙ change_first-all note_commit es)
