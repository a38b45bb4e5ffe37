-- Each event says its part before what later ones say.
use Rattle.std.proofs.Common.{◌≡◌, None, length, arith}
use Rattle.std.specs.BTreeMap.{get}
use Rattle.std.specs.Ordering.{nat_cmp}
use Rattle.std.proofs.lemmas.Grind.{common_steps}
use Rattle.std.proofs.lemmas.List.{take_all}
use Rattle.splice_run.proofs.FrameLemmas.{seen_step, seen_all}
use Rattle.splice_run.proofs.seen.seen_in.Goals as goal

pub loop-end-init : goal.loop-end-init
loop-end-init c = record {
  within = omega arith;
  said = λ index.
      let log = c.args.log.now in
      let none : get nat_cmp c.new-seen.result index ≡ None = grind (arith, common_steps) in
      rw (none, take_all (length log) log (omega arith)) (seen_all log index);
}

pub loop-end-preserved : goal.loop-end-preserved
loop-end-preserved c = record {
  within = omega arith;
  said = λ index.
      seen_step c.args.log.now c.loop-end.end c.index-log-end.result c.client_frame.result index _ _ _
      c.loop-end-test.true
      c.loop-end.invariant.within c.index-log-end.is c.client_frame.ensures (c.in_ok-tell.ensures index)
      (c.loop-end.invariant.said index);
}
