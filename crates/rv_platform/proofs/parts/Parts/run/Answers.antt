-- One step after the other.
use Rattle.std.proofs.lemmas.Result.{err_from_is_err_and}
use Rattle.rv_platform.specs.Settled.{platform_of}
use Rattle.rv_platform.proofs.StepLemmas.{kinds_same, kinds_then, no_steps, one_more, one_sends}
use Rattle.rv_platform.proofs.parts.Parts.run.Goals as goal

pub loop-done-init : goal.loop-done-init
loop-done-init c = record {
  left = no_steps (platform_of c.args.self.now) c.args.out.now;
  settled = c.requires.settled;
  kinds = kinds_same (platform_of c.args.self.now);
}

pub loop-done-preserved : goal.loop-done-preserved
loop-done-preserved c =
    let start = platform_of c.args.self.now in
    let now = platform_of c.loop-done.self in
    let next = platform_of c.step.new.self in
    record {
      left = one_more c.loop-done._done start now next c.args.out.now c.loop-done.out c.step.new.out
          c.loop-done.invariant.left c.in_ok-step.ensures.ok;
      settled = c.step.ensures.settled;
      kinds = kinds_then start now next c.loop-done.invariant.kinds c.step.ensures.kinds;
    }

pub returns-in_err-step-clause-cause : goal.returns-in_err-step-clause-cause
returns-in_err-step-clause-cause c =
    let r = err_from_is_err_and c.from_residual.result c.from_residual.ensures.1 in
    rw r.1 (one_sends c.args.steps c.loop-done._done (platform_of c.args.self.now) (platform_of c.loop-done.self)
    c.loop-done-test.true c.loop-done.invariant.left.platform_is c.in_err-step.ensures.cause)
