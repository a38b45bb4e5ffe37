-- So many steps were made, and their frames were added.
use Rattle.rv_platform.specs.Settled.{IsSettled, KeepsKinds, Leaves, platform_of}
use Rattle.rv_platform.specs.Step.{run_steps}
use Rattle.rv_platform.proofs.parts.Parts.run.Given as goal

abbrev pub invariant-loop-done : goal.invariant-loop-done
invariant-loop-done l = record {
  left : Leaves (run_steps l._done (platform_of l.fn.self)) (platform_of l.self) l.fn.out l.out;
  settled : IsSettled l.self;
  kinds : KeepsKinds (platform_of l.fn.self) (platform_of l.self);
}
