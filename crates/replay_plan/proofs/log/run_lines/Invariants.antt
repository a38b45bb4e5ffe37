-- The events before this line are the log of the lines before it, and what they leave is written.
use Rattle.std.proofs.Common.{◌≡◌, flat_map, take}
use Rattle.file_steps.specs.Steps.{Writes}
use Rattle.command_plans.specs.Replay.{after_lines}
use Rattle.pair_core.specs.Pair.{pair_of}
use Rattle.pair_theorem.specs.History.{pair_log}
use Rattle.replay_plan.specs.LogPlan.{writes_of}
use Rattle.replay_plan.specs.Running.{OfItsStart}
use Rattle.replay_plan.proofs.LogLemmas.{GoesOnSoFar}
use Rattle.replay_plan.proofs.log.run_lines.Given as goal

abbrev pub invariant-loop-line : goal.invariant-loop-line
invariant-loop-line g l =
    let w = pair_of g.G.Guest.meaning l.initial.pair in record {
      after : pair_of g.G.Guest.meaning l.pair ≡ after_lines w (take l.line-index l.lines);
      steps : l.pair.steps ≡ l.line-index;
      lines : l.counts.lines ≡ l.line-index;
      so_far : OfItsStart w (λ a. GoesOnSoFar a (take l.line-index l.lines) l.counts
          (pair_of g.G.Guest.meaning l.pair));
      written : OfItsStart w (λ a. Writes l.out (flat_map writes_of (pair_log a (take l.line-index l.lines)))
          (g.S.Shelf.state l.initial.shelf) (g.S.Shelf.state l.shelf));
    }
