-- The pair is made, and stands for its start.
use Rattle.std.proofs.Common.{subst, sym}
use Rattle.file_steps.specs.declared.fault.Fault.TheVariants.{NoMemory}
use Rattle.file_steps.proofs.WriteLemmas.{write_no_memory}
use Rattle.command_plans.specs.Replay.{AreEvents}
use Rattle.command_plans.proofs.CarryLemmas.{steps_fail}
use Rattle.pair_core.specs.Pair.{Pair, pair_of}
use Rattle.pair_world.specs.Running.{start_of}
use Rattle.replay_plan.specs.LogPlan.{log_plan}
use Rattle.replay_plan.proofs.PairLemmas.{pair_same, stands_there}
use Rattle.replay_plan.proofs.PlanLemmas.{run_done, run_fails}
use Rattle.replay_plan.proofs.plan.run_both.Goals as goal

pub run_log-requires-clause-good : goal.run_log-requires-clause-good
run_log-requires-clause-good g c =
    let w = pair_of g.G.Guest.meaning c.in-Ok.pair in
    let is = pair_same w (g.G.Guest.meaning c.args.first) (g.G.Guest.meaning c.args.second) c.args.frames
    c.requires.same c.in-Ok.ensures.pair in
    subst (λ (v : Pair). AreEvents v c.args.lines.now) (sym is) c.requires.good

pub returns-in-Err-clause-fails : goal.returns-in-Err-clause-fails
returns-in-Err-clause-fails g c =
    let first = g.G.Guest.meaning c.args.first in
    let plan = log_plan (start_of first first c.args.frames) c.args.lines.now in
    let s = g.S.Shelf.state c.args.shelf.now in
    steps_fail c.args.out.now plan s s NoMemory (write_no_memory c.args.out.now plan.steps s)

pub returns-in-Ok-clause-done : goal.returns-in-Ok-clause-done
returns-in-Ok-clause-done g c =
    let w = pair_of g.G.Guest.meaning c.in-Ok.pair in
    let first = g.G.Guest.meaning c.args.first in
    let stands = stands_there w first (g.G.Guest.meaning c.args.second) c.args.frames c.requires.same
    c.in-Ok.ensures.pair in
    run_done w (start_of first first c.args.frames) c.requires.start stands c.args.lines.now c.args.out.now
    (g.S.Shelf.state c.args.shelf.now) (g.S.Shelf.state c.run_log.new.shelf) c.run_log.result
    c.run_log.ensures.line c.run_log.ensures.done

pub returns-in-Ok-clause-fails : goal.returns-in-Ok-clause-fails
returns-in-Ok-clause-fails g c =
    let w = pair_of g.G.Guest.meaning c.in-Ok.pair in
    let first = g.G.Guest.meaning c.args.first in
    let stands = stands_there w first (g.G.Guest.meaning c.args.second) c.args.frames c.requires.same
    c.in-Ok.ensures.pair in
    run_fails w (start_of first first c.args.frames) c.requires.start stands c.args.lines.now c.args.out.now
    (g.S.Shelf.state c.args.shelf.now) (g.S.Shelf.state c.run_log.new.shelf) c.run_log.result
    c.run_log.ensures.fails
