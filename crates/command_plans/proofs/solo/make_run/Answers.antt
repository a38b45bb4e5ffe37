-- The turns were made, or one of them can't be.
use Rattle.std.proofs.Common.{List, ℕ, subst}
use Rattle.splice_run.specs.Solo.{HasMade, Stops, sender}
use Rattle.command_plans.proofs.SoloLemmas.{run_ends, run_stopped}
use Rattle.command_plans.proofs.solo.make_run.Goals as goal

pub returns-in-Ok-clause-plan : goal.returns-in-Ok-clause-plan
returns-in-Ok-clause-plan g c =
    let old = g.G.Guest.meaning c.args.machine.now in
    let new = g.G.Guest.meaning c.solo.new.machine in
    let H : List (List ℕ) → Type 0 = λ none. HasMade c.args.frames.now (sender old none) (sender new c.solo.new.out)
    c.args.turns.now in
    run_ends c.made_end.result old new c.args.frames.now c.solo.new.out c.args.turns.now
    (subst H c.new-sent.ensures c.in-Ok.ensures.made) c.made_end.ensures.plan

pub returns-in-Err-NoFrame-clause-plan : goal.returns-in-Err-NoFrame-clause-plan
returns-in-Err-NoFrame-clause-plan g c =
    let old = g.G.Guest.meaning c.args.machine.now in
    let last = sender (g.G.Guest.meaning c.solo.new.machine) c.solo.new.out in
    let S : List (List ℕ) → Type 0 = λ none. Stops c.args.frames.now (sender old none) last c.args.turns.now
    c.in-Err-NoFrame.field-0 in
    run_stopped old last c.args.frames.now c.args.turns.now c.in-Err-NoFrame.field-0 c.in-Err-NoFrame.turn
    c.line_refusal.result c.in-Err-NoFrame.field-0-is (subst S c.new-sent.ensures c.in-Err-NoFrame.ensures.stops)
    (rw c.in-Err-NoFrame.field-0-is at c.line_refusal.ensures.line)
