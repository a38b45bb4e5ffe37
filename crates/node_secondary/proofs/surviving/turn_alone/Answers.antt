-- A turn that was followed, settled.
use Rattle.node_secondary.specs.Inside.{lone, turn_in}
use Rattle.node_secondary.specs.Steps.{followed}
use Rattle.node_secondary.proofs.LoneLemmas.{lone_released, lone_settled}
use Rattle.node_secondary.proofs.surviving.turn_alone.Goals as goal

pub returns-clause-after : goal.returns-clause-after
returns-clause-after g c =
    let meaning = g.G.Guest.meaning in
    let n = followed (lone (meaning c.args.guest.now) c.args.inbox.now c.args.compare.now.comparing)
    (turn_in c.args.turn) in
    lone_settled n (meaning c.run_alone.new.guest) c.run_alone.new.inbox c.run_alone.new.compare.comparing
    c.settle.new.self c.in_ok-index.ensures.after c.in_ok-need.ensures.after

pub returns-clause-out : goal.returns-clause-out
returns-clause-out g c =
    let meaning = g.G.Guest.meaning in
    let n = followed (lone (meaning c.args.guest.now) c.args.inbox.now c.args.compare.now.comparing)
    (turn_in c.args.turn) in
    lone_released n (meaning c.run_alone.new.guest) c.run_alone.new.inbox c.run_alone.new.compare.comparing
    c.args.out.now c.settle.new.out c.in_ok-index.ensures.after c.in_ok-need.ensures.out
