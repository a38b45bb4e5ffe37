-- A turn of the guest, followed.
use Rattle.node_secondary.specs.Inside.{lone, turn_in}
use Rattle.node_secondary.proofs.LoneLemmas.{lone_followed}
use Rattle.node_secondary.proofs.surviving.run_alone.Goals as goal

pub returns-clause-after : goal.returns-clause-after
returns-clause-after g c =
    let meaning = g.G.Guest.meaning in
    lone_followed (lone (meaning c.args.guest.now) c.args.inbox.now c.args.compare.now.comparing) (turn_in c.args.turn)
    c.lines.result.now (meaning c.make_turn.new.guest) c.make_turn.new.inbox c.in_ok-made.made.sent
    c.follow.new.compare c.lines.ensures c.in_ok-made.ensures.guest c.make_turn.ensures.inbox
    c.in_ok-made.ensures.sent c.in_ok-follow.ensures.after
