-- What a turn leaves, from what its parts leave.
use Rattle.std.proofs.Common.{ap}
use Rattle.node_parts.specs.Turns.{Turn}
use Rattle.node_secondary.specs.Node.{Node, node_of}
use Rattle.node_secondary.specs.Turns.{make_turn}
use Rattle.node_secondary.proofs.TurnLemmas.{turn_made}
use Rattle.node_secondary.proofs.node.Secondary.make_turn.Goals as goal

pub returns-clause-after : goal.returns-clause-after
returns-clause-after g c =
    let meaning = g.G.Guest.meaning in
    let old = c.self.inside in
    let t : Turn = record {
      ticks = c.args.turn.0;
      wants = c.args.turn.1;
      requests = c.args.turn.2;
      steps = c.args.turn.3;
    } in
    let n : Node = record {
      guest = meaning old.guest;
      inbox = old.inbox;
      lines = old.lines;
      numbers = old.numbers;
      waits = old.waits;
      committed = old.committed;
      under_way = old.under_way;
    } in
    let made = turn_made n t (meaning c.make_turn.new.guest) c.make_turn.new.inbox c.in_ok-made.made.sent
    c.tell_all.new.lines c.tell_all.new.waits c.in_ok-made.ensures.sent c.in_ok-made.ensures.guest
    c.make_turn.ensures.inbox c.in_ok-tell_all.ensures.lines c.in_ok-tell_all.ensures.waits in
    cc (made, ap (λ h. make_turn (node_of meaning h) t) c.self.view_is)
