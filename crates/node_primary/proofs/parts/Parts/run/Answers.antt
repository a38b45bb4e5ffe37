-- A turn of the guest, followed.
use Rattle.node_parts.specs.Turns.{Turn}
use Rattle.node_primary.specs.Inside.{plain}
use Rattle.node_primary.proofs.StepLemmas.{turn_followed}
use Rattle.node_primary.proofs.parts.Parts.run.Goals as goal

pub returns-clause-after : goal.returns-clause-after
returns-clause-after g c =
    let meaning = g.G.Guest.meaning in
    let t : Turn = record {
      ticks = c.args.turn.0;
      wants = c.args.turn.1;
      requests = c.args.turn.2;
      steps = c.args.turn.3;
    } in
    turn_followed (plain meaning c.args.self.now) (plain meaning c.follow.new.self) t c.lines.result.now
    (meaning c.make_turn.new.guest) c.make_turn.new.inbox c.in_ok-made.made.sent c.lines.ensures
    c.in_ok-made.ensures.guest c.make_turn.ensures.inbox
    c.in_ok-made.ensures.sent c.in_ok-follow.ensures.after
