-- A frame that was let in waits.
use Rattle.std.proofs.Common.{Some, sym, ◌∙◌}
use Rattle.node_primary.specs.Inside.{plain}
use Rattle.node_primary.proofs.StepLemmas.{frame_taken_in}
use Rattle.node_primary.proofs.parts.Parts.ingress.Goals as goal

pub returns-in_ok-take-clause-after : goal.returns-in_ok-take-clause-after
returns-in_ok-take-clause-after g c =
    let meaning = g.G.Guest.meaning in
    frame_taken_in (plain meaning c.args.self.now) (plain meaning c.take.new.self) c.args.index c.args.frame.now
    c.let_in.new.compare.comparing (Some c.in-Some.waiting) c.in_ok-gate.ensures.after
    (sym c.in-Some.is ∙ c.in_ok-gate.ensures.waiting) c.in_ok-take.ensures.after
