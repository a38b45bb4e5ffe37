-- A secondary that stopped makes no turn.
use Rattle.std.proofs.Common.{◌∙◌, sym}
use Rattle.node_primary.specs.Inside.{turn_in}
use Rattle.pair_core.specs.Events.{nothing, secondary_makes}
use Rattle.pair_core.specs.Inside.{plain}
use Rattle.pair_core.proofs.EventLemmas.{made_first}
use Rattle.pair_core.proofs.parts.Parts.secondary_event.Goals as goal

pub returns-then-is_secondary-clause-made : goal.returns-then-is_secondary-clause-made
returns-then-is_secondary-clause-made g c =
    let w = plain g.G.Guest.meaning c.args.self.now in
    made_first _ (nothing w) (secondary_makes w (turn_in c.args.turn)) c.nothing.result
    (sym c.is_secondary.ensures ∙ c.if-is_secondary.true) (c.nothing.ensures w)
