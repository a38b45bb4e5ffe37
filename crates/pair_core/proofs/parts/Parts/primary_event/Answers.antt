-- A primary that stopped makes no turn.
use Rattle.std.proofs.Common.{◌∙◌, sym}
use Rattle.node_primary.specs.Inside.{turn_in}
use Rattle.pair_core.specs.Events.{nothing, primary_makes}
use Rattle.pair_core.specs.Inside.{plain}
use Rattle.pair_core.proofs.EventLemmas.{made_first}
use Rattle.pair_core.proofs.parts.Parts.primary_event.Goals as goal

pub returns-then-is_primary-clause-made : goal.returns-then-is_primary-clause-made
returns-then-is_primary-clause-made g c =
    let w = plain g.G.Guest.meaning c.args.self.now in
    made_first _ (nothing w) (primary_makes w (turn_in c.args.turn)) c.nothing.result
    (sym c.is_primary.ensures ∙ c.if-is_primary.true) (c.nothing.ensures w)
