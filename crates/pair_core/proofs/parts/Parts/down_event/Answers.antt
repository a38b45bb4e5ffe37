-- Where the link is shut or empty, nothing happens.
use Rattle.std.proofs.Common.{◌∙◌, ◌||◌, List, sym}
use Rattle.colo_wire.specs.declared.messages.Message.{Message}
use Rattle.pair_core.specs.Events.{deliver_with, nothing, secondary_hears}
use Rattle.pair_core.specs.Inside.{plain}
use Rattle.pair_core.specs.Pair.{Pair, is_secondary}
use Rattle.pair_core.proofs.EventLemmas.{made_first, made_no_message}
use Rattle.pair_core.proofs.parts.Parts.down_event.Goals as goal

abbrev left : Pair → List Message → Pair
left w ms = record w { down = ms }

pub returns-then-is_down_shut-clause-made : goal.returns-then-is_down_shut-clause-made
returns-then-is_down_shut-clause-made g c =
    let w = plain g.G.Guest.meaning c.args.self.now in
    made_first (is_secondary w.stopped || w.is_reported) (nothing w) (deliver_with secondary_hears w w.down (left w))
    c.nothing.result
    (sym c.is_down_shut.ensures ∙ c.if-is_down_shut.true) (c.nothing.ensures w)

pub returns-in-None-clause-made : goal.returns-in-None-clause-made
returns-in-None-clause-made g c =
    let w = plain g.G.Guest.meaning c.args.self.now in
    made_no_message (is_secondary w.stopped || w.is_reported) secondary_hears w w.down (left w) c.nothing-in-None.result
    c.in-None.ensures.0 (c.nothing-in-None.ensures w)
