-- After a stop nothing happens.
use Rattle.std.proofs.Common.{◌∙◌, sym}
use Rattle.pair_core.specs.Events.{nothing, primary_asks}
use Rattle.pair_core.specs.Inside.{plain}
use Rattle.pair_core.proofs.EventLemmas.{made_first}
use Rattle.pair_core.proofs.parts.Parts.ask_event.Goals as goal

pub returns-then-is_some-clause-made : goal.returns-then-is_some-clause-made
returns-then-is_some-clause-made g c =
    let w = plain g.G.Guest.meaning c.args.self.now in
    made_first _ (nothing w) (primary_asks w) c.nothing.result
    (sym c.is_some.ensures ∙ c.if-is_some.true) (c.nothing.ensures w)
