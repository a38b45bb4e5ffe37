-- Where there is no frame, nothing happens.
use Rattle.std.proofs.Common.{◌∙◌, sym, ap}
use Rattle.std.specs.Option.{option_map}
use Rattle.std.specs.Prelude.{slice_get}
use Rattle.pair_core.specs.Inside.{plain}
use Rattle.pair_core.proofs.EventLemmas.{made_no_frame}
use Rattle.pair_core.proofs.parts.Parts.client_event.Goals as goal

pub returns-in-None-clause-made : goal.returns-in-None-clause-made
returns-in-None-clause-made g c =
    let w = plain g.G.Guest.meaning c.args.self.now in
    made_no_frame w (slice_get w.frames w.next) c.nothing.result
    (sym (ap (option_map (λ bytes. bytes.items)) c.in-None.is) ∙ c.in_ok-next_frame.ensures.frame)
    (c.nothing.ensures w)
