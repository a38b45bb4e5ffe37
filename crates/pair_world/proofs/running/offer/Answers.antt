use Rattle.std.proofs.Common.{◌≡◌, ◌∷◌, [], ◌++◌, sym, subst}
use Rattle.std.proofs.lemmas.Result.{on_ok_weaker}
use Rattle.pair_core.specs.Pair.{Pair, pair_of}
use Rattle.pair_world.specs.Running.{TakesFrame}
use Rattle.pair_world.proofs.RunningLemmas.{offers}
use Rattle.pair_world.proofs.running.offer.Goals as goal

pub returns-clause-takes : goal.returns-clause-takes
returns-clause-takes g c =
    let old = pair_of g.G.Guest.meaning c.args.pair.now in
    let new = pair_of g.G.Guest.meaning c.offer.new.self in
    let frame = c.args.frame.now in
    on_ok_weaker c.offer.result (λ (is : new ≡ record old { frames = old.frames ++ frame ∷ [] }).
    subst (λ (w : Pair). TakesFrame old w frame) (sym is) (offers old frame)) c.offer.ensures.after
