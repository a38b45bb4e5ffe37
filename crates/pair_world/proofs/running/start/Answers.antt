use Rattle.std.proofs.Common.{◌≡◌, sym, subst}
use Rattle.std.proofs.lemmas.Result.{IfOk-weaker}
use Rattle.pair_core.specs.Pair.{Pair, new_pair, pair_of}
use Rattle.pair_world.specs.Running.{StandsForStart, start_of}
use Rattle.pair_world.proofs.RunningLemmas.{starts}
use Rattle.pair_world.proofs.running.start.Goals as goal

pub returns-clause-stands : goal.returns-clause-stands
returns-clause-stands g c =
    let first = g.G.Guest.meaning c.args.first in
    let second = g.G.Guest.meaning c.args.second in
    let frames = c.args.frames in
    IfOk-weaker c.with_frames.result
    (λ pair. pair_of g.G.Guest.meaning pair ≡ record (new_pair first second) { frames = frames })
    (λ pair. StandsForStart (start_of first second frames) (pair_of g.G.Guest.meaning pair))
    (λ pair is. subst (λ (w : Pair). StandsForStart (start_of first second frames) w) (sym is)
    (starts first second frames c.requires)) c.with_frames.ensures.pair
