use Rattle.pair_core.specs.Pair.{pair_of}
use Rattle.pair_world.proofs.RunningLemmas.{steps_on}
use Rattle.pair_world.proofs.running.step.Goals as goal

pub returns-clause-goes_on : goal.returns-clause-goes_on
returns-clause-goes_on g c =
    steps_on (pair_of g.G.Guest.meaning c.args.pair.now) (pair_of g.G.Guest.meaning c.step.new.self) c.args.line.now
    c.in-Ok.step c.in-Ok.ensures.good c.in-Ok.ensures.after c.in-Ok.ensures.step c.rests.ensures
