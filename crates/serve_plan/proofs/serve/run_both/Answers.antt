-- The pair is made, and then it runs.
use Rattle.std.proofs.lemmas.Result.{err_from_is_err_and}
use Rattle.file_steps.specs.Steps.{outside}
use Rattle.pair_core.specs.Pair.{new_pair, pair_of}
use Rattle.serve_rounds.specs.Rounds.{serve}
use Rattle.serve_rounds.proofs.WorkLemmas.{stops_at_once}
use Rattle.serve_plan.proofs.ServeLemmas.{can_stop, pair_line, pair_same, pair_stops}
use Rattle.serve_plan.proofs.serve.run_both.Goals as goal

pub run_rounds-requires-clause-going : goal.run_rounds-requires-clause-going
run_rounds-requires-clause-going g c =
    can_stop g.G.Guest.meaning c.in_ok-pair.pair (g.G.Guest.meaning c.args.first) (g.G.Guest.meaning c.args.second)
    c.in_ok-pair.ensures.pair

pub returns-in_err-pair-clause-stops : goal.returns-in_err-pair-clause-stops
returns-in_err-pair-clause-stops g c =
    let p = err_from_is_err_and c.from_residual.result c.from_residual.ensures.1 in
    let m = g.G.Guest.meaning c.args.first in
    rw (p.1, p.2)
    (stops_at_once c.args.out.now (serve c.args.options.now (new_pair m m) c.args.address.now)
    (outside (g.S.Shelf.state c.args.shelf.now) (g.L.Link.state c.args.link.now) (g.K.Clock.state c.args.clock.now)))

pub returns-clause-line : goal.returns-clause-line
returns-clause-line g c =
    let w = pair_of g.G.Guest.meaning c.in_ok-pair.pair in
    let m = g.G.Guest.meaning c.args.first in
    let is = pair_same w m (g.G.Guest.meaning c.args.second) c.requires.same c.in_ok-pair.ensures.pair in
    pair_line c.args.out.now c.args.address.now c.args.options.now (new_pair m m) w is
    (outside (g.S.Shelf.state c.args.shelf.now) (g.L.Link.state c.args.link.now) (g.K.Clock.state c.args.clock.now))
    (outside (g.S.Shelf.state c.run_rounds.new.shelf) (g.L.Link.state c.run_rounds.new.link)
    (g.K.Clock.state c.run_rounds.new.clock)) c.run_rounds.result c.run_rounds.ensures.line

pub returns-clause-stops : goal.returns-clause-stops
returns-clause-stops g c =
    let w = pair_of g.G.Guest.meaning c.in_ok-pair.pair in
    let m = g.G.Guest.meaning c.args.first in
    let is = pair_same w m (g.G.Guest.meaning c.args.second) c.requires.same c.in_ok-pair.ensures.pair in
    pair_stops c.args.out.now c.args.address.now c.args.options.now (new_pair m m) w is
    (outside (g.S.Shelf.state c.args.shelf.now) (g.L.Link.state c.args.link.now) (g.K.Clock.state c.args.clock.now))
    (outside (g.S.Shelf.state c.run_rounds.new.shelf) (g.L.Link.state c.run_rounds.new.link)
    (g.K.Clock.state c.run_rounds.new.clock)) c.run_rounds.result c.run_rounds.ensures.stops
