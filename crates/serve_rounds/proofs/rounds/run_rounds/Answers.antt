-- The files are created, the link opened, the clock read, and then the rounds are made.
use Rattle.std.proofs.Common.{ℕ, ◌∙◌, refl, sym, subst}
use Rattle.std.proofs.lemmas.Result.{err_from_is_err_and}
use Rattle.file_steps.specs.Steps.{outside}
use Rattle.pair_core.specs.Pair.{pair_of}
use Rattle.serve_rounds.specs.Rounds.{finishes, rounds, serve, start}
use Rattle.serve_rounds.specs.Work.{IsStopped, Reaches}
use Rattle.serve_rounds.proofs.WholeLemmas.{connect_stops, create_stops, err_last, ok_last, serve_reaches, starts}
use Rattle.serve_rounds.proofs.WorkLemmas.{reaches_then, stops_then}
use Rattle.serve_rounds.proofs.rounds.run_rounds.Goals as goal

pub returns-in_err-create_all-clause-stops : goal.returns-in_err-create_all-clause-stops
returns-in_err-create_all-clause-stops g c =
    let p = err_from_is_err_and c.from_residual.result c.from_residual.ensures.1 in
    let o = c.args.options.now in
    let meaning = g.G.Guest.meaning in
    let out = c.args.out.now in
    let w = pair_of meaning c.args.pair.now in
    let k = g.K.Clock.state c.args.clock.now in
    let l = g.L.Link.state c.args.link.now in
    let s1 = g.S.Shelf.state c.create_all.new.shelf in
    let o0 = outside (g.S.Shelf.state c.args.shelf.now) l k in
    let o1 = outside s1 l k in
    rw (p.1, p.2) (create_stops o w c.args.address.now out o0 o1 c.in_err-create_all.field-0.0
    (c.in_err-create_all.ensures.fails l k))

pub returns-in_err-connect-clause-stops : goal.returns-in_err-connect-clause-stops
returns-in_err-connect-clause-stops g c =
    let r = c.from_residual-in_err-connect in
    let p = err_from_is_err_and r.result r.ensures.1 in
    let o = c.args.options.now in
    let meaning = g.G.Guest.meaning in
    let out = c.args.out.now in
    let w = pair_of meaning c.args.pair.now in
    let k = g.K.Clock.state c.args.clock.now in
    let l = g.L.Link.state c.args.link.now in
    let s1 = g.S.Shelf.state c.create_all.new.shelf in
    let o0 = outside (g.S.Shelf.state c.args.shelf.now) l k in
    let o1 = outside s1 l k in
    let m = g.L.Link.state c.connect.new.link in
    let o2 = outside s1 m k in
    rw (p.1, p.2) (connect_stops o w c.args.address.now out o0 o1 o2 c.in_err-connect.field-0.0
    (c.in_ok-create_all.ensures.done l k) (c.in_err-connect.ensures.fails out s1 k))

pub make_rounds-requires-clause-opened : goal.make_rounds-requires-clause-opened
make_rounds-requires-clause-opened g c =
    (c.in_ok-connect.ensures.done c.args.out.now (g.S.Shelf.state c.create_all.new.shelf)
    (g.K.Clock.state c.args.clock.now)).carried.opened

pub make_rounds-requires-clause-holds : goal.make_rounds-requires-clause-holds
make_rounds-requires-clause-holds g c =
    starts g.G.Guest.meaning c.args.options.now c.new-server.result c.args.pair.now c.new-server.result.first_tick
    c.new-server.ensures.counts c.new-server.ensures.lines c.requires.fresh c.new-server.ensures.unframer
    c.new-server.ensures.round refl (c.new-server.ensures.second_tick ∙ sym c.new-server.ensures.first_tick)

pub returns-in_err-make_rounds-clause-stops : goal.returns-in_err-make_rounds-clause-stops
returns-in_err-make_rounds-clause-stops g c =
    let r = c.from_residual-in_err-make_rounds in
    let p = err_from_is_err_and r.result r.ensures.1 in
    let o = c.args.options.now in
    let meaning = g.G.Guest.meaning in
    let out = c.args.out.now in
    let w = pair_of meaning c.args.pair.now in
    let k = g.K.Clock.state c.args.clock.now in
    let l = g.L.Link.state c.args.link.now in
    let s1 = g.S.Shelf.state c.create_all.new.shelf in
    let o0 = outside (g.S.Shelf.state c.args.shelf.now) l k in
    let o1 = outside s1 l k in
    let m = g.L.Link.state c.connect.new.link in
    let o2 = outside s1 m k in
    let t = c.read_clock-tick.result in
    let o3 = outside s1 m (g.K.Clock.state c.read_clock-tick.new.clock) in
    let first = serve_reaches o w c.args.address.now out o0 o1 o2 o3 t (c.in_ok-create_all.ensures.done l k)
    (c.in_ok-connect.ensures.done out s1 k) (c.read_clock-tick.ensures out s1 m) in
    let o4 = outside (g.S.Shelf.state c.make_rounds.new.shelf) (g.L.Link.state c.make_rounds.new.link)
    (g.K.Clock.state c.make_rounds.new.clock) in
    let fault = c.in_err-make_rounds.field-0.0 in
    let P : ℕ → Type 0 = λ x. IsStopped out (rounds o o.rounds (start o w x)) o3 o4 fault in
    rw (p.1, p.2) (stops_then out (serve o w c.args.address.now) (rounds o o.rounds (start o w t)) o0 o3 o4 fault first
    (subst P c.new-server.ensures.first_tick c.in_err-make_rounds.ensures.halts))

pub returns-clause-line : goal.returns-clause-line
returns-clause-line g c =
    let o = c.args.options.now in
    let meaning = g.G.Guest.meaning in
    let out = c.args.out.now in
    let w = pair_of meaning c.args.pair.now in
    let k = g.K.Clock.state c.args.clock.now in
    let l = g.L.Link.state c.args.link.now in
    let s1 = g.S.Shelf.state c.create_all.new.shelf in
    let o0 = outside (g.S.Shelf.state c.args.shelf.now) l k in
    let o1 = outside s1 l k in
    let m = g.L.Link.state c.connect.new.link in
    let o2 = outside s1 m k in
    let t = c.read_clock-tick.result in
    let o3 = outside s1 m (g.K.Clock.state c.read_clock-tick.new.clock) in
    let first = serve_reaches o w c.args.address.now out o0 o1 o2 o3 t (c.in_ok-create_all.ensures.done l k)
    (c.in_ok-connect.ensures.done out s1 k) (c.read_clock-tick.ensures out s1 m) in
    let o4 = outside (g.S.Shelf.state c.make_rounds.new.shelf) (g.L.Link.state c.make_rounds.new.link)
    (g.K.Clock.state c.make_rounds.new.clock) in
    let over = c.in_ok-make_rounds.ensures.over in
    let P : ℕ → Type 0 = λ x. Reaches out (rounds o o.rounds (start o w x)) (finishes over.now) o3 o4 in
    let all = reaches_then out (serve o w c.args.address.now) (rounds o o.rounds (start o w t)) (finishes over.now) o0
    o3 o4 first (subst P c.new-server.ensures.first_tick over.reaches) in
    let o5 = outside (g.S.Shelf.state c.finish.new.shelf) (g.L.Link.state c.make_rounds.new.link)
    (g.K.Clock.state c.make_rounds.new.clock) in
    ok_last c.finish.result out (serve o w c.args.address.now) (finishes over.now) o0 o4 o5 all
    (c.finish.ensures.line over.now (g.L.Link.state c.make_rounds.new.link) (g.K.Clock.state c.make_rounds.new.clock)
    over.holds.pair over.holds.counts)

pub returns-clause-stops : goal.returns-clause-stops
returns-clause-stops g c =
    let o = c.args.options.now in
    let meaning = g.G.Guest.meaning in
    let out = c.args.out.now in
    let w = pair_of meaning c.args.pair.now in
    let k = g.K.Clock.state c.args.clock.now in
    let l = g.L.Link.state c.args.link.now in
    let s1 = g.S.Shelf.state c.create_all.new.shelf in
    let o0 = outside (g.S.Shelf.state c.args.shelf.now) l k in
    let o1 = outside s1 l k in
    let m = g.L.Link.state c.connect.new.link in
    let o2 = outside s1 m k in
    let t = c.read_clock-tick.result in
    let o3 = outside s1 m (g.K.Clock.state c.read_clock-tick.new.clock) in
    let first = serve_reaches o w c.args.address.now out o0 o1 o2 o3 t (c.in_ok-create_all.ensures.done l k)
    (c.in_ok-connect.ensures.done out s1 k) (c.read_clock-tick.ensures out s1 m) in
    let o4 = outside (g.S.Shelf.state c.make_rounds.new.shelf) (g.L.Link.state c.make_rounds.new.link)
    (g.K.Clock.state c.make_rounds.new.clock) in
    let over = c.in_ok-make_rounds.ensures.over in
    let P : ℕ → Type 0 = λ x. Reaches out (rounds o o.rounds (start o w x)) (finishes over.now) o3 o4 in
    let all = reaches_then out (serve o w c.args.address.now) (rounds o o.rounds (start o w t)) (finishes over.now) o0
    o3 o4 first (subst P c.new-server.ensures.first_tick over.reaches) in
    let o5 = outside (g.S.Shelf.state c.finish.new.shelf) (g.L.Link.state c.make_rounds.new.link)
    (g.K.Clock.state c.make_rounds.new.clock) in
    err_last c.finish.result out (serve o w c.args.address.now) (finishes over.now) o0 o4 o5 all
    (c.finish.ensures.stops over.now (g.L.Link.state c.make_rounds.new.link) (g.K.Clock.state c.make_rounds.new.clock)
    over.holds.pair)
