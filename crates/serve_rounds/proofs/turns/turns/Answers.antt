-- The parts are made one after the other.
use Rattle.std.proofs.Common.{refl}
use Rattle.std.proofs.lemmas.Result.{err_from_is_err_and}
use Rattle.file_steps.specs.Steps.{outside}
use Rattle.serve_rounds.specs.Rounds.{asks, deliveries, first_turn, next_round, second_turn}
use Rattle.serve_rounds.specs.Serving.{moment}
use Rattle.serve_rounds.proofs.RoundLemmas.{Part, halts_front, halts_then, next_went, went_then}
use Rattle.serve_rounds.proofs.turns.turns.Goals as goal

abbrev bump : Part
bump next s = next (next_round s)

pub returns-in_err-ask-clause-halts : goal.returns-in_err-ask-clause-halts
returns-in_err-ask-clause-halts g c =
    let p = err_from_is_err_and c.from_residual.result c.from_residual.ensures.1 in
    let o = c.args.options.now in
    let meaning = g.G.Guest.meaning in
    let out = c.args.output.out.now in
    let k = g.K.Clock.state c.args.clock.now in
    let m0 = moment c.args.server.now c.args.pair.now (outside (g.S.Shelf.state c.args.shelf.now)
    (g.L.Link.state c.args.link.now) k) in
    let o1 = outside (g.S.Shelf.state c.ask.new.shelf) (g.L.Link.state c.ask.new.link) k in
    rw (p.1, p.2) (halts_front meaning out (asks o)
    (λ next. first_turn o (second_turn o (deliveries (bump next)))) m0 o1 c.in_err-ask.field-0.0
    (c.in_err-ask.ensures.halts k))

pub returns-in_err-first_turn-clause-halts : goal.returns-in_err-first_turn-clause-halts
returns-in_err-first_turn-clause-halts g c =
    let r = c.from_residual-in_err-first_turn in
    let p = err_from_is_err_and r.result r.ensures.1 in
    let o = c.args.options.now in
    let meaning = g.G.Guest.meaning in
    let out = c.args.output.out.now in
    let k = g.K.Clock.state c.args.clock.now in
    let m0 = moment c.args.server.now c.args.pair.now (outside (g.S.Shelf.state c.args.shelf.now)
    (g.L.Link.state c.args.link.now) k) in
    let m1 = moment c.ask.new.server c.ask.new.pair (outside (g.S.Shelf.state c.ask.new.shelf)
    (g.L.Link.state c.ask.new.link) k) in
    let o2 = outside (g.S.Shelf.state c.first_turn.new.shelf) (g.L.Link.state c.first_turn.new.link)
    (g.K.Clock.state c.first_turn.new.clock) in
    let fault = c.in_err-first_turn.field-0.0 in
    let rest : Part = λ next. second_turn o (deliveries (bump next)) in
    rw (p.1, p.2) (halts_then meaning out (asks o) (λ next. first_turn o (rest next)) m0 m1 o2 fault
    (c.in_ok-ask.ensures.goes k) (halts_front meaning out (first_turn o) rest m1 o2 fault
    c.in_err-first_turn.ensures.halts))

pub returns-in_err-second_turn-clause-halts : goal.returns-in_err-second_turn-clause-halts
returns-in_err-second_turn-clause-halts g c =
    let r = c.from_residual-in_err-second_turn in
    let p = err_from_is_err_and r.result r.ensures.1 in
    let o = c.args.options.now in
    let meaning = g.G.Guest.meaning in
    let out = c.args.output.out.now in
    let k = g.K.Clock.state c.args.clock.now in
    let m0 = moment c.args.server.now c.args.pair.now (outside (g.S.Shelf.state c.args.shelf.now)
    (g.L.Link.state c.args.link.now) k) in
    let m1 = moment c.ask.new.server c.ask.new.pair (outside (g.S.Shelf.state c.ask.new.shelf)
    (g.L.Link.state c.ask.new.link) k) in
    let m2 = moment c.first_turn.new.server c.first_turn.new.pair (outside (g.S.Shelf.state c.first_turn.new.shelf)
    (g.L.Link.state c.first_turn.new.link) (g.K.Clock.state c.first_turn.new.clock)) in
    let o3 = outside (g.S.Shelf.state c.second_turn.new.shelf) (g.L.Link.state c.second_turn.new.link)
    (g.K.Clock.state c.second_turn.new.clock) in
    let fault = c.in_err-second_turn.field-0.0 in
    let last : Part = λ next. deliveries (bump next) in
    let rest : Part = λ next. second_turn o (last next) in
    rw (p.1, p.2) (halts_then meaning out (asks o) (λ next. first_turn o (rest next)) m0 m1 o3 fault
    (c.in_ok-ask.ensures.goes k) (halts_then meaning out (first_turn o) rest m1 m2 o3 fault
    c.in_ok-first_turn.ensures.goes (halts_front meaning out (second_turn o) last m2 o3 fault
    c.in_err-second_turn.ensures.halts)))

pub returns-in_err-deliver-clause-halts : goal.returns-in_err-deliver-clause-halts
returns-in_err-deliver-clause-halts g c =
    let r = c.from_residual-in_err-deliver in
    let p = err_from_is_err_and r.result r.ensures.1 in
    let o = c.args.options.now in
    let meaning = g.G.Guest.meaning in
    let out = c.args.output.out.now in
    let k = g.K.Clock.state c.args.clock.now in
    let j = g.K.Clock.state c.second_turn.new.clock in
    let m0 = moment c.args.server.now c.args.pair.now (outside (g.S.Shelf.state c.args.shelf.now)
    (g.L.Link.state c.args.link.now) k) in
    let m1 = moment c.ask.new.server c.ask.new.pair (outside (g.S.Shelf.state c.ask.new.shelf)
    (g.L.Link.state c.ask.new.link) k) in
    let m2 = moment c.first_turn.new.server c.first_turn.new.pair (outside (g.S.Shelf.state c.first_turn.new.shelf)
    (g.L.Link.state c.first_turn.new.link) (g.K.Clock.state c.first_turn.new.clock)) in
    let m3 = moment c.second_turn.new.server c.second_turn.new.pair
    (outside (g.S.Shelf.state c.second_turn.new.shelf) (g.L.Link.state c.second_turn.new.link) j) in
    let o4 = outside (g.S.Shelf.state c.deliver.new.shelf) (g.L.Link.state c.deliver.new.link) j in
    let fault = c.in_err-deliver.field-0.0 in
    let last : Part = λ next. deliveries (bump next) in
    let rest : Part = λ next. second_turn o (last next) in
    rw (p.1, p.2) (halts_then meaning out (asks o) (λ next. first_turn o (rest next)) m0 m1 o4 fault
    (c.in_ok-ask.ensures.goes k) (halts_then meaning out (first_turn o) rest m1 m2 o4 fault
    c.in_ok-first_turn.ensures.goes (halts_then meaning out (second_turn o) last m2 m3 o4 fault
    c.in_ok-second_turn.ensures.goes (halts_front meaning out deliveries bump m3 o4 fault
    (c.in_err-deliver.ensures.halts j)))))

pub returns-clause-goes : goal.returns-clause-goes
returns-clause-goes g c =
    let o = c.args.options.now in
    let meaning = g.G.Guest.meaning in
    let out = c.args.output.out.now in
    let k = g.K.Clock.state c.args.clock.now in
    let j = g.K.Clock.state c.second_turn.new.clock in
    let m0 = moment c.args.server.now c.args.pair.now (outside (g.S.Shelf.state c.args.shelf.now)
    (g.L.Link.state c.args.link.now) k) in
    let m1 = moment c.ask.new.server c.ask.new.pair (outside (g.S.Shelf.state c.ask.new.shelf)
    (g.L.Link.state c.ask.new.link) k) in
    let m2 = moment c.first_turn.new.server c.first_turn.new.pair (outside (g.S.Shelf.state c.first_turn.new.shelf)
    (g.L.Link.state c.first_turn.new.link) (g.K.Clock.state c.first_turn.new.clock)) in
    let m3 = moment c.second_turn.new.server c.second_turn.new.pair
    (outside (g.S.Shelf.state c.second_turn.new.shelf) (g.L.Link.state c.second_turn.new.link) j) in
    let o4 = outside (g.S.Shelf.state c.deliver.new.shelf) (g.L.Link.state c.deliver.new.link) j in
    let m4 = moment c.deliver.new.server c.deliver.new.pair o4 in
    let last : Part = λ next. deliveries (bump next) in
    let rest : Part = λ next. second_turn o (last next) in
    went_then meaning out (asks o) (λ next. first_turn o (rest next)) m0 m1 (moment _ c.deliver.new.pair o4)
    (c.in_ok-ask.ensures.goes k)
    (went_then meaning out (first_turn o) rest m1 m2 (moment _ c.deliver.new.pair o4) c.in_ok-first_turn.ensures.goes
    (went_then meaning out (second_turn o) last m2 m3 (moment _ c.deliver.new.pair o4)
    c.in_ok-second_turn.ensures.goes
    (went_then meaning out deliveries bump m3 m4 (moment _ c.deliver.new.pair o4) (c.in_ok-deliver.ensures.goes j)
    (next_went meaning out c.deliver.new.server _ c.deliver.new.pair o4 refl refl refl refl refl))))
