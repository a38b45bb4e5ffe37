-- The clock is read, and then the turn is made.
use Rattle.std.proofs.Common.{ℕ, [], ◌∷◌, true, refl, arith, subst}
use Rattle.std.proofs.lemmas.Result.{err_from_is_err_and}
use Rattle.replay_log.specs.declared.lines.Line.TheVariants.{Primary}
use Rattle.pair_core.specs.Pair.{pair_of}
use Rattle.serve_rounds.specs.Rounds.{serves}
use Rattle.serve_rounds.specs.Serving.{CannotServe, IsServed, ends}
use Rattle.serve_rounds.proofs.KeepLemmas.{a_turn, plain_events, still_can}
use Rattle.serve_rounds.proofs.RoundLemmas.{first_halts, first_went}
use Rattle.serve_rounds.proofs.WorkLemmas.{open_after}
use Rattle.serve_rounds.proofs.turns.first_turn.Goals as goal

pub serve_times-requires-clause-good : goal.serve_times-requires-clause-good
serve_times-requires-clause-good g c =
    plain_events (pair_of g.G.Guest.meaning c.args.pair.now) 1 _ (a_turn c.elapsed.result true 8
    c.args.options.now.steps)

pub returns-in_err-counts-clause-halts : goal.returns-in_err-counts-clause-halts
returns-in_err-counts-clause-halts g c =
    let p = err_from_is_err_and c.from_residual.result c.from_residual.ensures.1 in
    let o = c.args.options.now in
    let out = c.args.output.out.now in
    let a = g.S.Shelf.state c.args.shelf.now in
    let z = g.S.Shelf.state c.serve_times.new.shelf in
    let l = g.L.Link.state c.args.link.now in
    let n = g.L.Link.state c.serve_times.new.link in
    let fault = c.in_err-counts.field-0.0 in
    let P : ℕ → Type 0 = λ d. CannotServe g.G.Guest.meaning out (Primary d true 8 o.steps ∷ []) c.args.pair.now
    (ends a z l n) fault in
    rw (p.1, p.2) (first_halts g.G.Guest.meaning out o c.read_clock-tick.result c.args.server.now c.args.pair.now a
    z l n
    (g.K.Clock.state c.args.clock.now) (g.K.Clock.state c.read_clock-tick.new.clock)
    (c.read_clock-tick.ensures out a l) fault (subst P c.elapsed.ensures c.in_err-counts.ensures.fails))

pub returns-clause-goes : goal.returns-clause-goes
returns-clause-goes g c =
    let o = c.args.options.now in
    let out = c.args.output.out.now in
    let a = g.S.Shelf.state c.args.shelf.now in
    let z = g.S.Shelf.state c.serve_times.new.shelf in
    let l = g.L.Link.state c.args.link.now in
    let n = g.L.Link.state c.serve_times.new.link in
    let P : ℕ → Type 0 = λ d. IsServed g.G.Guest.meaning out (Primary d true 8 o.steps ∷ []) c.args.pair.now
    c.serve_times.new.pair c.args.server.now.counts c.in_ok-counts.counts (ends a z l n) in
    first_went g.G.Guest.meaning out o c.read_clock-tick.result c.args.server.now c.args.pair.now a z l n
    (g.K.Clock.state c.args.clock.now) (g.K.Clock.state c.read_clock-tick.new.clock)
    (c.read_clock-tick.ensures out a l) _ c.serve_times.new.pair
    (subst P c.elapsed.ensures c.in_ok-counts.ensures.served) c.in_ok-counts.ensures.lines refl refl refl refl

pub returns-clause-opened : goal.returns-clause-opened
returns-clause-opened g c =
    open_after c.args.output.out.now (serves (pair_of g.G.Guest.meaning c.args.pair.now)
    (Primary c.elapsed.result true 8 c.args.options.now.steps ∷ []))
    (g.S.Shelf.state c.args.shelf.now) (g.S.Shelf.state c.serve_times.new.shelf) (g.L.Link.state c.args.link.now)
    (g.L.Link.state c.serve_times.new.link) c.in_ok-counts.ensures.served.done c.requires.opened

pub returns-clause-can_stop : goal.returns-clause-can_stop
returns-clause-can_stop g c = λ can.
    still_can g.G.Guest.meaning c.args.pair.now c.serve_times.new.pair 1 _
    (a_turn c.elapsed.result true 8 c.args.options.now.steps) c.in_ok-counts.ensures.served.after can

pub returns-clause-few : goal.returns-clause-few
returns-clause-few g c = omega (arith, c.in_ok-counts.ensures.served.steps)
