-- Round by round.
use Rattle.std.proofs.Common.{◌≡◌, ℕ, ◌+◌, ◌-◌, suc, subst, arith}
use Rattle.std.proofs.lemmas.Result.{err_from_is_err_and}
use Rattle.file_steps.specs.Steps.{outside}
use Rattle.pair_core.specs.Pair.{pair_of}
use Rattle.serve_rounds.specs.Rounds.{rounds, start}
use Rattle.serve_rounds.specs.Serving.{moment}
use Rattle.serve_rounds.proofs.WholeLemmas.{SoFar, all_done, ends_more, goes_more, stops_more}
use Rattle.serve_rounds.proofs.WorkLemmas.{reaches_none}
use Rattle.serve_rounds.proofs.rounds.make_rounds.Goals as goal

pub loop-init : goal.loop-init
loop-init g c =
    let o = c.args.options.now in
    let meaning = g.G.Guest.meaning in
    let out = c.args.output.out.now in
    let begin = outside (g.S.Shelf.state c.args.shelf.now) (g.L.Link.state c.args.link.now)
    (g.K.Clock.state c.args.clock.now) in
    let work = rounds o o.rounds (start o (pair_of meaning c.args.pair.now) c.args.server.now.first_tick) in
    let at_first : o.rounds ≡ o.rounds - 0 = omega arith in
    let m = moment c.args.server.now c.args.pair.now begin in
    record {
      opened = c.requires.opened;
      so_far = subst (λ (n : ℕ). SoFar meaning out o n work begin m) at_first (record {
        now = start o (pair_of meaning c.args.pair.now) c.args.server.now.first_tick;
        holds = c.requires.holds;
        reaches = reaches_none out work begin;
      });
      few = omega (arith, c.requires.fresh);
      fed = omega (arith, c.requires.holds.stands.fed);
      round = c.requires.holds.round;
      lines = c.requires.holds.steps;
      can_stop = λ less. c.requires.going;
    }

pub make_round-requires-clause-held : goal.make_round-requires-clause-held
make_round-requires-clause-held g c =
    record { now = c.loop.invariant.so_far.now; holds = c.loop.invariant.so_far.holds }

pub make_round-requires-clause-counted : goal.make_round-requires-clause-counted
make_round-requires-clause-counted g c = omega (arith, c.loop.invariant.few)

pub make_round-requires-clause-fed : goal.make_round-requires-clause-fed
make_round-requires-clause-fed g c = omega (arith, c.loop.invariant.fed)

pub make_round-requires-clause-round : goal.make_round-requires-clause-round
make_round-requires-clause-round g c = omega (arith, c.loop.invariant.round)

pub returns-in_err-over-clause-halts : goal.returns-in_err-over-clause-halts
returns-in_err-over-clause-halts g c =
    let p = err_from_is_err_and c.from_residual.result c.from_residual.ensures.1 in
    let o = c.args.options.now in
    let meaning = g.G.Guest.meaning in
    let out = c.args.output.out.now in
    let begin = outside (g.S.Shelf.state c.args.shelf.now) (g.L.Link.state c.args.link.now)
    (g.K.Clock.state c.args.clock.now) in
    let work = rounds o o.rounds (start o (pair_of meaning c.args.pair.now) c.args.server.now.first_tick) in
    let here = moment c.loop.server c.loop.pair (outside (g.S.Shelf.state c.loop.shelf) (g.L.Link.state c.loop.link)
    (g.K.Clock.state c.loop.clock)) in
    let left = o.rounds - (c.loop.counter + 1) in
    let more : o.rounds - c.loop.counter ≡ suc left = omega arith in
    let there = outside (g.S.Shelf.state c.make_round.new.shelf) (g.L.Link.state c.make_round.new.link)
    (g.K.Clock.state c.make_round.new.clock) in
    let later = moment c.make_round.new.server c.make_round.new.pair there in
    rw (p.1, p.2) (stops_more meaning out o (o.rounds - c.loop.counter) left more work begin here
    c.loop.invariant.so_far there c.in_err-over.field-0.0 c.in_err-over.ensures.halts)

pub returns-then-over-clause-over : goal.returns-then-over-clause-over
returns-then-over-clause-over g c =
    let o = c.args.options.now in
    let meaning = g.G.Guest.meaning in
    let out = c.args.output.out.now in
    let begin = outside (g.S.Shelf.state c.args.shelf.now) (g.L.Link.state c.args.link.now)
    (g.K.Clock.state c.args.clock.now) in
    let work = rounds o o.rounds (start o (pair_of meaning c.args.pair.now) c.args.server.now.first_tick) in
    let here = moment c.loop.server c.loop.pair (outside (g.S.Shelf.state c.loop.shelf) (g.L.Link.state c.loop.link)
    (g.K.Clock.state c.loop.clock)) in
    let left = o.rounds - (c.loop.counter + 1) in
    let more : o.rounds - c.loop.counter ≡ suc left = omega arith in
    let there = outside (g.S.Shelf.state c.make_round.new.shelf) (g.L.Link.state c.make_round.new.link)
    (g.K.Clock.state c.make_round.new.clock) in
    let later = moment c.make_round.new.server c.make_round.new.pair there in
    ends_more meaning out o (o.rounds - c.loop.counter) left more work begin here c.loop.invariant.so_far later
    (rw c.if-over.true at c.in_ok-over.ensures.goes)

pub loop-preserved : goal.loop-preserved
loop-preserved g c =
    let o = c.args.options.now in
    let meaning = g.G.Guest.meaning in
    let out = c.args.output.out.now in
    let begin = outside (g.S.Shelf.state c.args.shelf.now) (g.L.Link.state c.args.link.now)
    (g.K.Clock.state c.args.clock.now) in
    let work = rounds o o.rounds (start o (pair_of meaning c.args.pair.now) c.args.server.now.first_tick) in
    let here = moment c.loop.server c.loop.pair (outside (g.S.Shelf.state c.loop.shelf) (g.L.Link.state c.loop.link)
    (g.K.Clock.state c.loop.clock)) in
    let left = o.rounds - (c.loop.counter + 1) in
    let more : o.rounds - c.loop.counter ≡ suc left = omega arith in
    let there = outside (g.S.Shelf.state c.make_round.new.shelf) (g.L.Link.state c.make_round.new.link)
    (g.K.Clock.state c.make_round.new.clock) in
    let later = moment c.make_round.new.server c.make_round.new.pair there in
    let e = c.in_ok-over.ensures in
    let goes = c.if-over.false in
    record {
      opened = e.opened goes;
      so_far = goes_more meaning out o (o.rounds - c.loop.counter) left more work begin here c.loop.invariant.so_far
          later (rw goes at e.goes);
      few = omega (arith, e.few goes, c.loop.invariant.few);
      fed = omega (arith, e.fed goes, c.loop.invariant.fed);
      round = omega (arith, e.round goes, c.loop.invariant.round);
      lines = e.lines goes;
      can_stop = e.can_stop goes;
    }

pub returns-clause-over : goal.returns-clause-over
returns-clause-over g c =
    let o = c.args.options.now in
    let meaning = g.G.Guest.meaning in
    let out = c.args.output.out.now in
    let begin = outside (g.S.Shelf.state c.args.shelf.now) (g.L.Link.state c.args.link.now)
    (g.K.Clock.state c.args.clock.now) in
    let work = rounds o o.rounds (start o (pair_of meaning c.args.pair.now) c.args.server.now.first_tick) in
    let here = moment c.loop.server c.loop.pair (outside (g.S.Shelf.state c.loop.shelf) (g.L.Link.state c.loop.link)
    (g.K.Clock.state c.loop.clock)) in
    all_done meaning out o (o.rounds - c.loop.counter) work begin here (omega arith) c.loop.invariant.so_far
