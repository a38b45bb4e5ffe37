-- The stop, one receive, and what follows it.
use Rattle.std.proofs.Common.{◌≡◌, ◌≢◌, [], ◌∷◌, length, refl, sym, ap, ◌∙◌, arith}
use Rattle.std.proofs.lemmas.Result.{err_from_is_err_and}
use Rattle.colo_base.specs.Link.{bytes, ended, quiet}
use Rattle.file_steps.specs.Steps.{arrival_of, hear, outside}
use Rattle.serve_rounds.specs.Rounds.{tells, turns}
use Rattle.serve_rounds.specs.Serving.{moment}
use Rattle.serve_rounds.proofs.RoundLemmas.{halts_front, halts_then, went_then}
use Rattle.serve_rounds.proofs.WholeLemmas.{hear_broken, hear_closed, hear_fails, hear_halts, hear_went, heard_done, heard_fails, round_closed, round_front, round_halts, round_went}
use Rattle.serve_rounds.proofs.WorkLemmas.{still_open}
use Rattle.serve_rounds.proofs.rounds.make_round.Goals as goal

pub returns-in_err-stop-clause-halts : goal.returns-in_err-stop-clause-halts
returns-in_err-stop-clause-halts g c =
    let r = c.from_residual in
    let p = err_from_is_err_and r.result r.ensures.1 in
    let o = c.args.options.now in
    let meaning = g.G.Guest.meaning in
    let out = c.args.output.out.now in
    let k = g.K.Clock.state c.args.clock.now in
    let s1 = g.S.Shelf.state c.stop.new.shelf in
    let o0 = outside (g.S.Shelf.state c.args.shelf.now) (g.L.Link.state c.args.link.now) k in
    let o1 = outside s1 (g.L.Link.state c.stop.new.link) k in
    let m0 = moment c.args.server.now c.args.pair.now o0 in
    let m1 = moment c.stop.new.server c.stop.new.pair o1 in
    rw (p.1, p.2) (round_front meaning out o m0 o1 c.in_err-stop.field-0.0 (c.in_err-stop.ensures.halts k))

pub returns-in_err-heard-clause-halts : goal.returns-in_err-heard-clause-halts
returns-in_err-heard-clause-halts g c =
    let r = c.from_residual-in_err-heard in
    let p = err_from_is_err_and r.result r.ensures.1 in
    let o = c.args.options.now in
    let meaning = g.G.Guest.meaning in
    let out = c.args.output.out.now in
    let k = g.K.Clock.state c.args.clock.now in
    let s1 = g.S.Shelf.state c.stop.new.shelf in
    let o0 = outside (g.S.Shelf.state c.args.shelf.now) (g.L.Link.state c.args.link.now) k in
    let o1 = outside s1 (g.L.Link.state c.stop.new.link) k in
    let m0 = moment c.args.server.now c.args.pair.now o0 in
    let m1 = moment c.stop.new.server c.stop.new.pair o1 in
    let o2 = outside s1 (g.L.Link.state c.hear.new.link) k in
    let m2 = moment c.stop.new.server c.stop.new.pair o2 in
    let size : length c.hear.new.into ≡ 65536 = omega arith in
    let fault = c.in_err-heard.field-0.0 in
    rw (p.1, p.2) (round_halts meaning out o m0 m1 o2 fault (c.in_ok-stop.ensures.goes k)
    (hear_fails meaning out o c.stop.new.server c.stop.new.pair o1 o2 fault
    (heard_fails out c.hear.new.into o1 o2 fault size (c.in_err-heard.ensures.fails out s1 k))))

pub tell-requires-clause-opened : goal.tell-requires-clause-opened
tell-requires-clause-opened g c =
    let o = c.args.options.now in
    let meaning = g.G.Guest.meaning in
    let out = c.args.output.out.now in
    let k = g.K.Clock.state c.args.clock.now in
    let s1 = g.S.Shelf.state c.stop.new.shelf in
    let o0 = outside (g.S.Shelf.state c.args.shelf.now) (g.L.Link.state c.args.link.now) k in
    let o1 = outside s1 (g.L.Link.state c.stop.new.link) k in
    let m0 = moment c.args.server.now c.args.pair.now o0 in
    let m1 = moment c.stop.new.server c.stop.new.pair o1 in
    let o2 = outside s1 (g.L.Link.state c.hear.new.link) k in
    let m2 = moment c.stop.new.server c.stop.new.pair o2 in
    still_open out (hear (length c.hear.new.into) ∷ []) _ o1 o2 (c.in_ok-heard.ensures.done out s1 k)
    c.in_ok-stop.ensures.opened

pub tell-requires-clause-held : goal.tell-requires-clause-held
tell-requires-clause-held g c =
    let k = g.K.Clock.state c.args.clock.now in
    let now = c.in_ok-stop.ensures.goes k c.requires.held.now c.requires.held.holds in
    record { now = now.now; holds = now.holds }

pub turns-requires-in-Quiet-clause-opened : goal.turns-requires-in-Quiet-clause-opened
turns-requires-in-Quiet-clause-opened g c =
    let o = c.args.options.now in
    let meaning = g.G.Guest.meaning in
    let out = c.args.output.out.now in
    let k = g.K.Clock.state c.args.clock.now in
    let s1 = g.S.Shelf.state c.stop.new.shelf in
    let o0 = outside (g.S.Shelf.state c.args.shelf.now) (g.L.Link.state c.args.link.now) k in
    let o1 = outside s1 (g.L.Link.state c.stop.new.link) k in
    let m0 = moment c.args.server.now c.args.pair.now o0 in
    let m1 = moment c.stop.new.server c.stop.new.pair o1 in
    let o2 = outside s1 (g.L.Link.state c.hear.new.link) k in
    let m2 = moment c.stop.new.server c.stop.new.pair o2 in
    still_open out (hear (length c.hear.new.into) ∷ []) _ o1 o2 (c.in_ok-heard.ensures.done out s1 k)
    c.in_ok-stop.ensures.opened

pub returns-in_err-tell-in-Took-clause-halts : goal.returns-in_err-tell-in-Took-clause-halts
returns-in_err-tell-in-Took-clause-halts g c =
    let r = c.from_residual-in_err-tell-in-Took in
    let p = err_from_is_err_and r.result r.ensures.1 in
    let o = c.args.options.now in
    let meaning = g.G.Guest.meaning in
    let out = c.args.output.out.now in
    let k = g.K.Clock.state c.args.clock.now in
    let s1 = g.S.Shelf.state c.stop.new.shelf in
    let o0 = outside (g.S.Shelf.state c.args.shelf.now) (g.L.Link.state c.args.link.now) k in
    let o1 = outside s1 (g.L.Link.state c.stop.new.link) k in
    let m0 = moment c.args.server.now c.args.pair.now o0 in
    let m1 = moment c.stop.new.server c.stop.new.pair o1 in
    let o2 = outside s1 (g.L.Link.state c.hear.new.link) k in
    let m2 = moment c.stop.new.server c.stop.new.pair o2 in
    let size : length c.hear.new.into ≡ 65536 = omega arith in
    let piece = c.front.result.now in
    let heard = heard_done out c.hear.new.into c.in_ok-heard.heard (bytes piece) o1 o2 (ap (arrival_of
    c.hear.new.into) c.in-Took.is ∙ ap bytes (sym c.front.ensures.bytes)) size
    (c.in_ok-heard.ensures.done out s1 k) in
    let o3 = outside (g.S.Shelf.state c.tell.new.shelf) (g.L.Link.state c.tell.new.link) k in
    let m3 = moment c.tell.new.server c.tell.new.pair o3 in
    let fault = c.in_err-tell-in-Took.field-0.0 in
    rw (p.1, p.2) (round_halts meaning out o m0 m1 o3 fault (c.in_ok-stop.ensures.goes k)
    (hear_halts meaning out o c.stop.new.server c.stop.new.server c.stop.new.pair refl (record {
      unframer = refl;
      round = refl;
      first_tick = refl;
      second_tick = refl;
    }) o1 o2
    (bytes piece) o3 fault heard
    (halts_front meaning out (tells piece) (turns o) m2 o3 fault (c.in_err-tell-in-Took.ensures.halts k))))

pub returns-in_err-turns-in-Took-clause-halts : goal.returns-in_err-turns-in-Took-clause-halts
returns-in_err-turns-in-Took-clause-halts g c =
    let r = c.from_residual-in_err-turns-in-Took in
    let p = err_from_is_err_and r.result r.ensures.1 in
    let o = c.args.options.now in
    let meaning = g.G.Guest.meaning in
    let out = c.args.output.out.now in
    let k = g.K.Clock.state c.args.clock.now in
    let s1 = g.S.Shelf.state c.stop.new.shelf in
    let o0 = outside (g.S.Shelf.state c.args.shelf.now) (g.L.Link.state c.args.link.now) k in
    let o1 = outside s1 (g.L.Link.state c.stop.new.link) k in
    let m0 = moment c.args.server.now c.args.pair.now o0 in
    let m1 = moment c.stop.new.server c.stop.new.pair o1 in
    let o2 = outside s1 (g.L.Link.state c.hear.new.link) k in
    let m2 = moment c.stop.new.server c.stop.new.pair o2 in
    let size : length c.hear.new.into ≡ 65536 = omega arith in
    let piece = c.front.result.now in
    let heard = heard_done out c.hear.new.into c.in_ok-heard.heard (bytes piece) o1 o2 (ap (arrival_of
    c.hear.new.into) c.in-Took.is ∙ ap bytes (sym c.front.ensures.bytes)) size
    (c.in_ok-heard.ensures.done out s1 k) in
    let o3 = outside (g.S.Shelf.state c.tell.new.shelf) (g.L.Link.state c.tell.new.link) k in
    let m3 = moment c.tell.new.server c.tell.new.pair o3 in
    let o4 = outside (g.S.Shelf.state c.turns.new.shelf) (g.L.Link.state c.turns.new.link)
    (g.K.Clock.state c.turns.new.clock) in
    let m4 = moment c.turns.new.server c.turns.new.pair o4 in
    let fault = c.in_err-turns-in-Took.field-0.0 in
    rw (p.1, p.2) (round_halts meaning out o m0 m1 o4 fault (c.in_ok-stop.ensures.goes k)
    (hear_halts meaning out o c.stop.new.server c.stop.new.server c.stop.new.pair refl (record {
      unframer = refl;
      round = refl;
      first_tick = refl;
      second_tick = refl;
    }) o1 o2
    (bytes piece) o4 fault heard
    (halts_then meaning out (tells piece) (turns o) m2 m3 o4 fault (c.in_ok-tell-in-Took.ensures.goes k)
    c.in_err-turns-in-Took.ensures.halts)))

pub returns-in_ok-turns-in-Took-clause-goes : goal.returns-in_ok-turns-in-Took-clause-goes
returns-in_ok-turns-in-Took-clause-goes g c =
    let o = c.args.options.now in
    let meaning = g.G.Guest.meaning in
    let out = c.args.output.out.now in
    let k = g.K.Clock.state c.args.clock.now in
    let s1 = g.S.Shelf.state c.stop.new.shelf in
    let o0 = outside (g.S.Shelf.state c.args.shelf.now) (g.L.Link.state c.args.link.now) k in
    let o1 = outside s1 (g.L.Link.state c.stop.new.link) k in
    let m0 = moment c.args.server.now c.args.pair.now o0 in
    let m1 = moment c.stop.new.server c.stop.new.pair o1 in
    let o2 = outside s1 (g.L.Link.state c.hear.new.link) k in
    let m2 = moment c.stop.new.server c.stop.new.pair o2 in
    let size : length c.hear.new.into ≡ 65536 = omega arith in
    let piece = c.front.result.now in
    let heard = heard_done out c.hear.new.into c.in_ok-heard.heard (bytes piece) o1 o2 (ap (arrival_of
    c.hear.new.into) c.in-Took.is ∙ ap bytes (sym c.front.ensures.bytes)) size
    (c.in_ok-heard.ensures.done out s1 k) in
    let o3 = outside (g.S.Shelf.state c.tell.new.shelf) (g.L.Link.state c.tell.new.link) k in
    let m3 = moment c.tell.new.server c.tell.new.pair o3 in
    let o4 = outside (g.S.Shelf.state c.turns.new.shelf) (g.L.Link.state c.turns.new.link)
    (g.K.Clock.state c.turns.new.clock) in
    let m4 = moment c.turns.new.server c.turns.new.pair o4 in
    round_went meaning out o m0 m1 m4 (c.in_ok-stop.ensures.goes k)
    (hear_went meaning out o c.stop.new.server c.stop.new.server c.stop.new.pair refl (record {
      unframer = refl;
      round = refl;
      first_tick = refl;
      second_tick = refl;
    }) o1 o2
    (bytes piece) m4 heard
    (went_then meaning out (tells piece) (turns o) m2 m3 m4 (c.in_ok-tell-in-Took.ensures.goes k)
    c.in_ok-turns-in-Took.ensures.goes))

pub returns-in_err-turns-in-Quiet-clause-halts : goal.returns-in_err-turns-in-Quiet-clause-halts
returns-in_err-turns-in-Quiet-clause-halts g c =
    let r = c.from_residual-in_err-turns-in-Quiet in
    let p = err_from_is_err_and r.result r.ensures.1 in
    let o = c.args.options.now in
    let meaning = g.G.Guest.meaning in
    let out = c.args.output.out.now in
    let k = g.K.Clock.state c.args.clock.now in
    let s1 = g.S.Shelf.state c.stop.new.shelf in
    let o0 = outside (g.S.Shelf.state c.args.shelf.now) (g.L.Link.state c.args.link.now) k in
    let o1 = outside s1 (g.L.Link.state c.stop.new.link) k in
    let m0 = moment c.args.server.now c.args.pair.now o0 in
    let m1 = moment c.stop.new.server c.stop.new.pair o1 in
    let o2 = outside s1 (g.L.Link.state c.hear.new.link) k in
    let m2 = moment c.stop.new.server c.stop.new.pair o2 in
    let size : length c.hear.new.into ≡ 65536 = omega arith in
    let heard = heard_done out c.hear.new.into c.in_ok-heard.heard (quiet) o1 o2 (ap (arrival_of c.hear.new.into)
    c.in-Quiet.is) size
    (c.in_ok-heard.ensures.done out s1 k) in
    let o4 = outside (g.S.Shelf.state c.turns-in-Quiet.new.shelf) (g.L.Link.state c.turns-in-Quiet.new.link)
    (g.K.Clock.state c.turns-in-Quiet.new.clock) in
    let m4 = moment c.turns-in-Quiet.new.server c.turns-in-Quiet.new.pair o4 in
    let fault = c.in_err-turns-in-Quiet.field-0.0 in
    rw (p.1, p.2) (round_halts meaning out o m0 m1 o4 fault (c.in_ok-stop.ensures.goes k)
    (hear_halts meaning out o c.stop.new.server c.stop.new.server c.stop.new.pair refl (record {
      unframer = refl;
      round = refl;
      first_tick = refl;
      second_tick = refl;
    }) o1 o2
    quiet o4 fault heard c.in_err-turns-in-Quiet.ensures.halts))

pub returns-in_ok-turns-in-Quiet-clause-goes : goal.returns-in_ok-turns-in-Quiet-clause-goes
returns-in_ok-turns-in-Quiet-clause-goes g c =
    let o = c.args.options.now in
    let meaning = g.G.Guest.meaning in
    let out = c.args.output.out.now in
    let k = g.K.Clock.state c.args.clock.now in
    let s1 = g.S.Shelf.state c.stop.new.shelf in
    let o0 = outside (g.S.Shelf.state c.args.shelf.now) (g.L.Link.state c.args.link.now) k in
    let o1 = outside s1 (g.L.Link.state c.stop.new.link) k in
    let m0 = moment c.args.server.now c.args.pair.now o0 in
    let m1 = moment c.stop.new.server c.stop.new.pair o1 in
    let o2 = outside s1 (g.L.Link.state c.hear.new.link) k in
    let m2 = moment c.stop.new.server c.stop.new.pair o2 in
    let size : length c.hear.new.into ≡ 65536 = omega arith in
    let heard = heard_done out c.hear.new.into c.in_ok-heard.heard (quiet) o1 o2 (ap (arrival_of c.hear.new.into)
    c.in-Quiet.is) size
    (c.in_ok-heard.ensures.done out s1 k) in
    let o4 = outside (g.S.Shelf.state c.turns-in-Quiet.new.shelf) (g.L.Link.state c.turns-in-Quiet.new.link)
    (g.K.Clock.state c.turns-in-Quiet.new.clock) in
    let m4 = moment c.turns-in-Quiet.new.server c.turns-in-Quiet.new.pair o4 in
    round_went meaning out o m0 m1 m4 (c.in_ok-stop.ensures.goes k)
    (hear_went meaning out o c.stop.new.server c.stop.new.server c.stop.new.pair refl (record {
      unframer = refl;
      round = refl;
      first_tick = refl;
      second_tick = refl;
    }) o1 o2
    quiet m4 heard c.in_ok-turns-in-Quiet.ensures.goes)

pub returns-in_err-judge_end-in-Ended-clause-halts : goal.returns-in_err-judge_end-in-Ended-clause-halts
returns-in_err-judge_end-in-Ended-clause-halts g c =
    let r = c.from_residual-in_err-judge_end-in-Ended in
    let p = err_from_is_err_and r.result r.ensures.1 in
    let o = c.args.options.now in
    let meaning = g.G.Guest.meaning in
    let out = c.args.output.out.now in
    let k = g.K.Clock.state c.args.clock.now in
    let s1 = g.S.Shelf.state c.stop.new.shelf in
    let o0 = outside (g.S.Shelf.state c.args.shelf.now) (g.L.Link.state c.args.link.now) k in
    let o1 = outside s1 (g.L.Link.state c.stop.new.link) k in
    let m0 = moment c.args.server.now c.args.pair.now o0 in
    let m1 = moment c.stop.new.server c.stop.new.pair o1 in
    let o2 = outside s1 (g.L.Link.state c.hear.new.link) k in
    let m2 = moment c.stop.new.server c.stop.new.pair o2 in
    let size : length c.hear.new.into ≡ 65536 = omega arith in
    let heard = heard_done out c.hear.new.into c.in_ok-heard.heard (ended) o1 o2 (ap (arrival_of c.hear.new.into)
    c.in-Ended.is) size
    (c.in_ok-heard.ensures.done out s1 k) in
    let fault = c.in_err-judge_end-in-Ended.field-0.0 in
    rw (p.1, p.2) (round_halts meaning out o m0 m1 o2 fault (c.in_ok-stop.ensures.goes k)
    (hear_broken meaning out o c.stop.new.server c.stop.new.server c.stop.new.pair refl (record {
      unframer = refl;
      round = refl;
      first_tick = refl;
      second_tick = refl;
    }) o1 o2 fault
    heard c.in_err-judge_end-in-Ended.ensures.broken c.in_err-judge_end-in-Ended.ensures.place))

pub returns-in_ok-judge_end-in-Ended-clause-goes : goal.returns-in_ok-judge_end-in-Ended-clause-goes
returns-in_ok-judge_end-in-Ended-clause-goes g c =
    let o = c.args.options.now in
    let meaning = g.G.Guest.meaning in
    let out = c.args.output.out.now in
    let k = g.K.Clock.state c.args.clock.now in
    let s1 = g.S.Shelf.state c.stop.new.shelf in
    let o0 = outside (g.S.Shelf.state c.args.shelf.now) (g.L.Link.state c.args.link.now) k in
    let o1 = outside s1 (g.L.Link.state c.stop.new.link) k in
    let m0 = moment c.args.server.now c.args.pair.now o0 in
    let m1 = moment c.stop.new.server c.stop.new.pair o1 in
    let o2 = outside s1 (g.L.Link.state c.hear.new.link) k in
    let m2 = moment c.stop.new.server c.stop.new.pair o2 in
    let size : length c.hear.new.into ≡ 65536 = omega arith in
    let heard = heard_done out c.hear.new.into c.in_ok-heard.heard (ended) o1 o2 (ap (arrival_of c.hear.new.into)
    c.in-Ended.is) size
    (c.in_ok-heard.ensures.done out s1 k) in
    round_closed meaning out o m0 m1 m2 (c.in_ok-stop.ensures.goes k)
    (hear_closed meaning out o c.stop.new.server c.stop.new.server c.stop.new.pair refl (record {
      unframer = refl;
      round = refl;
      first_tick = refl;
      second_tick = refl;
    }) o1 o2 heard
    c.in_ok-judge_end-in-Ended.ensures.whole)

pub returns-in_ok-turns-in-Took-clause-can_stop : goal.returns-in_ok-turns-in-Took-clause-can_stop
returns-in_ok-turns-in-Took-clause-can_stop g c =
    λ goes less.
    let other : c.args.server.now.round ≢ c.args.options.now.stop = λ e. omega (
      arith,
      e,
      less,
      c.in_ok-stop.ensures.round,
      c.in_ok-tell-in-Took.ensures.round,
      c.in_ok-turns-in-Took.ensures.round,
    ) in
    let can = c.requires.can_stop (omega (
      arith,
      less,
      c.in_ok-stop.ensures.round,
      c.in_ok-tell-in-Took.ensures.round,
      c.in_ok-turns-in-Took.ensures.round,
    )) in
    c.in_ok-turns-in-Took.ensures.can_stop (c.in_ok-tell-in-Took.ensures.can_stop (c.in_ok-stop.ensures.can_stop
    other can))

pub returns-in_ok-turns-in-Quiet-clause-can_stop : goal.returns-in_ok-turns-in-Quiet-clause-can_stop
returns-in_ok-turns-in-Quiet-clause-can_stop g c =
    λ goes less.
    let other : c.args.server.now.round ≢ c.args.options.now.stop = λ e. omega (
      arith,
      e,
      less,
      c.in_ok-stop.ensures.round,
      c.in_ok-turns-in-Quiet.ensures.round,
    ) in
    let can = c.requires.can_stop (omega (
      arith,
      less,
      c.in_ok-stop.ensures.round,
      c.in_ok-turns-in-Quiet.ensures.round,
    )) in
    c.in_ok-turns-in-Quiet.ensures.can_stop (c.in_ok-stop.ensures.can_stop other can)
