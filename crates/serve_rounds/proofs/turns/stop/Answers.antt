-- The primary stops and is reported, or no stop is due.
use Rattle.std.proofs.Common.{◌==◌, [], ◌∷◌, not, refl, sym, ap, ◌∙◌, arith}
use Rattle.std.proofs.lemmas.Result.{err_from_is_err_and}
use Rattle.replay_log.specs.declared.lines.Line.TheVariants.{Report, StopPrimary}
use Rattle.pair_core.specs.Pair.{pair_of}
use Rattle.serve_rounds.specs.Rounds.{makes, serves, stops}
use Rattle.serve_rounds.specs.Serving.{ends}
use Rattle.serve_rounds.proofs.LineLemmas.{cannot_front, cannot_then, served_then}
use Rattle.serve_rounds.proofs.RoundLemmas.{idle_went, if_not, if_so, is_that, lines_halt, lines_went, report_good, stop_good}
use Rattle.serve_rounds.proofs.WorkLemmas.{open_after}
use Rattle.serve_rounds.proofs.turns.stop.Goals as goal

pub returns-then-is_other-clause-goes : goal.returns-then-is_other-clause-goes
returns-then-is_other-clause-goes g c = λ k.
    let o = c.args.options.now in
    idle_went g.G.Guest.meaning c.args.output.out.now (stops o) c.args.server.now c.args.pair.now
    (g.S.Shelf.state c.args.shelf.now) (g.L.Link.state c.args.link.now) k
    (λ s next held. ap (λ ls. makes ls next s) (if_not (s.round == o.stop) (StopPrimary ∷ (Report ∷ [])) []
    (ap (λ r. not (r == o.stop)) (sym held.round) ∙ (sym c.is_other.ensures ∙ c.if-is_other.true))))
    c.requires.lines

pub serve_times-requires-clause-good : goal.serve_times-requires-clause-good
serve_times-requires-clause-good g c =
    let can = c.requires.can_stop (is_that c.args.server.now.round c.args.options.now.stop
    (sym c.is_other.ensures ∙ c.if-is_other.false)) in
    stop_good (pair_of g.G.Guest.meaning c.args.pair.now) can.stopped

pub serve_times-requires-2-clause-good : goal.serve_times-requires-2-clause-good
serve_times-requires-2-clause-good g c =
    let can = c.requires.can_stop (is_that c.args.server.now.round c.args.options.now.stop
    (sym c.is_other.ensures ∙ c.if-is_other.false)) in
    report_good (pair_of g.G.Guest.meaning c.args.pair.now) (pair_of g.G.Guest.meaning c.serve_times.new.pair)
    c.in_ok-counts.ensures.served.after can.is_reported

pub serve_times-requires-2-clause-opened : goal.serve_times-requires-2-clause-opened
serve_times-requires-2-clause-opened g c =
    open_after c.args.output.out.now (serves (pair_of g.G.Guest.meaning c.args.pair.now) (StopPrimary ∷ []))
    (g.S.Shelf.state c.args.shelf.now) (g.S.Shelf.state c.serve_times.new.shelf) (g.L.Link.state c.args.link.now)
    (g.L.Link.state c.serve_times.new.link) c.in_ok-counts.ensures.served.done c.requires.opened

pub serve_times-requires-2-clause-counted : goal.serve_times-requires-2-clause-counted
serve_times-requires-2-clause-counted g c = omega (arith, c.in_ok-counts.ensures.served.steps)

pub returns-in_err-counts-clause-halts : goal.returns-in_err-counts-clause-halts
returns-in_err-counts-clause-halts g c = λ k.
    let p = err_from_is_err_and c.from_residual.result c.from_residual.ensures.1 in
    let o = c.args.options.now in
    let e = ends (g.S.Shelf.state c.args.shelf.now) (g.S.Shelf.state c.serve_times.new.shelf)
    (g.L.Link.state c.args.link.now) (g.L.Link.state c.serve_times.new.link) in
    rw (p.1, p.2) (lines_halt g.G.Guest.meaning c.args.output.out.now (stops o) (StopPrimary ∷ (Report ∷ []))
    c.args.server.now c.args.pair.now e k c.in_err-counts.field-0.0
    (λ s next held. ap (λ ls. makes ls next s) (if_so (s.round == o.stop) (StopPrimary ∷ (Report ∷ [])) []
    (ap (λ r. not (r == o.stop)) (sym held.round) ∙ (sym c.is_other.ensures ∙ c.if-is_other.false))))
    (cannot_front g.G.Guest.meaning c.args.output.out.now (StopPrimary ∷ []) (Report ∷ []) c.args.pair.now e
    c.in_err-counts.field-0.0 c.in_err-counts.ensures.fails))

pub returns-in_err-counts-2-clause-halts : goal.returns-in_err-counts-2-clause-halts
returns-in_err-counts-2-clause-halts g c = λ k.
    let r = c.from_residual-in_err-counts-2 in
    let p = err_from_is_err_and r.result r.ensures.1 in
    let o = c.args.options.now in
    let a = g.S.Shelf.state c.args.shelf.now in
    let b = g.S.Shelf.state c.serve_times.new.shelf in
    let z = g.S.Shelf.state c.serve_times-2.new.shelf in
    let l = g.L.Link.state c.args.link.now in
    let m = g.L.Link.state c.serve_times.new.link in
    let n = g.L.Link.state c.serve_times-2.new.link in
    let fault = c.in_err-counts-2.field-0.0 in
    rw (p.1, p.2) (lines_halt g.G.Guest.meaning c.args.output.out.now (stops o) (StopPrimary ∷ (Report ∷ []))
    c.args.server.now c.args.pair.now (ends a z l n) k fault
    (λ s next held. ap (λ ls. makes ls next s) (if_so (s.round == o.stop) (StopPrimary ∷ (Report ∷ [])) []
    (ap (λ r. not (r == o.stop)) (sym held.round) ∙ (sym c.is_other.ensures ∙ c.if-is_other.false))))
    (cannot_then g.G.Guest.meaning c.args.output.out.now (StopPrimary ∷ []) (Report ∷ []) c.args.pair.now
    c.serve_times.new.pair c.args.server.now.counts c.in_ok-counts.counts a b z l m n fault
    c.in_ok-counts.ensures.served c.in_err-counts-2.ensures.fails))

pub returns-clause-goes : goal.returns-clause-goes
returns-clause-goes g c = λ k.
    let o = c.args.options.now in
    let a = g.S.Shelf.state c.args.shelf.now in
    let b = g.S.Shelf.state c.serve_times.new.shelf in
    let z = g.S.Shelf.state c.serve_times-2.new.shelf in
    let l = g.L.Link.state c.args.link.now in
    let m = g.L.Link.state c.serve_times.new.link in
    let n = g.L.Link.state c.serve_times-2.new.link in
    lines_went g.G.Guest.meaning c.args.output.out.now (stops o) (StopPrimary ∷ (Report ∷ [])) c.args.server.now _
    c.args.pair.now c.serve_times-2.new.pair (ends a z l n) k
    (λ s next held. ap (λ ls. makes ls next s) (if_so (s.round == o.stop) (StopPrimary ∷ (Report ∷ [])) []
    (ap (λ r. not (r == o.stop)) (sym held.round) ∙ (sym c.is_other.ensures ∙ c.if-is_other.false))))
    (served_then g.G.Guest.meaning c.args.output.out.now (StopPrimary ∷ []) (Report ∷ []) c.args.pair.now
    c.serve_times.new.pair c.serve_times-2.new.pair c.args.server.now.counts c.in_ok-counts.counts
    c.in_ok-counts-2.counts a b z l m n c.in_ok-counts.ensures.served c.in_ok-counts-2.ensures.served)
    c.in_ok-counts-2.ensures.lines
    (record { unframer = refl; round = refl; first_tick = refl; second_tick = refl })

pub returns-clause-opened : goal.returns-clause-opened
returns-clause-opened g c =
    let opened = open_after c.args.output.out.now (serves (pair_of g.G.Guest.meaning c.args.pair.now)
    (StopPrimary ∷ [])) (g.S.Shelf.state c.args.shelf.now) (g.S.Shelf.state c.serve_times.new.shelf)
    (g.L.Link.state c.args.link.now) (g.L.Link.state c.serve_times.new.link) c.in_ok-counts.ensures.served.done
    c.requires.opened in
    open_after c.args.output.out.now (serves (pair_of g.G.Guest.meaning c.serve_times.new.pair) (Report ∷ []))
    (g.S.Shelf.state c.serve_times.new.shelf) (g.S.Shelf.state c.serve_times-2.new.shelf)
    (g.L.Link.state c.serve_times.new.link) (g.L.Link.state c.serve_times-2.new.link)
    c.in_ok-counts-2.ensures.served.done opened

pub returns-clause-can_stop : goal.returns-clause-can_stop
returns-clause-can_stop g c = λ other can.
    absurd (other (is_that c.args.server.now.round c.args.options.now.stop
    (sym c.is_other.ensures ∙ c.if-is_other.false)))

pub returns-clause-few : goal.returns-clause-few
returns-clause-few g c = omega (arith, c.in_ok-counts.ensures.served.steps, c.in_ok-counts-2.ensures.served.steps)
