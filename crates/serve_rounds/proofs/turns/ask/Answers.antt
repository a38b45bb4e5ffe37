-- A checkpoint is asked for, or none is due.
use Rattle.std.proofs.Common.{[], ◌∷◌, not, refl, sym, ap, ◌∙◌, arith}
use Rattle.std.proofs.lemmas.Result.{err_from_is_err_and}
use Rattle.replay_log.specs.declared.lines.Line.TheVariants.{Ask}
use Rattle.pair_core.specs.Pair.{pair_of}
use Rattle.serve_rounds.specs.Rounds.{asks, is_due, makes, serves}
use Rattle.serve_rounds.specs.Serving.{ends}
use Rattle.serve_rounds.proofs.KeepLemmas.{a_checkpoint, plain_events, still_can}
use Rattle.serve_rounds.proofs.RoundLemmas.{if_not, if_so, idle_went, lines_halt, lines_went}
use Rattle.serve_rounds.proofs.WorkLemmas.{open_after}
use Rattle.serve_rounds.proofs.turns.ask.Goals as goal

pub returns-then-is_not_due-clause-goes : goal.returns-then-is_not_due-clause-goes
returns-then-is_not_due-clause-goes g c = λ k.
    let o = c.args.options.now in
    idle_went g.G.Guest.meaning c.args.output.out.now (asks o) c.args.server.now c.args.pair.now
    (g.S.Shelf.state c.args.shelf.now) (g.L.Link.state c.args.link.now) k
    (λ s next held. ap (λ ls. makes ls next s) (if_not (is_due o.every s.round) (Ask ∷ []) []
    (ap (λ r. not (is_due o.every r)) (sym held.round) ∙ (sym c.is_not_due.ensures ∙ c.if-is_not_due.true))))
    c.requires.lines

pub serve_times-requires-clause-good : goal.serve_times-requires-clause-good
serve_times-requires-clause-good g c = plain_events (pair_of g.G.Guest.meaning c.args.pair.now) 1 Ask a_checkpoint

pub returns-in_err-counts-clause-halts : goal.returns-in_err-counts-clause-halts
returns-in_err-counts-clause-halts g c = λ k.
    let p = err_from_is_err_and c.from_residual.result c.from_residual.ensures.1 in
    let o = c.args.options.now in
    rw (p.1, p.2) (lines_halt g.G.Guest.meaning c.args.output.out.now (asks o) (Ask ∷ []) c.args.server.now
    c.args.pair.now (ends (g.S.Shelf.state c.args.shelf.now) (g.S.Shelf.state c.serve_times.new.shelf)
    (g.L.Link.state c.args.link.now) (g.L.Link.state c.serve_times.new.link)) k c.in_err-counts.field-0.0
    (λ s next held. ap (λ ls. makes ls next s) (if_so (is_due o.every s.round) (Ask ∷ []) []
    (ap (λ r. not (is_due o.every r)) (sym held.round) ∙ (sym c.is_not_due.ensures ∙ c.if-is_not_due.false))))
    c.in_err-counts.ensures.fails)

pub returns-clause-goes : goal.returns-clause-goes
returns-clause-goes g c = λ k.
    let o = c.args.options.now in
    lines_went g.G.Guest.meaning c.args.output.out.now (asks o) (Ask ∷ []) c.args.server.now _ c.args.pair.now
    c.serve_times.new.pair (ends (g.S.Shelf.state c.args.shelf.now) (g.S.Shelf.state c.serve_times.new.shelf)
    (g.L.Link.state c.args.link.now) (g.L.Link.state c.serve_times.new.link)) k
    (λ s next held. ap (λ ls. makes ls next s) (if_so (is_due o.every s.round) (Ask ∷ []) []
    (ap (λ r. not (is_due o.every r)) (sym held.round) ∙ (sym c.is_not_due.ensures ∙ c.if-is_not_due.false))))
    c.in_ok-counts.ensures.served c.in_ok-counts.ensures.lines
    (record { unframer = refl; round = refl; first_tick = refl; second_tick = refl })

pub returns-clause-opened : goal.returns-clause-opened
returns-clause-opened g c =
    open_after c.args.output.out.now (serves (pair_of g.G.Guest.meaning c.args.pair.now) (Ask ∷ []))
    (g.S.Shelf.state c.args.shelf.now) (g.S.Shelf.state c.serve_times.new.shelf) (g.L.Link.state c.args.link.now)
    (g.L.Link.state c.serve_times.new.link) c.in_ok-counts.ensures.served.done c.requires.opened

pub returns-clause-can_stop : goal.returns-clause-can_stop
returns-clause-can_stop g c = λ can.
    still_can g.G.Guest.meaning c.args.pair.now c.serve_times.new.pair 1 Ask a_checkpoint
    c.in_ok-counts.ensures.served.after can

pub returns-clause-few : goal.returns-clause-few
returns-clause-few g c = omega (arith, c.in_ok-counts.ensures.served.steps)
