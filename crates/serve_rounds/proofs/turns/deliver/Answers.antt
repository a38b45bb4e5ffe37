-- The messages on one link are delivered, and then those on the other.
use Rattle.std.proofs.Common.{◌++◌, min, refl, ap, ◌∙◌, arith}
use Rattle.std.specs.Prelude.{replicate}
use Rattle.std.proofs.lemmas.List.{length-replicate}
use Rattle.std.proofs.lemmas.Result.{err_from_is_err_and}
use Rattle.replay_log.specs.declared.lines.Line.TheVariants.{ToPrimary, ToSecondary}
use Rattle.pair_core.specs.Pair.{pair_of}
use Rattle.serve_rounds.specs.Rounds.{deliveries, makes, most_delivered, serves}
use Rattle.serve_rounds.specs.Serving.{ends}
use Rattle.serve_rounds.proofs.KeepLemmas.{one_down, one_up, plain_events, still_can}
use Rattle.serve_rounds.proofs.LineLemmas.{cannot_front, cannot_then, served_then}
use Rattle.serve_rounds.proofs.RoundLemmas.{deliveries_are, lines_halt, lines_went}
use Rattle.serve_rounds.proofs.WorkLemmas.{open_after}
use Rattle.serve_rounds.proofs.turns.deliver.Goals as goal

pub serve_times-requires-clause-good : goal.serve_times-requires-clause-good
serve_times-requires-clause-good g c =
    plain_events (pair_of g.G.Guest.meaning c.args.pair.now) c.at_most-down.result ToSecondary one_down

pub serve_times-requires-2-clause-good : goal.serve_times-requires-2-clause-good
serve_times-requires-2-clause-good g c =
    plain_events (pair_of g.G.Guest.meaning c.serve_times.new.pair) c.at_most-up.result ToPrimary one_up

pub serve_times-requires-2-clause-counted : goal.serve_times-requires-2-clause-counted
serve_times-requires-2-clause-counted g c =
    omega (arith, c.in_ok-counts.ensures.served.steps, length-replicate c.at_most-down.result ToSecondary)

pub serve_times-requires-2-clause-opened : goal.serve_times-requires-2-clause-opened
serve_times-requires-2-clause-opened g c =
    open_after c.args.output.out.now (serves (pair_of g.G.Guest.meaning c.args.pair.now)
    (replicate c.at_most-down.result ToSecondary)) (g.S.Shelf.state c.args.shelf.now)
    (g.S.Shelf.state c.serve_times.new.shelf) (g.L.Link.state c.args.link.now) (g.L.Link.state c.serve_times.new.link)
    c.in_ok-counts.ensures.served.done c.requires.opened

pub returns-in_err-counts-clause-halts : goal.returns-in_err-counts-clause-halts
returns-in_err-counts-clause-halts g c = λ k.
    let p = err_from_is_err_and c.from_residual.result c.from_residual.ensures.1 in
    let x = c.at_most-down.result in
    let y = c.at_most-up.result in
    let e = ends (g.S.Shelf.state c.args.shelf.now) (g.S.Shelf.state c.serve_times.new.shelf)
    (g.L.Link.state c.args.link.now) (g.L.Link.state c.serve_times.new.link) in
    rw (p.1, p.2) (lines_halt g.G.Guest.meaning c.args.output.out.now deliveries
    (replicate x ToSecondary ++ replicate y ToPrimary) c.args.server.now c.args.pair.now e k
    c.in_err-counts.field-0.0
    (λ s next held. ap (λ ls. makes ls next s) (deliveries_are (pair_of g.G.Guest.meaning c.args.pair.now) s.pair x y
    held.pair (c.at_most-down.ensures.value ∙ ap (λ n. min n most_delivered) c.waiting-down.ensures.down)
    (c.at_most-up.ensures.value ∙ ap (λ n. min n most_delivered) c.waiting-down.ensures.up)))
    (cannot_front g.G.Guest.meaning c.args.output.out.now (replicate x ToSecondary) (replicate y ToPrimary)
    c.args.pair.now e c.in_err-counts.field-0.0 c.in_err-counts.ensures.fails))

pub returns-in_err-counts-2-clause-halts : goal.returns-in_err-counts-2-clause-halts
returns-in_err-counts-2-clause-halts g c = λ k.
    let r = c.from_residual-in_err-counts-2 in
    let p = err_from_is_err_and r.result r.ensures.1 in
    let x = c.at_most-down.result in
    let y = c.at_most-up.result in
    let a = g.S.Shelf.state c.args.shelf.now in
    let b = g.S.Shelf.state c.serve_times.new.shelf in
    let z = g.S.Shelf.state c.serve_times-2.new.shelf in
    let l = g.L.Link.state c.args.link.now in
    let m = g.L.Link.state c.serve_times.new.link in
    let n = g.L.Link.state c.serve_times-2.new.link in
    let fault = c.in_err-counts-2.field-0.0 in
    rw (p.1, p.2) (lines_halt g.G.Guest.meaning c.args.output.out.now deliveries
    (replicate x ToSecondary ++ replicate y ToPrimary) c.args.server.now c.args.pair.now (ends a z l n) k fault
    (λ s next held. ap (λ ls. makes ls next s) (deliveries_are (pair_of g.G.Guest.meaning c.args.pair.now) s.pair x y
    held.pair (c.at_most-down.ensures.value ∙ ap (λ n. min n most_delivered) c.waiting-down.ensures.down)
    (c.at_most-up.ensures.value ∙ ap (λ n. min n most_delivered) c.waiting-down.ensures.up)))
    (cannot_then g.G.Guest.meaning c.args.output.out.now (replicate x ToSecondary) (replicate y ToPrimary)
    c.args.pair.now c.serve_times.new.pair c.args.server.now.counts c.in_ok-counts.counts a b z l m n fault
    c.in_ok-counts.ensures.served c.in_err-counts-2.ensures.fails))

pub returns-clause-goes : goal.returns-clause-goes
returns-clause-goes g c = λ k.
    let x = c.at_most-down.result in
    let y = c.at_most-up.result in
    let a = g.S.Shelf.state c.args.shelf.now in
    let b = g.S.Shelf.state c.serve_times.new.shelf in
    let z = g.S.Shelf.state c.serve_times-2.new.shelf in
    let l = g.L.Link.state c.args.link.now in
    let m = g.L.Link.state c.serve_times.new.link in
    let n = g.L.Link.state c.serve_times-2.new.link in
    lines_went g.G.Guest.meaning c.args.output.out.now deliveries (replicate x ToSecondary ++ replicate y ToPrimary)
    c.args.server.now _ c.args.pair.now c.serve_times-2.new.pair (ends a z l n) k
    (λ s next held. ap (λ ls. makes ls next s) (deliveries_are (pair_of g.G.Guest.meaning c.args.pair.now) s.pair x y
    held.pair (c.at_most-down.ensures.value ∙ ap (λ n. min n most_delivered) c.waiting-down.ensures.down)
    (c.at_most-up.ensures.value ∙ ap (λ n. min n most_delivered) c.waiting-down.ensures.up)))
    (served_then g.G.Guest.meaning c.args.output.out.now (replicate x ToSecondary) (replicate y ToPrimary)
    c.args.pair.now c.serve_times.new.pair c.serve_times-2.new.pair c.args.server.now.counts c.in_ok-counts.counts
    c.in_ok-counts-2.counts a b z l m n c.in_ok-counts.ensures.served c.in_ok-counts-2.ensures.served)
    c.in_ok-counts-2.ensures.lines
    (record { unframer = refl; round = refl; first_tick = refl; second_tick = refl })

pub returns-clause-opened : goal.returns-clause-opened
returns-clause-opened g c =
    let opened = open_after c.args.output.out.now (serves (pair_of g.G.Guest.meaning c.args.pair.now)
    (replicate c.at_most-down.result ToSecondary)) (g.S.Shelf.state c.args.shelf.now)
    (g.S.Shelf.state c.serve_times.new.shelf) (g.L.Link.state c.args.link.now) (g.L.Link.state c.serve_times.new.link)
    c.in_ok-counts.ensures.served.done c.requires.opened in
    open_after c.args.output.out.now (serves (pair_of g.G.Guest.meaning c.serve_times.new.pair)
    (replicate c.at_most-up.result ToPrimary)) (g.S.Shelf.state c.serve_times.new.shelf)
    (g.S.Shelf.state c.serve_times-2.new.shelf) (g.L.Link.state c.serve_times.new.link)
    (g.L.Link.state c.serve_times-2.new.link) c.in_ok-counts-2.ensures.served.done opened

pub returns-clause-can_stop : goal.returns-clause-can_stop
returns-clause-can_stop g c = λ can.
    still_can g.G.Guest.meaning c.serve_times.new.pair c.serve_times-2.new.pair c.at_most-up.result ToPrimary one_up
    c.in_ok-counts-2.ensures.served.after
    (still_can g.G.Guest.meaning c.args.pair.now c.serve_times.new.pair c.at_most-down.result ToSecondary one_down
    c.in_ok-counts.ensures.served.after can)

pub returns-clause-few : goal.returns-clause-few
returns-clause-few g c =
    omega (
      arith,
      c.in_ok-counts.ensures.served.steps,
      c.in_ok-counts-2.ensures.served.steps,
      length-replicate c.at_most-down.result ToSecondary,
      length-replicate c.at_most-up.result ToPrimary,
    )
