-- One line more each time.
use Rattle.std.proofs.Common.{◌≡◌, ℕ, ◌+◌, ◌-◌, refl, List, [], ◌∷◌, ap, length, subst, sym, ◌∙◌, arith}
use Rattle.std.specs.Prelude.{replicate}
use Rattle.std.proofs.lemmas.Grind.{replicate_next}
use Rattle.std.proofs.lemmas.List.{length-replicate}
use Rattle.std.proofs.lemmas.Result.{err_from_is_err_and}
use Rattle.replay_log.specs.declared.lines.Line.{Line}
use Rattle.pair_core.specs.Pair.{pair_of}
use Rattle.pair_core.specs.Steps.{refusal}
use Rattle.command_plans.specs.Replay.{AreEvents, count, event_at}
use Rattle.command_plans.proofs.ReplayLemmas.{marks_counted}
use Rattle.serve_rounds.specs.Rounds.{serves_of}
use Rattle.serve_rounds.specs.Serving.{CannotServe, IsServed, ends}
use Rattle.serve_rounds.proofs.LineLemmas.{cannot_front, cannot_one, cannot_then, good_here, replicate_parts, served_none, served_one, served_then}
use Rattle.serve_rounds.proofs.WorkLemmas.{open_after}
use Rattle.serve_rounds.proofs.lines.serve_times.Goals as goal

pub loop-init : goal.loop-init
loop-init g c =
    let s = g.S.Shelf.state c.args.shelf.now in
    let l = g.L.Link.state c.args.link.now in
    record {
      opened = c.requires.opened;
      lines = c.requires.lines;
      served = served_none g.G.Guest.meaning c.args.output.out.now c.args.pair.now c.args.counts (ends s s l l)
          refl refl;
    }

pub serve_line-requires-clause-good : goal.serve_line-requires-clause-good
serve_line-requires-clause-good g c =
    let w = pair_of g.G.Guest.meaning c.args.pair.now in
    let k = c.loop.counter in
    let x = c.args.line.now in
    let rest = replicate (c.args.times - k - 1) x in
    ap (λ p. refusal p x) c.loop.invariant.served.after
    ∙ good_here w (replicate k x) x rest
    (subst (λ (ls : List Line). AreEvents w ls) (replicate_parts c.args.times k x (omega arith)) c.requires.good)

pub serve_line-requires-clause-counted : goal.serve_line-requires-clause-counted
serve_line-requires-clause-counted g c =
    omega (arith, c.loop.invariant.served.steps, length-replicate c.loop.counter c.args.line.now)

pub count_step-counts-requires : goal.count_step-counts-requires
count_step-counts-requires g c =
    omega (
      arith,
      c.loop.invariant.lines,
      c.loop.invariant.served.steps,
      length-replicate c.loop.counter
          c.args.line.now,
    )

pub returns-in_err-step-clause-fails : goal.returns-in_err-step-clause-fails
returns-in_err-step-clause-fails g c =
    let p = err_from_is_err_and c.from_residual.result c.from_residual.ensures.1 in
    let meaning = g.G.Guest.meaning in
    let out = c.args.output.out.now in
    let k = c.loop.counter in
    let x = c.args.line.now in
    let rest = replicate (c.args.times - k - 1) x in
    let a = g.S.Shelf.state c.args.shelf.now in
    let b = g.S.Shelf.state c.loop.shelf in
    let z = g.S.Shelf.state c.serve_line.new.shelf in
    let l = g.L.Link.state c.args.link.now in
    let m = g.L.Link.state c.loop.link in
    let n = g.L.Link.state c.serve_line.new.link in
    let fault = c.in_err-step.field-0.0 in
    let P : List Line → Type 0 = λ ls. CannotServe meaning out ls c.args.pair.now (ends a z l n) fault in
    rw (p.1, p.2) (subst P (sym (replicate_parts c.args.times k x (omega arith)))
    (cannot_then meaning out (replicate k x) (x ∷ rest) c.args.pair.now c.loop.pair c.args.counts c.loop.counts a b z
    l m n fault c.loop.invariant.served
    (cannot_front meaning out (x ∷ []) rest c.loop.pair (ends b z m n) fault
    (cannot_one meaning out x c.loop.pair b z m n fault c.in_err-step.ensures.fails))))

pub loop-preserved : goal.loop-preserved
loop-preserved g c =
    let meaning = g.G.Guest.meaning in
    let out = c.args.output.out.now in
    let k = c.loop.counter in
    let x = c.args.line.now in
    let a = g.S.Shelf.state c.args.shelf.now in
    let b = g.S.Shelf.state c.loop.shelf in
    let z = g.S.Shelf.state c.serve_line.new.shelf in
    let l = g.L.Link.state c.args.link.now in
    let m = g.L.Link.state c.loop.link in
    let n = g.L.Link.state c.serve_line.new.link in
    let step = c.in_ok-step.ensures in
    let counted = c.count_step-counts.ensures in
    let now = c.count_step-counts.result in
    let one = served_one meaning out x c.loop.pair c.serve_line.new.pair c.loop.counts now b z m n step.after
    step.steps counted.lines
    (counted.released ∙ ap (λ fs. count (c.loop.counts.released + length fs)) step.step.released)
    (counted.captured ∙ ap (λ ms. marks_counted c.loop.counts.captured ms) step.step.marks) step.done in
    let P : List Line → Type 0 = λ ls. IsServed meaning out ls c.args.pair.now c.serve_line.new.pair c.args.counts now
    (ends a z l n) in
    record {
      opened = open_after out (serves_of (event_at (pair_of meaning c.loop.pair) x)) b z m n step.done
          c.loop.invariant.opened;
      lines = omega (arith, counted.lines, c.loop.invariant.lines, step.steps);
      served = subst P (sym (replicate_next k x)) (served_then meaning out (replicate k x) (x ∷ []) c.args.pair.now
          c.loop.pair c.serve_line.new.pair c.args.counts c.loop.counts now a b z l m n c.loop.invariant.served one);
    }

pub returns-clause-served : goal.returns-clause-served
returns-clause-served g c =
    let all : c.loop.counter ≡ c.args.times = omega arith in
    let P : ℕ → Type 0 = λ n. IsServed g.G.Guest.meaning c.args.output.out.now (replicate n c.args.line.now)
    c.args.pair.now
    c.loop.pair c.args.counts c.loop.counts (ends (g.S.Shelf.state c.args.shelf.now) (g.S.Shelf.state c.loop.shelf)
    (g.L.Link.state c.args.link.now) (g.L.Link.state c.loop.link)) in
    subst P all c.loop.invariant.served
