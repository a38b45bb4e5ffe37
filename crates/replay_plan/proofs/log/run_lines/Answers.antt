-- The events of the lines happen one after the other.
use Rattle.std.proofs.Common.{◌≡◌, ◌+◌, ◌<◌, ◌≤◌, List, None, false, flat_map, get_or, length, refl, sym, ap, ◌∙◌, subst, arith, take}
use Rattle.std.proofs.lemmas.List.{take_all, take_more}
use Rattle.std.proofs.lemmas.Result.{err_from_is_err_and}
use Rattle.replay_log.specs.declared.lines.Line.{Line}
use Rattle.replay_log.specs.declared.lines.Line.TheVariants.{Primary}
use Rattle.file_steps.specs.Steps.{Step, Writes}
use Rattle.command_plans.proofs.ReplayLemmas.{after_more, good_there}
use Rattle.pair_core.specs.Events.{event_of}
use Rattle.pair_core.specs.Pair.{pair_of}
use Rattle.pair_core.specs.Steps.{refusal}
use Rattle.pair_theorem.specs.History.{pair_log}
use Rattle.replay_plan.specs.LogPlan.{writes_of}
use Rattle.replay_plan.specs.Running.{step_after}
use Rattle.replay_plan.proofs.LogLemmas.{GoesOnSoFar, so_far_all, so_far_more, so_far_none, writes_same, written_more, written_none, written_part}
use Rattle.replay_plan.proofs.log.run_lines.Goals as goal

abbrev none : Line
none = Primary 0 false 0 0

pub run_line-requires-clause-good : goal.run_line-requires-clause-good
run_line-requires-clause-good g c =
    let w = pair_of g.G.Guest.meaning c.args.pair.now in
    let k = c.loop-line.line-index in
    let line = get_or c.args.lines.now k none in
    ap (λ p. refusal p line) c.loop-line.invariant.after
    ∙ good_there w c.args.lines.now k none c.requires.good (omega arith)

pub returns-in_err-made-clause-fails : goal.returns-in_err-made-clause-fails
returns-in_err-made-clause-fails g c =
    let p = err_from_is_err_and c.from_residual.result c.from_residual.ensures.1 in
    let k = c.loop-line.line-index in
    let lines = c.args.lines.now in
    let within : k < length lines = omega arith in
    rw (p.1, p.2) (λ a start stands.
    written_part c.args.out.now a lines k none (g.S.Shelf.state c.args.shelf.now) (g.S.Shelf.state c.loop-line.shelf)
    (g.S.Shelf.state c.run_line.new.shelf) c.in_err-made.field-0.0 within
    (c.loop-line.invariant.written a start stands)
    (c.in_err-made.ensures.fails a (take k lines) start (c.loop-line.invariant.so_far a start stands).stands))

pub loop-line-init : goal.loop-line-init
loop-line-init g c = record {
  after = refl;
  steps = c.requires.fresh;
  lines = refl;
  so_far = λ a start stands. so_far_none a (pair_of g.G.Guest.meaning c.args.pair.now) _ stands refl refl refl;
  written = λ a start stands. written_none c.args.out.now a (g.S.Shelf.state c.args.shelf.now);
}

pub loop-line-preserved : goal.loop-line-preserved
loop-line-preserved g c =
    let w = pair_of g.G.Guest.meaning c.args.pair.now in
    let now = pair_of g.G.Guest.meaning c.loop-line.pair in
    let next = pair_of g.G.Guest.meaning c.run_line.new.pair in
    let s0 = g.S.Shelf.state c.args.shelf.now in
    let s1 = g.S.Shelf.state c.loop-line.shelf in
    let s2 = g.S.Shelf.state c.run_line.new.shelf in
    let out = c.args.out.now in
    let k = c.loop-line.line-index in
    let lines = c.args.lines.now in
    let line = get_or lines k none in
    let made = c.in_ok-made.made in
    let within : k < length lines = omega arith in
    let good : refusal now line ≡ None = ap (λ p. refusal p line) c.loop-line.invariant.after
    ∙ good_there w lines k none c.requires.good within in
    record {
      after = c.in_ok-made.ensures.after
          ∙ (ap (λ q. (event_of q line).after) c.loop-line.invariant.after ∙ sym (after_more w lines k none within));
      steps = c.in_ok-made.ensures.steps ∙ ap (λ n. n + 1) c.loop-line.invariant.steps;
      lines = c.count_step-counts.ensures.lines ∙ ap (λ n. n + 1) c.loop-line.invariant.lines;
      so_far = λ a start stands.
          let h = c.loop-line.invariant.so_far a start stands in
          subst (λ (xs : List Line). GoesOnSoFar a xs c.count_step-counts.result next)
          (sym (take_more lines k none within))
          (so_far_more a (take k lines) line c.loop-line.counts c.count_step-counts.result now next made h good
          (c.in_ok-made.ensures.goes_on a (take k lines) start h.stands) c.count_step-counts.ensures.lines
          c.count_step-counts.ensures.released c.count_step-counts.ensures.captured);
      written = λ a start stands.
          let h = c.loop-line.invariant.so_far a start stands in
          let tells = (c.in_ok-made.ensures.goes_on a (take k lines) start h.stands).tells in
          subst (λ (xs : List Line). Writes out (flat_map writes_of (pair_log a xs)) s0 s2)
          (sym (take_more lines k none within))
          (written_more out a (take k lines) s0 s1 s2 (c.loop-line.invariant.written a start stands) line
          (subst (λ (steps : List Step). Writes out steps s1 s2)
          (writes_same (step_after a (take k lines) line) made tells) c.in_ok-made.ensures.done));
    }

pub returns-clause-run : goal.returns-clause-run
returns-clause-run g c a start stands =
    let w = pair_of g.G.Guest.meaning c.loop-line.pair in
    let lines = c.args.lines.now in
    let enough : length lines ≤ c.loop-line.line-index = omega arith in
    so_far_all a lines c.loop-line.counts w
    (subst (λ (xs : List Line). GoesOnSoFar a xs c.loop-line.counts w) (take_all c.loop-line.line-index lines enough)
    (c.loop-line.invariant.so_far a start stands))

pub returns-clause-done : goal.returns-clause-done
returns-clause-done g c a start stands =
    let lines = c.args.lines.now in
    let enough : length lines ≤ c.loop-line.line-index = omega arith in
    subst (λ (xs : List Line). Writes c.args.out.now (flat_map writes_of (pair_log a xs))
    (g.S.Shelf.state c.args.shelf.now) (g.S.Shelf.state c.loop-line.shelf))
    (take_all c.loop-line.line-index lines enough) (c.loop-line.invariant.written a start stands)
