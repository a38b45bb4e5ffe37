-- The events of the lines happen one after the other.
use Rattle.std.proofs.Common.{◌≡◌, ◌+◌, ◌<◌, ◌++◌, ◌∷◌, [], ℕ, List, false, true, not, is_ok, get_or, length, sym, ap, ◌∙◌, subst, arith, take}
use Rattle.std.proofs.lemmas.Bool.{cond-true}
use Rattle.std.proofs.lemmas.List.{take_more}
use Rattle.replay_log.specs.declared.lines.Line.{Line}
use Rattle.replay_log.specs.declared.lines.Line.TheVariants.{Primary}
use Rattle.pair_core.specs.Pair.{pair_of}
use Rattle.pair_core.specs.declared.pair.Step.{Step}
use Rattle.pair_world.specs.Running.{RunsBy}
use Rattle.pair_world.proofs.RunningLemmas.{runs_more, runs_none}
use Rattle.pair_world.proofs.running.run.Goals as goal

abbrev none : Line
none = Primary 0 false 0 0

pub loop-line-init : goal.loop-line-init
loop-line-init g c =
    let w = pair_of g.G.Guest.meaning c.args.pair.now in
    record {
      steps = c.requires.fresh;
      runs = subst (λ (made : List Step). RunsBy w [] w made) (sym c.new-made.ensures.items) (runs_none w);
    }

pub loop-line-preserved : goal.loop-line-preserved
loop-line-preserved g c =
    let old = pair_of g.G.Guest.meaning c.args.pair.now in
    let now = pair_of g.G.Guest.meaning c.loop-line.pair in
    let next = pair_of g.G.Guest.meaning c.step.new.pair in
    let k = c.loop-line.line-index in
    let lines = c.args.lines.now in
    let line = get_or lines k none in
    let within : k < length lines = omega arith in
    let made = c.loop-line.made.items in
    let went : is_ok c.push.result ≡ true = c.is_err.ensures.negation ∙ ap not c.if-is_err.false in
    let pushed : c.push.new.self.items ≡ made ++ c.in_ok-next.next ∷ [] = c.push.ensures.items
    ∙ cond-true (is_ok c.push.result) (made ++ c.in_ok-next.next ∷ []) made went in
    record {
      steps = c.in_ok-next.ensures.steps ∙ ap (λ (n : ℕ). n + 1) c.loop-line.invariant.steps;
      runs = subst (λ (xs : List Line). RunsBy old xs next c.push.new.self.items) (sym (take_more lines k none within))
          (subst (λ (made : List Step). RunsBy old (take k lines ++ line ∷ []) next made) (sym pushed)
          (runs_more old now next (take k lines) line made c.in_ok-next.next c.loop-line.invariant.runs
          c.in_ok-next.ensures.goes_on));
    }
