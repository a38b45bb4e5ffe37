-- The parts are settling.
use Rattle.std.proofs.Common.{◌≡◌, Bool, true, List, ◌++◌, map, sym, ap, ◌∙◌}
use Rattle.line_release.specs.Both.{both_of}
use Rattle.settle_rules.specs.Progress.{Progress}
use Rattle.settle_rules.specs.Release.{released_frame}
use Rattle.settle_rules.specs.Settle.{Settled}
use Rattle.line_settle.specs.Parts.{grow_if_turn, plain_out, settled_progress}
use Rattle.line_settle.proofs.PartLemmas.{settle_one_is}
use Rattle.line_settle.proofs.settling.settle_one.Goals as goal

pub returns-then-is_turn-clause-progress : goal.returns-then-is_turn-clause-progress
returns-then-is_turn-clause-progress c =
    let b = both_of c.args.both.now in
    let p = c.args.progress.now in
    let tooks = c.args.tooks.now in
    c.grow_older.ensures
    ∙ (ap (λ (q : Progress). grow_if_turn b true q) c.in_ok-release_by_rules.ensures.progress
    ∙ (sym (ap (λ (t : Bool). grow_if_turn b t (settled_progress b p (plain_out b p tooks))) c.if-is_turn.true)
    ∙ sym (ap (λ (s : Settled). s.progress) (settle_one_is b p c.args.is_turn tooks))))

pub returns-then-is_turn-clause-out : goal.returns-then-is_turn-clause-out
returns-then-is_turn-clause-out c =
    c.in_ok-release_by_rules.ensures.out
    ∙ ap (λ (s : Settled). c.args.out.now ++ map released_frame s.out) (sym (settle_one_is (both_of c.args.both.now)
    c.args.progress.now c.args.is_turn c.args.tooks.now))

pub returns-else-is_turn-clause-progress : goal.returns-else-is_turn-clause-progress
returns-else-is_turn-clause-progress c =
    let b = both_of c.args.both.now in
    let p = c.args.progress.now in
    let tooks = c.args.tooks.now in
    c.in_ok-release_by_rules.ensures.progress
    ∙ (sym (ap (λ (t : Bool). grow_if_turn b t (settled_progress b p (plain_out b p tooks))) c.if-is_turn.false)
    ∙ sym (ap (λ (s : Settled). s.progress) (settle_one_is b p c.args.is_turn tooks)))

pub returns-else-is_turn-clause-out : goal.returns-else-is_turn-clause-out
returns-else-is_turn-clause-out c =
    c.in_ok-release_by_rules.ensures.out
    ∙ ap (λ (s : Settled). c.args.out.now ++ map released_frame s.out) (sym (settle_one_is (both_of c.args.both.now)
    c.args.progress.now c.args.is_turn c.args.tooks.now))
