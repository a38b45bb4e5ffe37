-- Nothing goes out where the edge stays.
use Rattle.std.proofs.Common.{◌≡◌, ℕ, List, [], ◌++◌, map, sym, ap, ◌∙◌, arith, append-nil}
use Rattle.line_release.specs.Both.{both_of}
use Rattle.settle_rules.specs.Matching.{client_or_zero}
use Rattle.settle_rules.specs.Release.{Released, released_frame}
use Rattle.settle_rules.specs.Settle.{shown_after}
use Rattle.line_settle.proofs.ShownLemmas.{release_nothing}
use Rattle.line_settle.proofs.parts.release_new.Goals as goal

pub returns-else-edge-to-clause-ok : goal.returns-else-edge-to-clause-ok
returns-else-edge-to-clause-ok c =
    let b = both_of c.args.both.now in
    let same : c.args.to ≡ c.args.edge = omega (arith, c.if-edge-to.false, c.requires.after) in
    sym (ap (λ (xs : List Released). c.args.out.now ++ map released_frame xs)
    (release_nothing b c.args.edge c.args.to same)
    ∙ append-nil c.args.out.now)

pub returns-else-edge-to-clause-shown : goal.returns-else-edge-to-clause-shown
returns-else-edge-to-clause-shown c =
    let b = both_of c.args.both.now in
    let same : c.args.to ≡ c.args.edge = omega (arith, c.if-edge-to.false, c.requires.after) in
    sym (ap (λ (xs : List Released). shown_after (client_or_zero b.mine.opening) c.args.shown.now xs)
    (release_nothing b c.args.edge c.args.to same))
