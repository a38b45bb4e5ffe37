-- The symbols that agree from the edge on are counted.
use Rattle.std.proofs.Common.{◌≡◌, ◌≤◌, true, refl, sym, ap, subst, ◌∙◌}
use Rattle.tcp_track.specs.LineFields.{LineFields}
use Rattle.line_release.specs.Both.{both_of, line_or_none}
use Rattle.settle_rules.specs.Matching.{has_one_client}
use Rattle.line_match.proofs.MatchLemmas.{matched_is, left_opened}
use Rattle.line_match.proofs.matching.matched_end.Goals as goal

pub returns-clause-value : goal.returns-clause-value
returns-clause-value c =
    let b = both_of c.args.both.now in
    let one : has_one_client b ≡ true = sym c.has_one_client.ensures ∙ c.if-not-has_one_client.false in
    let low : c.args.both.now.mine.now.base ≤ c.args.edge =
    c.requires (left_opened b.mine.opening b.theirs.opening one) in
    let down : c.in-Some.theirs.now.base ≤ c.args.edge =
    subst (λ (k : LineFields). k.base ≤ c.args.edge) c.theirs.view_is c.if-theirs-edge.false in
    matched_is b c.args.both.now.mine.now c.in-Some.theirs.now c.args.edge c.agreed_from.result refl (ap line_or_none
    c.in-Some.is) one low down c.agreed_from.ensures.value
