-- All but a refusal goes out, and then that.
use Rattle.std.proofs.Common.{◌≡◌, Bool, ◌&&◌, List, ◌++◌, map, ap, ◌∙◌}
use Rattle.line_release.specs.Both.{both_of}
use Rattle.settle_rules.specs.Progress.{Progress}
use Rattle.settle_rules.specs.Release.{released_frame, release_refusal}
use Rattle.settle_rules.specs.Settle.{same_number}
use Rattle.line_settle.specs.Parts.{plain_out, all_out, refusal_goes}
use Rattle.line_settle.proofs.OutLemmas.{added_twice}
use Rattle.line_settle.proofs.settling.release_by_rules.Goals as goal

pub returns-clause-out : goal.returns-clause-out
unfolding all_out
returns-clause-out c =
    let b = both_of c.args.both.now in
    let p = c.args.progress.now in
    let plain = plain_out b p c.args.tooks.now in
    let goes : c.refusal_goes-refuses.result ≡ refusal_goes b p = c.refusal_goes-refuses.ensures
    ∙ ap (λ (q : Progress). q.refusal_due && same_number b.mine.refused b.theirs.refused) c.progress.view_is in
    added_twice c.args.out.now c.release_plain.new.out c.release_refusal.new.out plain (release_refusal b b.mine.refused
    c.refusal_goes-refuses.result) c.in_ok-release_plain.ensures.ok c.in_ok-release_refusal.ensures.ok
    ∙ ap (λ (t : Bool). c.args.out.now ++ map released_frame (plain ++ release_refusal b b.mine.refused t)) goes
