-- One frame more has been followed.
use Rattle.std.proofs.Common.{sym, ap, ◌∙◌}
use Rattle.out_compare.specs.Comparing.{take_own}
use Rattle.out_compare.specs.Held.{Held, holds}
use Rattle.node_release.proofs.FollowLemmas.{own_more}
use Rattle.node_release.proofs.following.follow.Goals as goal

pub loop-k-preserved : goal.loop-k-preserved
loop-k-preserved c =
    let frame = c.in-Some.frame.now in
    record {
      after = c.in_ok-took.ensures.after
          ∙ (ap (λ (h : Held). holds (take_own h.comparing frame)) c.loop-k.invariant.after
          ∙ ap holds (sym (own_more c.args.compare.now.comparing c.args.sent.now c.loop-k.k frame
          (sym c.in-Some.ensures))));
    }
