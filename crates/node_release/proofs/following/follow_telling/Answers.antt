-- One frame more has been followed and told.
use Rattle.std.proofs.Common.{List, ◌++◌, take, sym, ap, ◌∙◌}
use Rattle.colo_wire.specs.declared.messages.Message.{Message}
use Rattle.out_compare.specs.Comparing.{take_own}
use Rattle.out_compare.specs.Held.{Held, holds}
use Rattle.node_release.specs.Following.{new_numbers, told_of_frame}
use Rattle.node_release.proofs.FollowLemmas.{own_more, told_more}
use Rattle.node_release.proofs.following.follow_telling.Goals as goal

pub loop-k-preserved : goal.loop-k-preserved
loop-k-preserved c =
    let frame = c.in-Some.frame.now in
    let here = sym c.in-Some.ensures in
    let x = c.args.compare.now.comparing in
    let waits = c.args.waits.now ++ new_numbers x (take c.loop-k.k c.args.sent.now) in
    record {
      after = c.in_ok-follow_one.ensures.after
          ∙ (ap (λ (h : Held). holds (take_own h.comparing frame)) c.loop-k.invariant.after
          ∙ ap holds (sym (own_more x c.args.sent.now c.loop-k.k frame here)));
      waits = c.in_ok-follow_one.ensures.waits
          ∙ (ap (λ (w : List Message). w ++ told_of_frame c.loop-k.compare.comparing frame) c.loop-k.invariant.waits
          ∙ (ap (λ (h : Held). waits ++ told_of_frame h.comparing frame) c.loop-k.invariant.after
          ∙ sym (told_more x c.args.waits.now c.args.sent.now c.loop-k.k frame here)));
    }
