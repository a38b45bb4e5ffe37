-- One frame more has been followed and told.
use Rattle.std.proofs.Common.{List, ◌++◌, ap, sym, ◌∙◌}
use Rattle.colo_wire.specs.declared.messages.Message.{Message}
use Rattle.tcp_track.specs.Tracking.{Tracking, taken}
use Rattle.node_secondary.specs.Turns.{sent_message}
use Rattle.node_secondary.proofs.TurnLemmas.{lines_more, waits_more}
use Rattle.node_secondary.proofs.telling.tell_all.Goals as goal

pub loop-k-preserved : goal.loop-k-preserved
loop-k-preserved c =
    let frame = c.in-Some.frame.now in
    let here = sym c.in-Some.ensures in
    record {
      lines = c.in_ok-take.ensures.after ∙ ap (λ (l : Tracking). taken l frame) c.loop-k.invariant.lines
          ∙ sym (lines_more c.args.lines.now c.args.frames.now c.loop-k.k frame here);
      waits = c.in_ok-tell.ensures ∙ ap (λ (w : List Message). w ++ sent_message frame) c.loop-k.invariant.waits
          ∙ sym (waits_more c.args.waits.now c.args.frames.now c.loop-k.k frame here);
    }
