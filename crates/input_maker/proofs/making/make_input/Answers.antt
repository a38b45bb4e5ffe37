-- One turn more.
use Rattle.std.proofs.Common.{ap, arith, sym, ◌∙◌}
use Rattle.input_maker.specs.Draws.{draw}
use Rattle.input_maker.proofs.MadeLemmas.{drawn_more, lines_next}
use Rattle.input_maker.proofs.making.make_input.Goals as goal

pub loop-preserved : goal.loop-preserved
loop-preserved c =
    let last = c.draw-x.ensures
    ∙ (ap draw c.loop.invariant.last ∙ sym (drawn_more c.loop.counter c.args.number)) in
    record {
      last = last;
      lines = c.in_ok-add_turn.ensures.lines
          ∙ lines_next c.loop.counter c.args.number c.draw-x.result last c.loop.made.lines.items
          c.loop.invariant.lines;
      frames = c.in_ok-add_turn.ensures.frames;
      few = omega (arith, c.in_ok-add_turn.ensures.few, c.loop.invariant.few);
    }
