-- There are as many frames as lines of the client.
use Rattle.std.proofs.Common.{[], ◌∷◌, ◌++◌, ap, arith, sym, ◌∙◌}
use Rattle.input_maker.specs.Client.{client_frame}
use Rattle.input_maker.specs.Made.{frames_for}
use Rattle.input_maker.proofs.MadeLemmas.{frames_more, length_is}
use Rattle.input_maker.proofs.making.add_client.Goals as goal

pub overflow_cast-len : goal.overflow_cast-len
overflow_cast-len c =
    omega (
      arith,
      c.len.ensures,
      c.requires.few,
      length_is c.args.made.now.frames c.args.made.now.lines.items c.requires.each,
    )

pub returns-clause-frames : goal.returns-clause-frames
returns-clause-frames c =
    c.in_ok-add.ensures.ok
    ∙ (ap (λ f. c.args.made.now.frames ++ f ∷ []) (c.in_ok-frame.ensures ∙ ap client_frame c.len.ensures)
    ∙ (frames_more c.args.made.now.frames c.args.made.now.lines.items c.requires.each
    ∙ ap frames_for (sym c.in_ok-push.ensures.items)))
