use Rattle.std.proofs.Common.{◌∷◌, [], ap, ◌∙◌}
use Rattle.ascii_text.proofs.WritingLemmas.{hexadecimal_more, pushed}
use Rattle.ascii_text.proofs.writing.+push_hexadecimal.Goals as goal

pub returns-clause-ok : goal.returns-clause-ok
returns-clause-ok t c =
    rw (hexadecimal_more c.args.number c.if-number-lt16.false)
    (pushed _ _ _ _ _ _ c.in_ok-push_hexadecimal.ensures.ok c.in_ok-push-2.ensures.bytes
    (c.push-2.ensures.ascii c.glyph-2.ensures.ascii ∙ ap (λ d. d ∷ []) c.glyph-2.ensures.value))
