use Rattle.std.proofs.Common.{◌∷◌, [], ap, sym, ◌∙◌, arith}
use Rattle.std.specs.String.{string_bytes}
use Rattle.std.proofs.lemmas.List.{append-nil}
use Rattle.ascii_text.proofs.WritingLemmas.{hexadecimal_digits_more, hexadecimal_digits_none, pushed}
use Rattle.ascii_text.proofs.writing.+push_hexadecimal_digits.Goals as goal

pub returns-then-count-eq0-clause-ok : goal.returns-then-count-eq0-clause-ok
returns-then-count-eq0-clause-ok t c = rw (
  c.if-count-eq0.true,
  hexadecimal_digits_none c.args.number,
) (sym (append-nil (string_bytes c.args.into.now)))

pub returns-clause-ok : goal.returns-clause-ok
returns-clause-ok t c =
    rw (hexadecimal_digits_more c.args.count c.args.number (omega arith))
    (pushed _ _ _ _ _ _ c.in_ok-push_hexadecimal_digits.ensures.ok c.in_ok-push.ensures.bytes
    (c.push.ensures.ascii c.glyph.ensures.ascii ∙ ap (λ d. d ∷ []) c.glyph.ensures.value))
