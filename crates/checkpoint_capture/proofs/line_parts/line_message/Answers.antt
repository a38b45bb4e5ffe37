-- A line without an opening, and one with an opening.
use Rattle.checkpoint_capture.proofs.LineLemmas.{base_within, closed_spelled, opened_spelled}
use Rattle.checkpoint_capture.proofs.line_parts.line_message.Goals as goal

pub returns-in-None-clause-spelled : goal.returns-in-None-clause-spelled
returns-in-None-clause-spelled c =
    rw (c.flag_if-refused.ensures, c.is_some.ensures, c.unwrap_or.ensures)
    (closed_spelled c.args.tuple.now c.line.inside.mac c.line.inside.refused c.is_mac.ensures)

pub returns-in-Some-clause-spelled : goal.returns-in-Some-clause-spelled
returns-in-Some-clause-spelled c =
    rw (
      c.flag_if.ensures,
      c.flag_if-refused.ensures,
      c.is_some.ensures,
      c.flag_if-in-Some.ensures,
      c.unwrap_or-in-Some.ensures,
    )
    (opened_spelled c.args.tuple.now c.line.inside.mac c.in-Some.opening.client c.in-Some.opening.own c.args.number
    c.line.inside.acked c.line.inside.window c.line.inside.mss c.line.inside.base c.line.inside.refused
    c.line.inside.reset c.line.inside.fin c.is_mac.ensures c.line.invariant.acked
    (base_within c.line.inside.base c.line.inside.bytes c.line.inside.fin c.line.invariant.end))
