-- The slice ends after 536 bytes, or at the end.
use Rattle.std.proofs.Common.{◌≡◌, ◌-◌, ◌*◌, drop, arith, length-drop}
use Rattle.line_release.proofs.PartLemmas.{take_cap}
use Rattle.line_release.proofs.segments.piece_at.Goals as goal

pub returns-clause-value : goal.returns-clause-value
returns-clause-value c = take_cap _ 536 (drop (536 * c.args.k) c.args.bytes.now) (omega (
  arith,
  c.min.ensures,
  length-drop (536 * c.args.k) c.args.bytes.now,
))
