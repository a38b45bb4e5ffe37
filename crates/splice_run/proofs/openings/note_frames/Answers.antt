-- One frame more is noted.
use Rattle.std.proofs.Common.{sym}
use Rattle.splice_run.proofs.OpeningLemmas.{knows_more}
use Rattle.splice_run.proofs.openings.note_frames.Goals as goal

pub loop-k-preserved : goal.loop-k-preserved
loop-k-preserved c =
    knows_more _ _ c.args.sent.now c.loop-k.k c.in-Some.frame.now (sym c.in-Some.ensures) c.loop-k.invariant
    c.in_ok-note_frame.ensures
