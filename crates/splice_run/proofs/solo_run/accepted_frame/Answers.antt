-- The frame that is kept is the stream's.
use Rattle.std.proofs.Common.{ℕ, List, IfOk, IfSome, sym, subst}
use Rattle.frame_mirror.specs.Laws.{IsKept}
use Rattle.splice_run.proofs.GivenLemmas.{stream_is}
use Rattle.splice_run.proofs.solo_run.accepted_frame.Goals as goal

pub returns-clause-clean : goal.returns-clause-clean
returns-clause-clean c =
    subst (λ (b : List ℕ). IfOk c.keep.result (λ kept. IfSome kept (IsKept b)))
    (stream_is c.args.client.now c.args.index c.in-Some.frame.now (sym c.in-Some.ensures)) c.keep.ensures.clean
