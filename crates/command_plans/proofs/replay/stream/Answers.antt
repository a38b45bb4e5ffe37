-- One record more.
use Rattle.std.proofs.Common.{sym, arith}
use Rattle.command_plans.proofs.ReplayLemmas.{records_more}
use Rattle.command_plans.proofs.replay.stream.Goals as goal

pub loop-k-preserved : goal.loop-k-preserved
loop-k-preserved c =
    records_more c.args.frames.now c.loop-k.k c.in-Some.frame.now c.loop-k.text.items c.add_record.new.into.items
    (omega arith) (sym c.in-Some.ensures) c.loop-k.invariant c.in_ok-add_record-in-Some.ensures
