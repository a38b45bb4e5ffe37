-- One frame more.
use Rattle.std.proofs.Common.{◌+◌, take, drop}
use Rattle.checkpoint_form.specs.Inbox.{inbox_messages}
use Rattle.checkpoint_capture.proofs.HeldLemmas.{inbox_more}
use Rattle.checkpoint_capture.proofs.PutLemmas.{put_more}
use Rattle.checkpoint_capture.proofs.held.put_inbox.Goals as goal

pub loop-k-preserved : goal.loop-k-preserved
loop-k-preserved c =
    put_more c.args.waits.now c.loop-k.waits c.put_place.new.waits (inbox_messages (take c.loop-k.k c.args.inbox.now))
    (inbox_messages (take 1 (drop c.loop-k.k c.args.inbox.now)))
    (inbox_messages (take (c.loop-k.k + 1) c.args.inbox.now)) c.loop-k.invariant c.in_ok-put_place.ensures
    (inbox_more c.args.inbox.now c.loop-k.k)
