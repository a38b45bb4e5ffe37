use Rattle.std.proofs.Common.{◌≡◌, ◌++◌, take}
use Rattle.checkpoint_form.specs.Inbox.{inbox_messages}
use Rattle.checkpoint_capture.proofs.held.put_inbox.Given as goal

abbrev pub invariant-loop-k : goal.invariant-loop-k
invariant-loop-k l = l.waits ≡ l.initial.waits ++ inbox_messages (take l.k l.inbox)
