-- A frame at the place, and none.
use Rattle.std.proofs.Common.{◌≡◌, List, ◌++◌, OnOk, subst, sym}
use Rattle.colo_wire.specs.declared.messages.Message.{Message}
use Rattle.checkpoint_capture.proofs.HeldLemmas.{frame_messages, no_frame}
use Rattle.checkpoint_capture.proofs.held.put_place.Goals as goal

pub returns-in-Some : goal.returns-in-Some
returns-in-Some c =
    subst (λ (ms : List Message). OnOk c.put_waiting.result (c.put_waiting.new.waits ≡ c.args.waits.now ++ ms))
    (frame_messages c.args.inbox.now c.args.k c.in-Some.waiting.now (sym c.in-Some.ensures)) c.put_waiting.ensures

pub returns-in-None : goal.returns-in-None
returns-in-None c = no_frame c.args.waits.now c.args.inbox.now c.args.k (sym c.in-None.ensures)
