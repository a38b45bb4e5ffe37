-- The messages of the frames that wait in an inbox.
use Rattle.std.specs.Prelude.{List, map}
use Rattle.frame_mirror.specs.declared.ring.Waiting.{Waiting}
use Rattle.colo_wire.specs.declared.messages.Message.{Message}
use Rattle.colo_wire.specs.declared.messages.Message.TheVariants.{Held}

abbrev pub held_message : Waiting → Message
held_message w = Held w.index w.seen w.trim w.frame

-- in their order
abbrev pub inbox_messages : List Waiting → List Message
inbox_messages inbox = map held_message inbox
