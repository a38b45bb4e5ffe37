-- A secondary before and after the report of its primary's stop: it hears the primary, or it is
-- alone and releases what its guest sends.
use Rattle.std.specs.Prelude.{List, [], Option, None, Some}
use Rattle.frame_mirror.specs.declared.ring.Waiting.{Waiting}
use Rattle.state_wire.specs.Guest.{Meaning}
use Rattle.colo_wire.specs.declared.messages.Message.{Message}
use Rattle.out_compare.specs.Comparing.{Comparing}
use Rattle.node_secondary.specs.Node.{Held, Node, node_of}

-- a secondary that is alone; its own lines and the kept numbers stand in what it compares
pub record Survivor : Type 0 where
  pub guest : Meaning
  pub inbox : List Waiting
  pub comparing : Comparing

pub data Second : Type 0 where
  hears : Node → Second
  alone : Survivor → Second

abbrev pub second_with : Node → Option Comparing → Second
second_with n None = hears n
second_with n (Some x) = alone (record { guest = n.guest; inbox = n.inbox; comparing = x })

abbrev pub second_of : {G : Type 0} → (G → Meaning) → Held G → Second
second_of meaning held = second_with (node_of meaning held) held.alone

-- its guest, the frames that wait for it, and the messages that wait: a node alone has none
abbrev pub guest_of : Second → Meaning
guest_of (hears n) = n.guest
guest_of (alone n) = n.guest

abbrev pub inbox_of : Second → List Waiting
inbox_of (hears n) = n.inbox
inbox_of (alone n) = n.inbox

abbrev pub waits_of : Second → List Message
waits_of (hears n) = n.waits
waits_of (alone n) = []
