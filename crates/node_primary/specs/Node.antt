-- A primary as plain data: its guest, the frames that wait for it, what it compares, the messages
-- that wait, and the checkpoint that it captured last.
use Rattle.std.specs.Prelude.{ℕ, Bool, IsTrue, List}
use Rattle.frame_mirror.specs.declared.ring.Waiting.{Waiting}
use Rattle.state_wire.specs.Guest.{Meaning}
use Rattle.colo_wire.specs.declared.messages.Message.{Message}
use Rattle.checkpoint_capture.specs.Sizes.{HaveSize}
use Rattle.out_compare.specs.Comparing.{Comparing}

-- a primary with a guest of any type; `captures` is the number of the last capture, 0 where there
-- was none, and `awaits` says whether its acknowledgement is still to come
pub record Held (G : Type 0) : Type 0 where
  pub guest : G
  pub inbox : List Waiting
  pub comparing : Comparing
  pub waits : List Message
  pub captures : ℕ
  pub awaits : Bool
  pub spent : Bool

-- the same with what the guest means
pub record Primary : Type 0 where
  pub guest : Meaning
  pub inbox : List Waiting
  pub comparing : Comparing
  pub waits : List Message
  pub captures : ℕ
  pub awaits : Bool

abbrev pub primary_of : {G : Type 0} → (G → Meaning) → Held G → Primary
primary_of meaning held = record {
  guest = meaning held.guest;
  inbox = held.inbox;
  comparing = held.comparing;
  waits = held.waits;
  captures = held.captures;
  awaits = held.awaits;
}

-- the guest's state was captured: guests of the kind accept its bytes, and its parts have their
-- sizes
pub record IsCaptured (g : Meaning) : Type 0 where
  pub accepted : IsTrue (g.kind.accepts g.state.bytes)
  pub pages : HaveSize 4096 g.state.pages
  pub sectors : HaveSize 512 g.state.sectors
