-- A secondary as plain data: its guest, what its guest has sent, the numbers that it keeps, the
-- frames and messages that wait, and what it has heard of a checkpoint that isn't whole yet.
use Rattle.std.specs.Prelude.{ℕ, Bool, true, false, IsTrue, List, Option, ⊤}
use Rattle.tcp_track.specs.Tracking.{Tracking}
use Rattle.seq_rewriter.specs.Kept.{KeptNumbers}
use Rattle.frame_mirror.specs.declared.ring.Waiting.{Waiting}
use Rattle.state_wire.specs.Guest.{Kind, Meaning}
use Rattle.colo_wire.specs.declared.messages.Message.{Message}
use Rattle.out_compare.specs.Comparing.{Comparing}
use Rattle.node_secondary.specs.declared.under_way.UnderWay.{UnderWay}
use Rattle.node_secondary.specs.declared.under_way.UnderWay.TheVariants.{Nothing, Begun, Heard}

-- a secondary with a guest of any type; `committed` is the number of the last checkpoint, 0 where
-- there was none; `alone` is what it compares once it is alone
pub record Held (G : Type 0) : Type 0 where
  pub guest : G
  pub inbox : List Waiting
  pub lines : Tracking
  pub numbers : KeptNumbers
  pub waits : List Message
  pub committed : ℕ
  pub under_way : UnderWay
  pub alone : Option Comparing
  pub spent : Bool

-- the same with what the guest means
pub record Node : Type 0 where
  pub guest : Meaning
  pub inbox : List Waiting
  pub lines : Tracking
  pub numbers : KeptNumbers
  pub waits : List Message
  pub committed : ℕ
  pub under_way : UnderWay

abbrev pub node_of : {G : Type 0} → (G → Meaning) → Held G → Node
node_of meaning held = record {
  guest = meaning held.guest;
  inbox = held.inbox;
  lines = held.lines;
  numbers = held.numbers;
  waits = held.waits;
  committed = held.committed;
  under_way = held.under_way;
}

-- a checkpoint has begun that isn't whole yet
abbrev pub is_under_way : UnderWay → Bool
is_under_way Nothing = false
is_under_way Begun = true
is_under_way (Heard kept) = true

-- guests of the kind accept the state that was heard
abbrev pub IsLoadable : Kind → UnderWay → Type 0
IsLoadable kind Nothing = ⊤
IsLoadable kind Begun = ⊤
IsLoadable kind (Heard kept) = IsTrue (kind.accepts kept.state)
