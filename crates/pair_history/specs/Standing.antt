-- What a pair of nodes as plain data stands for: a past of the theorem. Links, inboxes, counts and
-- guests are the same; each table stands for whole lists of frames. Of a node that stopped its
-- guest alone is said.
use Rattle.std.specs.Prelude.{◌≡◌, ◌≤◌, ℕ, Bool, true, false, List, [], length, Option, None, Some}
use Rattle.tcp_track.specs.Lines.{Item}
use Rattle.settle_rules.specs.Numbers.{KeptNumber}
use Rattle.frame_mirror.specs.Inboxes.{AreAccepted}
use Rattle.frame_mirror.specs.declared.ring.TheConstants.{INBOX_ROOM}
use Rattle.frame_mirror.specs.declared.ring.Waiting.{Waiting}
use Rattle.state_wire.specs.Guest.{Kind, Meaning}
use Rattle.colo_wire.specs.declared.messages.Message.{Message}
use Rattle.node_primary.specs.Node.{Primary}
use Rattle.node_secondary.specs.Node.{Node}
use Rattle.node_secondary.specs.Survivor.{Second, Survivor, alone, guest_of, hears}
use Rattle.pair_core.specs.Pair.{Pair, is_primary, is_secondary}
use Rattle.pair_core.specs.declared.node.Node as stopped
use Rattle.pair_core.specs.declared.node.Node.TheVariants as stopped_node
use Rattle.pair_theorem.specs.Past.{Copy, NodeRun, Past, Stop, no_stop, primary_stop, secondary_stop, secondary_releases}
use Rattle.settle_history.specs.Standing.{Books, SameNumbers, StandsFor, Tracks}
use Rattle.compare_history.specs.Books.{primary_books, survivor_books}
use Rattle.pair_history.specs.Due.{Due}

abbrev pub stop_of : Option stopped.Node → Stop
stop_of None = no_stop
stop_of (Some stopped_node.Primary) = primary_stop
stop_of (Some stopped_node.Secondary) = secondary_stop

-- the guest that made a run, and so many turns of its own
abbrev pub guest_in : Kind → NodeRun → ℕ → Meaning
guest_in kind node turned = record { kind = kind; state = node.run.state; turned = turned }

-- ---- the primary

pub record PrimaryHolds (books : Books) (waiting : List Waiting) (last : ℕ) (rests : Bool)
    (n : Primary) : Type 0 where
  pub inbox : n.inbox ≡ waiting
  pub room : length n.inbox ≤ INBOX_ROOM
  pub accepted : AreAccepted n.inbox
  pub compares : StandsFor books n.comparing
  pub captures : n.captures ≡ last
  pub awaits : n.awaits ≡ rests
  pub waits : n.waits ≡ []

abbrev pub PrimaryStands : Past → Primary → Type 0
PrimaryStands past n =
    PrimaryHolds (primary_books past) past.primary_inbox past.captures past.awaits_ack n

-- ---- the secondary, until a report of the primary's stop and then

pub record SecondaryHolds (kind : Kind) (items : List Item) (waiting : List Waiting)
    (kept : List KeptNumber) (copy : Copy) (last : ℕ) (link : List Message) (n : Node) : Type 0
  where
    pub inbox : n.inbox ≡ waiting
    pub lines : Tracks items n.lines
    pub numbers : SameNumbers kept n.numbers
    pub waits : n.waits ≡ []
    pub due : Due kind copy last n.committed n.under_way link

abbrev pub SecondaryStands : Kind → Past → Node → Type 0
SecondaryStands kind past n =
    SecondaryHolds kind past.secondary.items past.secondary_inbox past.secondary_numbers past.copy
    past.captures past.to_secondary n

pub record SurvivorHolds (books : Books) (waiting : List Waiting) (n : Survivor) : Type 0 where
  pub inbox : n.inbox ≡ waiting
  pub compares : StandsFor books n.comparing

abbrev pub SurvivorStands : Past → Survivor → Type 0
SurvivorStands past n = SurvivorHolds (survivor_books past) past.secondary_inbox n

abbrev pub SecondStands : Kind → Past → Second → Type 0
SecondStands kind past (hears n) = (past.is_reported ≡ false) × SecondaryStands kind past n
SecondStands kind past (alone n) = (secondary_releases past ≡ true) × SurvivorStands past n

-- ---- the pair, to which these frames come

pub record Stands (kind : Kind) (stream : List (List ℕ)) (past : Past) (w : Pair) : Type 0 where
  pub frames : w.frames ≡ stream
  pub next : w.next ≡ past.next
  pub down : w.down ≡ past.to_secondary
  pub up : w.up ≡ past.to_primary
  pub sent_heard : w.sent_heard ≡ past.sent_heard
  pub stop : past.stop ≡ stop_of w.stopped
  pub reported : w.is_reported ≡ past.is_reported
  pub first_guest : w.first.guest ≡ guest_in kind past.primary past.primary_turned
  pub second_guest : guest_of w.second ≡ guest_in kind past.secondary past.secondary_turned
  pub first : is_primary w.stopped ≡ false → PrimaryStands past w.first
  pub second : is_secondary w.stopped ≡ false → SecondStands kind past w.second
