-- A pair as plain data: both nodes, the messages on their way between them, the client's frames,
-- and what the schedule has done.
use Rattle.std.specs.Prelude.{ℕ, Bool, true, false, if◌then◌else◌, List, [], ◌++◌, Option, None, Some}
use Rattle.state_wire.specs.Guest.{Meaning}
use Rattle.colo_wire.specs.declared.messages.Message.{Message}
use Rattle.out_compare.specs.Comparing.{nothing_compared}
use Rattle.tcp_track.specs.Tracking.{nothing_tracked}
use Rattle.node_primary.specs.Node as primary
use Rattle.node_secondary.specs.Node as secondary
use Rattle.node_secondary.specs.Survivor.{Second, alone, hears, second_of}
use Rattle.node_secondary.specs.declared.under_way.UnderWay.TheVariants.{Nothing}
use Rattle.pair_core.specs.declared.node.Node.{Node}
use Rattle.pair_core.specs.declared.node.Node.TheVariants.{Primary, Secondary}

-- a pair with guests of any type; `next` is the index of the client's frame that comes next,
-- `stopped` the node that stopped, `sent_heard` counts the frames of the secondary's guest that the
-- primary heard of since the last acknowledgement, and `steps` the events so far
pub record Held (G : Type 0) : Type 0 where
  pub first : primary.Held G
  pub second : secondary.Held G
  pub down : List Message
  pub up : List Message
  pub frames : List (List ℕ)
  pub next : ℕ
  pub stopped : Option Node
  pub is_reported : Bool
  pub sent_heard : ℕ
  pub steps : ℕ
  pub spent : Bool

-- the same with what the guests mean
pub record Pair : Type 0 where
  pub first : primary.Primary
  pub second : Second
  pub down : List Message
  pub up : List Message
  pub frames : List (List ℕ)
  pub next : ℕ
  pub stopped : Option Node
  pub is_reported : Bool
  pub sent_heard : ℕ

abbrev pub pair_of : {G : Type 0} → (G → Meaning) → Held G → Pair
pair_of meaning held = record {
  first = primary.primary_of meaning held.first;
  second = second_of meaning held.second;
  down = held.down;
  up = held.up;
  frames = held.frames;
  next = held.next;
  stopped = held.stopped;
  is_reported = held.is_reported;
  sent_heard = held.sent_heard;
}

-- two nodes that have heard and sent nothing
abbrev pub new_first : Meaning → primary.Primary
new_first guest = record {
  guest = guest;
  inbox = [];
  comparing = nothing_compared;
  waits = [];
  captures = 0;
  awaits = false;
}

abbrev pub new_second : Meaning → Second
new_second guest = hears (record {
  guest = guest;
  inbox = [];
  lines = nothing_tracked;
  numbers = [];
  waits = [];
  committed = 0;
  under_way = Nothing;
})

-- a pair of which no event has happened yet
abbrev pub new_pair : Meaning → Meaning → Pair
new_pair first second = record {
  first = new_first first;
  second = new_second second;
  down = [];
  up = [];
  frames = [];
  next = 0;
  stopped = None;
  is_reported = false;
  sent_heard = 0;
}

-- which node stopped
abbrev pub is_primary : Option Node → Bool
is_primary None = false
is_primary (Some Primary) = true
is_primary (Some Secondary) = false

abbrev pub is_secondary : Option Node → Bool
is_secondary None = false
is_secondary (Some Primary) = false
is_secondary (Some Secondary) = true

-- the guest of the node that survives
abbrev pub survivor : {G : Type 0} → Held G → G
survivor held = if is_primary held.stopped then held.second.guest else held.first.guest

-- ---- the links

-- what the primary has put goes on the link to the secondary
abbrev pub sent_down : Pair → Pair
sent_down w = record w {
  first = record w.first { waits = [] };
  down = w.down ++ w.first.waits;
}

-- what the secondary has put goes on the link to the primary; a node alone puts nothing
abbrev pub put_up : Second → List Message
put_up (hears n) = n.waits
put_up (alone n) = []

abbrev pub emptied : Second → Second
emptied (hears n) = hears (record n { waits = [] })
emptied (alone n) = alone n

abbrev pub sent_up : Pair → Pair
sent_up w = record w { second = emptied w.second; up = w.up ++ put_up w.second }
