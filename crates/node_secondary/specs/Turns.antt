-- A turn of a secondary: its guest makes one, what it sends is followed, and goes to the primary
-- where it counts.
use Rattle.std.specs.Prelude.{ℕ, is_some, if◌then◌else◌, List, [], ◌∷◌, ◌++◌, fold, Option}
use Rattle.std.specs.List.{flat_map}
use Rattle.inet_frame.specs.Counted.{counted}
use Rattle.tcp_track.specs.Tracking.{taken}
use Rattle.frame_mirror.specs.declared.ring.Waiting.{Waiting}
use Rattle.state_wire.specs.Guest.{GuestTurn, after_turn, sent_in}
use Rattle.colo_wire.specs.declared.messages.Message.{Message}
use Rattle.colo_wire.specs.declared.messages.Message.TheVariants.{Sent}
use Rattle.node_parts.specs.Turns.{Turn, left_frames, taken_frame, takes, turn_for}
use Rattle.node_secondary.specs.Node.{Node}

-- a message for a frame that counts
abbrev pub sent_message : List ℕ → List Message
sent_message frame = if is_some (counted frame) then Sent frame ∷ [] else []

abbrev pub sent_messages : List (List ℕ) → List Message
sent_messages frames = flat_map sent_message frames

abbrev pub frame_taken : Node → Turn → Option Waiting
frame_taken n t = taken_frame (takes n.guest t.wants) n.inbox

abbrev pub guest_turn : Node → Turn → GuestTurn
guest_turn n t = turn_for n.guest n.inbox n.lines t

-- what a turn leaves
unfoldable pub make_turn : Node → Turn → Node
make_turn n t =
    let sent = sent_in n.guest (guest_turn n t) in
    record n {
      guest = after_turn n.guest (guest_turn n t);
      inbox = left_frames (takes n.guest t.wants) n.inbox;
      lines = fold taken n.lines sent;
      waits = n.waits ++ sent_messages sent;
    }
