-- The messages of a pair's log are those of `colo_wire`, with their numbers and spellings. Here
-- stand the number of a message's kind, and the message that holds an accepted frame.
use Rattle.std.specs.Prelude.{ℕ, List, Option}
use Rattle.tcp_track.specs.declared.openings.Opening.{Opening}
use Rattle.colo_wire.specs.Kinds.{number_of_kind}
use Rattle.colo_wire.specs.Spelling.{kind_of}
use Rattle.colo_wire.specs.declared.messages.Message.{Message}
use Rattle.colo_wire.specs.declared.messages.Message.TheVariants.{Frame}
use Rattle.frame_mirror.specs.declared.ring.Waiting.{Waiting}

-- the number of a message's kind
abbrev pub number_of : Message → ℕ
number_of m = number_of_kind (kind_of m)

-- an accepted frame, to the secondary
abbrev pub frame_message : Waiting → Message
frame_message w = Frame w.index w.seen w.trim w.frame

-- what such a message holds
abbrev pub waiting_in : ℕ → Option Opening → ℕ → List ℕ → Waiting
waiting_in index seen trim frame = record {
  index = index;
  seen = seen;
  trim = trim;
  frame = frame;
}
