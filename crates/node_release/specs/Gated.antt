-- What becomes of a client frame at a node that releases: the one that is accepted and finds room
-- waits, with what its client has seen and how far it trims.
use Rattle.std.specs.Prelude.{◌≡◌, ℕ, true, if◌then◌else◌, List, [], ◌∷◌, Option, None, Some, ⊤}
use Rattle.inet_frame.specs.Counted.{tcp_in}
use Rattle.inet_frame.specs.Fields.{TcpFields}
use Rattle.tcp_track.specs.declared.openings.Opening.{Opening}
use Rattle.frame_mirror.specs.Accepted.{is_accepted}
use Rattle.frame_mirror.specs.Inboxes.{has_room}
use Rattle.frame_mirror.specs.declared.ingress.Entry.{Entry}
use Rattle.frame_mirror.specs.declared.ingress.Entry.TheVariants.{Frame, Answer, Drop}
use Rattle.frame_mirror.specs.declared.ring.Waiting.{Waiting}
use Rattle.colo_wire.specs.declared.answers.Gate.{Gate}
use Rattle.colo_wire.specs.declared.answers.Gate.TheVariants as gate
use Rattle.out_compare.specs.Comparing.{Comparing}
use Rattle.out_compare.specs.Look.{look, look_after}

-- what is answered, the frame as it waits, the comparer then, and what goes out
pub record Gated : Type 0 where
  pub answer : Gate
  pub waiting : Option Waiting
  pub comparing : Comparing
  pub out : List (List ℕ)

abbrev pub refused : Gate → Comparing → List (List ℕ) → Gated
refused why x out = record { answer = why; waiting = None; comparing = x; out = out }

-- what the client of a segment has seen, how far it trims, and the comparer then; an accepted frame
-- is a segment
abbrev pub seen_by : Comparing → Option TcpFields → Option Opening
seen_by x None = None
seen_by x (Some s) = (look x s).seen

abbrev pub trim_by : Comparing → Option TcpFields → ℕ
trim_by x None = 0
trim_by x (Some s) = (look x s).trim

abbrev pub looked_by : Comparing → Option TcpFields → Comparing
looked_by x None = x
looked_by x (Some s) = look_after x s

abbrev pub taken_by : Comparing → ℕ → List ℕ → Option TcpFields → Gated
taken_by x index frame t = record {
  answer = gate.Taken (seen_by x t) (trim_by x t);
  waiting = Some (record {
    index = index;
    seen = seen_by x t;
    trim = trim_by x t;
    frame = frame;
  });
  comparing = looked_by x t;
  out = [];
}

-- the room is tested before the look, which trims
unfoldable pub gated : Comparing → List Waiting → ℕ → Entry → Gated
gated x inbox index (Drop why) = refused (gate.Dropped why) x []
gated x inbox index (Answer reply) = refused gate.Answered x (reply ∷ [])
gated x inbox index (Frame frame) =
    if has_room inbox then taken_by x index frame (tcp_in frame) else refused gate.Full x []

-- a frame that waits is accepted as it is, and trims nothing where no opening was seen
pub record MayWait (w : Waiting) : Type 0 where
  pub accepted : is_accepted w.frame ≡ true
  pub untrimmed : w.seen ≡ None → w.trim ≡ 0

-- an entry that is a frame is one that is accepted
abbrev pub IsClean : Entry → Type 0
IsClean (Frame frame) = is_accepted frame ≡ true
IsClean (Answer reply) = ⊤
IsClean (Drop why) = ⊤
