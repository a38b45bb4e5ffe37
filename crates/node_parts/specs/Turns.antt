-- A turn of a node's guest: it is given the oldest frame that waits, where one is wanted and it can
-- receive, as its own numbering wants it.
use Rattle.std.specs.Prelude.{ℕ, Bool, true, false, ◌&&◌, List, [], ◌∷◌, Option, None, Some}
use Rattle.std.specs.Option.{option_map}
use Rattle.inet_frame.specs.Counted.{client_tuple_of, tcp_in}
use Rattle.inet_frame.specs.Fields.{TcpFields}
use Rattle.tcp_track.specs.Tracking.{Tracking, current_at}
use Rattle.tcp_track.specs.declared.openings.Opening.{Opening}
use Rattle.seq_rewriter.specs.Given.{raise_frame}
use Rattle.frame_mirror.specs.declared.ring.Waiting.{Waiting}
use Rattle.state_wire.specs.Guest.{GuestTurn, Meaning, turn_of}

-- by how much the clock goes on, whether a frame is wanted, block requests, steps
pub record Turn : Type 0 where
  pub ticks : ℕ
  pub wants : Bool
  pub requests : ℕ
  pub steps : ℕ

-- one is taken where it is wanted and the guest can receive
abbrev pub takes : Meaning → Bool → Bool
takes guest wants = wants && guest.kind.can_receive guest.state

-- the oldest one, and those that are left
abbrev pub taken_frame : Bool → List Waiting → Option Waiting
taken_frame false inbox = None
taken_frame true [] = None
taken_frame true (w ∷ inbox) = Some w

abbrev pub left_frames : Bool → List Waiting → List Waiting
left_frames false inbox = inbox
left_frames true [] = []
left_frames true (w ∷ inbox) = inbox

-- the guest's current opening of the frame's connection
abbrev pub current_for : Tracking → Option TcpFields → Option Opening
current_for lines None = None
current_for lines (Some t) = current_at lines (client_tuple_of t)

-- the frame as the guest's own numbering wants it
abbrev pub frame_for : Tracking → Waiting → List ℕ
frame_for lines w = raise_frame w.frame w.seen (current_for lines (tcp_in w.frame))

-- the turn of the guest that a node's turn makes
abbrev pub turn_for : Meaning → List Waiting → Tracking → Turn → GuestTurn
turn_for guest inbox lines t =
    turn_of t.ticks (option_map (frame_for lines) (taken_frame (takes guest t.wants) inbox))
    t.requests t.steps
