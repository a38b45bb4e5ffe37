-- The machine: its state, and a turn. The clock goes on, then a frame is received, then block
-- requests are served, then steps are made. The order is this project's own.
use Rattle.std.specs.Prelude.{ℕ, zero, suc, Option, Some, None, List}
use Rattle.state_wire.specs.Guest.{GuestTurn}
use Rattle.virtio_blk.specs.Disk.{DiskState}
use Rattle.rv_platform.specs.Step.{PlatformState, run_steps}
use Rattle.rv_platform.specs.Devices.{advance_clock, receive_frame, serve_block}

-- hart, CSRs with the timer, both devices and memory; and the sectors of the disk
pub record State : Type 0 where
  pub platform : PlatformState
  pub disk : DiskState

-- a frame is received, where there is one
abbrev pub receive : PlatformState → Option (List ℕ) → PlatformState
receive p None = p
receive p (Some frame) = receive_frame p frame

-- the next block request is served, where one is available
abbrev pub serve_request : State → State
serve_request s = let served = serve_block s.platform s.disk in
    record { platform = served.platform; disk = served.disk }

-- at most so many
unfoldable pub serve_requests : ℕ → State → State
serve_requests zero s = s
serve_requests (suc n) s = serve_request (serve_requests n s)

-- the state before a turn's steps
abbrev pub start_turn : State → ℕ → Option (List ℕ) → ℕ → State
start_turn s ticks frame requests = serve_requests requests
    (record s { platform = receive (advance_clock s.platform ticks) frame })

-- the state after a turn, and the frames that were sent in it
pub record Turned : Type 0 where
  pub state : State
  pub frames : List (List ℕ)

-- the steps of a turn
abbrev pub finish_turn : State → ℕ → Turned
finish_turn s steps = let ran = run_steps steps s.platform in
    record { state = record s { platform = ran.platform }; frames = ran.frames }

unfoldable pub make_turn : State → GuestTurn → Turned
make_turn s turn =
    finish_turn (start_turn s turn.ticks turn.frame turn.requests) turn.steps
