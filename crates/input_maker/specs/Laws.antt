-- What holds of each input that a number makes.
use Rattle.std.specs.Prelude.{◌≡◌, ℕ, ◌/◌, ◌%◌, [], Some, true}
use Rattle.frame_mirror.specs.Accepted.{is_accepted}
use Rattle.inet_frame.specs.Counted.{tcp_in}
use Rattle.replay_log.specs.Texts.{IsSchedule}
use Rattle.sock_link.specs.Stream.{IsSplit, stream_of}
use Rattle.shared_definitions.specs.Bytes.{AreBytes}
use Rattle.input_maker.specs.Client.{client_fields, client_frame}
use Rattle.input_maker.specs.Made.{made_frames, made_lines, schedule_text}

-- its text is that of a schedule, of these lines
abbrev pub MakesSchedules : Type 0
MakesSchedules =
    (number turns : ℕ)
    → IsSchedule (made_lines number turns) (schedule_text (made_lines number turns))

-- the text is bytes, and the stream too
abbrev pub MakesBytes : Type 0
MakesBytes =
    (number turns : ℕ) → AreBytes (schedule_text (made_lines number turns))
    × AreBytes (stream_of (made_frames number turns))

-- its stream is whole records, of these frames
abbrev pub MakesStreams : Type 0
MakesStreams =
    (number turns : ℕ)
    → IsSplit (stream_of (made_frames number turns)) (made_frames number turns) []

-- a client's frame is bytes, is parsed as its step of its connection, and is accepted
pub record IsSent (index : ℕ) : Type 0 where
  pub bytes : AreBytes (client_frame index)
  pub parsed : tcp_in (client_frame index) ≡ Some (client_fields (index / 8) (index % 8))
  pub accepted : is_accepted (client_frame index) ≡ true

abbrev pub MakesFrames : Type 0
MakesFrames = (index : ℕ) → IsSent index
