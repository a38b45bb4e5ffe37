-- The run of a machine through the turns of a single run: a left fold over its state and the frames
-- that it has sent. Each turn is given the frame of the client stream that it names, clean, and
-- with the acknowledgement raised by what its client had seen.
use Rattle.std.specs.Prelude.{ℕ, Bool, List, [], fold, slice_get, unwrap_or, is_some, Option, None, Some}
use Rattle.std.specs.Option.{option_map}
use Rattle.frame_mirror.specs.Accepted.{entry_of}
use Rattle.frame_mirror.specs.declared.ingress.Entry.{Entry}
use Rattle.frame_mirror.specs.declared.ingress.Entry.TheVariants as entry
use Rattle.inet_build.specs.Edit.{clean_syn, shift_ack, update_checksum}
use Rattle.inet_build.specs.Options.{clean_options}
use Rattle.inet_frame.specs.Fields.{TcpFields}
use Rattle.inet_frame.specs.Frame.{seen_of}
use Rattle.inet_frame.specs.Options.{options_of}
use Rattle.replay_log.specs.declared.turns.Turn.{Turn}
use Rattle.replay_log.specs.declared.turns.TurnFrame.{TurnFrame}
use Rattle.replay_log.specs.declared.turns.TurnFrame.TheVariants as frame
use Rattle.seq_rewriter.specs.Given.{given_frame, raise_frame}
use Rattle.shared_definitions.specs.Overwrite.{overwrite}
use Rattle.state_wire.specs.Guest.{GuestTurn, Kind, turn_of}
use Rattle.state_wire.specs.Run.{Run, run_turn}
use Rattle.tcp_track.specs.Segments.{may_open}
use Rattle.tcp_track.specs.Stands.{opening_of, segments}
use Rattle.tcp_track.specs.declared.openings.Opening.{Opening}

-- the index of the frame that a turn names
abbrev pub frame_index : TurnFrame → Option ℕ
frame_index frame.Absent = None
frame_index (frame.Plain index) = Some index
frame_index (frame.Seen index opening) = Some index

-- the opening that its client had seen
abbrev pub frame_seen : TurnFrame → Option Opening
frame_seen frame.Absent = None
frame_seen (frame.Plain index) = None
frame_seen (frame.Seen index opening) = Some opening

-- a frame of the client stream; an empty one where it isn't there
abbrev pub stream_frame : List (List ℕ) → ℕ → List ℕ
stream_frame stream index = unwrap_or (slice_get stream index) []

-- what is kept of a frame that is accepted
abbrev pub kept_of : Entry → Option (List ℕ)
kept_of (entry.Frame kept) = Some kept
kept_of (entry.Answer reply) = None
kept_of (entry.Drop why) = None

abbrev pub kept_where : Option (List ℕ) → Option (List ℕ)
kept_where None = None
kept_where (Some b) = kept_of (entry_of b)

-- what is kept of this frame of the stream: none where it isn't there, or isn't accepted
unfoldable pub accepted_frame : List (List ℕ) → ℕ → Option (List ℕ)
unfolding entry_of clean_syn clean_options options_of update_checksum overwrite seen_of
accepted_frame stream index = kept_where (slice_get stream index)

abbrev pub is_accepted : List (List ℕ) → ℕ → Bool
is_accepted stream index = is_some (accepted_frame stream index)

-- the frame that a turn is given, where the guest has sent these segments
unfoldable pub given_to : List (List ℕ) → List TcpFields → TurnFrame → Option (List ℕ)
unfolding given_frame clean_syn clean_options options_of raise_frame shift_ack update_checksum
    overwrite seen_of opening_of may_open
given_to stream said f =
    option_map (λ i. given_frame (stream_frame stream i) (frame_seen f) said) (frame_index f)

abbrev pub given_turn : List (List ℕ) → List TcpFields → Turn → GuestTurn
given_turn stream said t = turn_of t.d (given_to stream said t.frame) t.b t.n

-- the run after one turn more
abbrev pub run_given : Kind → List (List ℕ) → Run → Turn → Run
run_given kind stream run t = run_turn kind run (given_turn stream (segments run.sent) t)

-- the run after these turns
unfoldable pub run_turns : Kind → List (List ℕ) → Run → List Turn → Run
run_turns kind stream run turns = fold (run_given kind stream) run turns
