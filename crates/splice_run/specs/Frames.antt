-- The client frames that a log names, and the opening that the sender of each had seen.
use Rattle.std.specs.Prelude.{ℕ, Option, Some, None, List, [], ◌∷◌, ◌==◌, if◌then◌else◌}
use Rattle.tcp_track.specs.declared.openings.Opening.{Opening}
use Rattle.replay_log.specs.declared.lines.Line.{Line}
use Rattle.replay_log.specs.declared.lines.Line.TheVariants as line
use Rattle.replay_log.specs.declared.records.Answer.{Answer}
use Rattle.replay_log.specs.declared.records.Answer.TheVariants as answer
use Rattle.replay_log.specs.declared.records.Record.{Record}
use Rattle.replay_log.specs.declared.turns.Turn.{Turn}
use Rattle.replay_log.specs.declared.turns.TurnFrame.{TurnFrame}
use Rattle.replay_log.specs.declared.turns.TurnFrame.TheVariants as frame
use Rattle.splice_run.specs.declared.seen.ClientFrame.{ClientFrame}
use Rattle.splice_run.specs.Tokens.{Taken}

-- the frame that an answer names
abbrev pub answer_frame : Answer → Option ClientFrame
answer_frame answer.Nothing = None
answer_frame (answer.Made taken released) = None
answer_frame (answer.Accepted index seen trim released) = Some
    (record { index = index; seen = seen })
answer_frame (answer.Arp index) = Some (record { index = index; seen = None })
answer_frame (answer.Dropped index why) = Some (record { index = index; seen = None })
answer_frame (answer.Full index) = Some (record { index = index; seen = None })
answer_frame (answer.Lost index) = Some (record { index = index; seen = None })
answer_frame (answer.Heard kind full) = None
answer_frame (answer.HeardBack kind sent released) = None
answer_frame answer.Zero = None
answer_frame (answer.Reported released) = None

-- the frame of a client event; None for other events, and where no frame came
abbrev pub event_frame : Line → Option ClientFrame → Option ClientFrame
event_frame (line.Primary d i b n) named = None
event_frame (line.Secondary d i b n) named = None
event_frame line.Client named = named
event_frame line.ToSecondary named = None
event_frame line.ToPrimary named = None
event_frame line.StopPrimary named = None
event_frame line.StopSecondary named = None
event_frame line.Report named = None
event_frame line.Ask named = None

abbrev pub client_frame : Record → Option ClientFrame
client_frame r = event_frame r.line (answer_frame r.answer)

-- what an event says of the frame of an index, before what later ones say
abbrev pub seen_first : Option ClientFrame → ℕ → Option (Option Opening) → Option (Option Opening)
seen_first None index later = later
seen_first (Some f) index later = if f.index == index then Some f.seen else later

-- of several client events of one index the first counts
abbrev pub seen_before : List Record → ℕ → Option (Option Opening) → Option (Option Opening)
seen_before [] index later = later
seen_before (r ∷ log) index later = seen_first (client_frame r) index (seen_before log index later)

unfoldable pub seen_in : List Record → ℕ → Option (Option Opening)
seen_in log index = seen_before log index None

-- the frame of a turn: with the opening, where a client event names one
abbrev pub frame_with : ℕ → Option (Option Opening) → TurnFrame
frame_with index None = frame.Plain index
frame_with index (Some None) = frame.Plain index
frame_with index (Some (Some opening)) = frame.Seen index opening

abbrev pub taken_frame : (ℕ → Option (Option Opening)) → Option ℕ → TurnFrame
taken_frame seen None = frame.Absent
taken_frame seen (Some index) = frame_with index (seen index)

-- a turn that a log names, with its frame
abbrev pub turn_with : (ℕ → Option (Option Opening)) → Taken → Turn
turn_with seen t =
    record { d = t.clock; frame = taken_frame seen t.index; b = t.blocks; n = t.steps }
