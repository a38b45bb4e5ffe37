-- What is known of the secondary: a front of what it sent, and all of it with what is on its way.
use Rattle.std.specs.Prelude.{◌≡◌, Bool, true, false, if◌then◌else◌, List, [], ◌∷◌, ◌++◌, Option, None}
use Rattle.std.specs.List.{filter_map, list_any}
use Rattle.inet_frame.specs.Counted.{counted}
use Rattle.inet_frame.specs.Fields.{TcpFields}
use Rattle.tcp_track.specs.Lines.{sent_of}
use Rattle.colo_wire.specs.declared.messages.Message.{Message}
use Rattle.colo_wire.specs.declared.messages.Message.TheVariants.{Sent}
use Rattle.replay_log.specs.declared.lines.Line.{Line}
use Rattle.pair_theorem.specs.Events.{is_ack_message}
use Rattle.pair_theorem.specs.History.{pair_log, past_at}
use Rattle.pair_theorem.specs.Log.{HasOneStop}
use Rattle.pair_theorem.specs.Past.{Past, Start}

-- the segments that the secondary tells of, on the link to the primary
abbrev pub segment_told : Message → Option TcpFields
segment_told (Sent frame) = counted frame
segment_told _ = None

abbrev pub segments_on : List Message → List TcpFields
segments_on messages = filter_map segment_told messages

-- whether an acknowledgement is on the link, and what stands behind the first
abbrev pub has_ack : List Message → Bool
has_ack messages = list_any is_ack_message messages

abbrev pub after_ack : List Message → List Message
after_ack [] = []
after_ack (m ∷ messages) = if is_ack_message m then messages else after_ack messages

abbrev pub IsFrontOf : List TcpFields → List TcpFields → Type 0
IsFrontOf known sent = (more : List TcpFields) × (sent ≡ known ++ more)

-- Whether a checkpoint is awaited; what the primary knows that the secondary sent, what it did
-- send, what the last capture had sent; and the link to the primary.
pub record IsKnown (awaits : Bool) (known sent copy : List TcpFields)
    (link : List Message) : Type 0 where
  pub whole : awaits ≡ false → known ++ segments_on link ≡ sent
  pub front : has_ack link ≡ false → IsFrontOf known sent
  pub copied : has_ack link ≡ true → copy ++ segments_on (after_ack link) ≡ sent

-- until a report
abbrev pub KnowsSecondary : Past → Type 0
KnowsSecondary past =
    past.is_reported ≡ false
    → IsKnown past.awaits_ack (sent_of past.known_items) (sent_of past.secondary.items)
    (sent_of past.copy.run.items) past.to_primary

-- on every schedule with at most one stop
abbrev pub SecondaryIsKnown : Type 0
SecondaryIsKnown =
    (a : Start) (lines : List Line) → HasOneStop lines
    → KnowsSecondary (past_at a (pair_log a lines))
