-- What holds of frames that are built or edited, also where no call has one in hand.
use Rattle.std.specs.Prelude.{◌≡◌, ℕ, List, length, Some}
use Rattle.inet_frame.specs.Arp.{reply_bytes}
use Rattle.shared_definitions.specs.Bytes.{AreBytes}
use Rattle.inet_frame.specs.Counted.{tcp_in, guest_mac}
use Rattle.inet_frame.specs.Fields.{TcpFields, arp_fields}
use Rattle.inet_build.specs.Edit.{shift_ack, clean_syn, shift_ack_fields, clean_syn_fields}
use Rattle.inet_build.specs.Segment.{segment_bytes, fields_of, IsBuildable}
use Rattle.inet_build.specs.declared.fields.Segment.{Segment}

-- a segment that is built has the fields and the payload that it is built of
abbrev pub ReadsBack : Type 0
ReadsBack =
    (s : Segment) (payload : List ℕ) → IsBuildable s payload →
    tcp_in (segment_bytes s payload) ≡ Some (fields_of s payload)

-- no two segments are built as the same bytes
abbrev pub IsOneSegment : Type 0
IsOneSegment =
    (s other : Segment) (payload others : List ℕ) → IsBuildable s payload →
    IsBuildable other others → segment_bytes s payload ≡ segment_bytes other others →
    (s ≡ other) × (payload ≡ others)

-- a segment that is built is bytes
abbrev pub BuildsBytes : Type 0
BuildsBytes =
    (s : Segment) (payload : List ℕ) → IsBuildable s payload → AreBytes (segment_bytes s payload)

-- a clean frame is bytes
abbrev pub CleansBytes : Type 0
CleansBytes = (b : List ℕ) → AreBytes b → AreBytes (clean_syn b)

-- a frame with a raised acknowledgement is bytes
abbrev pub ShiftsBytes : Type 0
ShiftsBytes = (b : List ℕ) (by : ℕ) → AreBytes b → AreBytes (shift_ack b by)

-- a clean frame parses, with all but its options unchanged
abbrev pub CleansOptions : Type 0
CleansOptions =
    (b : List ℕ) (t : TcpFields) → AreBytes b → tcp_in b ≡ Some t →
    (tcp_in (clean_syn b) ≡ Some (clean_syn_fields t)) × (length (clean_syn b) ≡ length b)

-- a frame with a raised acknowledgement parses, with all else unchanged
abbrev pub ShiftsAck : Type 0
ShiftsAck =
    (b : List ℕ) (by : ℕ) (t : TcpFields) → AreBytes b → tcp_in b ≡ Some t →
    (tcp_in (shift_ack b by) ≡ Some (shift_ack_fields by t))
    × (length (shift_ack b by) ≡ length b)

-- the reply to an ARP request is bytes
abbrev pub RepliesBytes : Type 0
RepliesBytes = (b : List ℕ) → AreBytes b → AreBytes (reply_bytes (arp_fields b) guest_mac)
