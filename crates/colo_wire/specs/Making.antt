-- The message that a body spells, number by number.
use Rattle.std.specs.Prelude.{ℕ, ◌==◌, if◌then◌else◌, List, drop, Option, Some, None, slice_index, take}
use Rattle.std.specs.Int.{Width, w16, w32, w64, byte_len, from_be_bytes}
use Rattle.inet_frame.specs.declared.tuple.Tuple.{Tuple}
use Rattle.tcp_track.specs.declared.openings.Opening.{Opening}
use Rattle.colo_wire.specs.declared.kinds.Kind.{Kind}
use Rattle.colo_wire.specs.declared.kinds.Kind.TheVariants as kind
use Rattle.colo_wire.specs.declared.messages.Message.{Message}
use Rattle.colo_wire.specs.declared.messages.Message.TheVariants.{Frame, Number, Begin, State, Page, Disk, Write, Held, Line, Bytes, End, Known, Sent, Ack}

-- the number that stands at a place
unfoldable pub number_at : Width → ℕ → List ℕ → ℕ
number_at w at body = from_be_bytes w (take (byte_len w) (drop at body))

unfoldable pub tuple_in : List ℕ → Tuple
tuple_in body = record {
  addr = number_at w32 0 body;
  port = number_at w16 4 body;
  guest = number_at w16 6 body;
}

-- of the bytes from has-seen on
unfoldable pub seen_in : List ℕ → Option Opening
seen_in part =
    if slice_index part 0 == 0 then None
    else Some (record { client = number_at w32 1 part; own = number_at w32 5 part })

unfoldable pub line_in : List ℕ → Message
line_in body =
    Line (tuple_in body) (take 6 (drop 8 body)) (slice_index body 14) (number_at w32 15 body)
    (number_at w32 19 body) (number_at w32 23 body) (number_at w32 27 body)
    (number_at w32 31 body) (number_at w16 35 body) (number_at w16 37 body)
    (number_at w32 39 body)

abbrev pub message_in : Kind → List ℕ → Message
message_in kind.Frame body =
    Frame (number_at w64 0 body) (seen_in (drop 8 body)) (number_at w32 17 body) (drop 21 body)
message_in kind.Number body = Number (tuple_in body) (number_at w32 8 body) (number_at w32 12 body)
message_in kind.Begin body = Begin (number_at w32 0 body)
message_in kind.State body = State body
message_in kind.Page body = Page (number_at w32 0 body) (drop 4 body)
message_in kind.Disk body = Disk (number_at w32 0 body) (drop 4 body)
message_in kind.Write body = Write (number_at w32 0 body) (drop 4 body)
message_in kind.Held body =
    Held (number_at w64 0 body) (seen_in (drop 8 body)) (number_at w32 17 body) (drop 21 body)
message_in kind.Line body = line_in body
message_in kind.Bytes body = Bytes body
message_in kind.End body = End (number_at w32 0 body)
message_in kind.Known body = Known (tuple_in body) (number_at w32 8 body) (number_at w32 12 body)
message_in kind.Sent body = Sent body
message_in kind.Ack body = Ack (number_at w32 0 body)
