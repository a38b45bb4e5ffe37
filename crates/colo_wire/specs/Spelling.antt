-- The spelling of each message: its kind in one byte, the length of its body in four, and the
-- body. Numbers are big-endian, the order of bytes in Internet protocols (RFC 1700, data
-- notations).
use Rattle.std.specs.Prelude.{◌≡◌, ℕ, ◌<◌, ◌^◌, true, IfSome, List, [], ◌∷◌, ◌++◌, length, Option, Some, None}
use Rattle.std.specs.Int.{w16, w32, w64, to_be_bytes}
use Rattle.shared_definitions.specs.Bytes.{AreBytes}
use Rattle.inet_frame.specs.declared.tuple.Tuple.{Tuple}
use Rattle.tcp_track.specs.declared.openings.Opening.{Opening}
use Rattle.colo_wire.specs.Forms.{lengths_of, places_of}
use Rattle.colo_wire.specs.Kinds.{number_of_kind}
use Rattle.colo_wire.specs.Lengths.{AllowsLength}
use Rattle.colo_wire.specs.Places.{follows}
use Rattle.colo_wire.specs.declared.kinds.Kind.{Kind}
use Rattle.colo_wire.specs.declared.kinds.Kind.TheVariants as kind
use Rattle.colo_wire.specs.declared.messages.Message.{Message}
use Rattle.colo_wire.specs.declared.messages.Message.TheVariants.{Frame, Number, Begin, State, Page, Disk, Write, Held, Line, Bytes, End, Known, Sent, Ack}

abbrev pub kind_of : Message → Kind
kind_of (Frame index seen trim frame) = kind.Frame
kind_of (Number tuple client number) = kind.Number
kind_of (Begin e) = kind.Begin
kind_of (State bytes) = kind.State
kind_of (Page k bytes) = kind.Page
kind_of (Disk first bytes) = kind.Disk
kind_of (Write k bytes) = kind.Write
kind_of (Held index seen trim frame) = kind.Held
kind_of (Line tuple mac flags client own number refused acked window mss base) = kind.Line
kind_of (Bytes bytes) = kind.Bytes
kind_of (End e) = kind.End
kind_of (Known tuple client number) = kind.Known
kind_of (Sent frame) = kind.Sent
kind_of (Ack e) = kind.Ack

abbrev pub tuple_bytes : Tuple → List ℕ
tuple_bytes t = to_be_bytes w32 t.addr ++ (to_be_bytes w16 t.port ++ to_be_bytes w16 t.guest)

-- 1 and the opening's two numbers; 0 in all nine bytes where none was seen
abbrev pub seen_bytes : Option Opening → List ℕ
seen_bytes None = 0 ∷ (to_be_bytes w32 0 ++ to_be_bytes w32 0)
seen_bytes (Some o) = 1 ∷ (to_be_bytes w32 o.client ++ to_be_bytes w32 o.own)

unfoldable pub waiting_body : ℕ → Option Opening → ℕ → List ℕ → List ℕ
waiting_body index seen trim frame =
    to_be_bytes w64 index ++ (seen_bytes seen ++ (to_be_bytes w32 trim ++ frame))

unfoldable pub number_body : Tuple → ℕ → ℕ → List ℕ
number_body tuple client number =
    tuple_bytes tuple ++ (to_be_bytes w32 client ++ to_be_bytes w32 number)

-- a line: its tuple, MAC and flags; its sequence numbers; acknowledgement, window, MSS and base
unfoldable pub line_front : Tuple → List ℕ → ℕ → List ℕ
line_front tuple mac flags = tuple_bytes tuple ++ (mac ++ (flags ∷ []))

unfoldable pub line_numbers : ℕ → ℕ → ℕ → ℕ → List ℕ
line_numbers client own number refused =
    to_be_bytes w32 client ++ (to_be_bytes w32 own
    ++ (to_be_bytes w32 number ++ to_be_bytes w32 refused))

unfoldable pub line_rest : ℕ → ℕ → ℕ → ℕ → List ℕ
line_rest acked window mss base =
    to_be_bytes w32 acked ++ (to_be_bytes w16 window
    ++ (to_be_bytes w16 mss ++ to_be_bytes w32 base))

abbrev pub body_of : Message → List ℕ
body_of (Frame index seen trim frame) = waiting_body index seen trim frame
body_of (Number tuple client number) = number_body tuple client number
body_of (Begin e) = to_be_bytes w32 e
body_of (State bytes) = bytes
body_of (Page k bytes) = to_be_bytes w32 k ++ bytes
body_of (Disk first bytes) = to_be_bytes w32 first ++ bytes
body_of (Write k bytes) = to_be_bytes w32 k ++ bytes
body_of (Held index seen trim frame) = waiting_body index seen trim frame
body_of (Line tuple mac flags client own number refused acked window mss base) =
    line_front tuple mac flags ++ (line_numbers client own number refused
    ++ line_rest acked window mss base)
body_of (Bytes bytes) = bytes
body_of (End e) = to_be_bytes w32 e
body_of (Known tuple client number) = number_body tuple client number
body_of (Sent frame) = frame
body_of (Ack e) = to_be_bytes w32 e

unfoldable pub message_bytes : Message → List ℕ
message_bytes m =
    number_of_kind (kind_of m) ∷ (to_be_bytes w32 (length (body_of m)) ++ body_of m)

-- the message has a spelling: its body is as long as its kind allows, and may stand at the kind's
-- places
pub record HasSpelling (m : Message) : Type 0 where
  pub length : AllowsLength (lengths_of (kind_of m)) (length (body_of m))
  pub places : follows (places_of (kind_of m)) 0 (body_of m) ≡ true

-- ---- the numbers are in the ranges of their types, as those of each message of a program are

pub record IsTuple (t : Tuple) : Type 0 where
  pub addr : t.addr < 2 ^ 32
  pub port : t.port < 2 ^ 16
  pub guest : t.guest < 2 ^ 16

pub record IsOpening (o : Opening) : Type 0 where
  pub client : o.client < 2 ^ 32
  pub own : o.own < 2 ^ 32

pub record IsWaiting (index : ℕ) (seen : Option Opening) (trim : ℕ) (frame : List ℕ) : Type 0 where
  pub index_fits : index < 2 ^ 64
  pub seen_fits : IfSome seen IsOpening
  pub trim_fits : trim < 2 ^ 32
  pub frame_fits : AreBytes frame

pub record IsNumber (tuple : Tuple) (client number : ℕ) : Type 0 where
  pub tuple_fits : IsTuple tuple
  pub client_fits : client < 2 ^ 32
  pub number_fits : number < 2 ^ 32

pub record IsPart (k : ℕ) (bytes : List ℕ) : Type 0 where
  pub k_fits : k < 2 ^ 32
  pub bytes_fits : AreBytes bytes

pub record IsLineFront (tuple : Tuple) (mac : List ℕ) (flags : ℕ) : Type 0 where
  pub tuple_fits : IsTuple tuple
  pub mac_fits : AreBytes mac
  pub mac_length : length mac ≡ 6
  pub flags_fits : flags < 2 ^ 8

pub record AreLineNumbers (client own number refused : ℕ) : Type 0 where
  pub client_fits : client < 2 ^ 32
  pub own_fits : own < 2 ^ 32
  pub number_fits : number < 2 ^ 32
  pub refused_fits : refused < 2 ^ 32

pub record IsLineRest (acked window mss base : ℕ) : Type 0 where
  pub acked_fits : acked < 2 ^ 32
  pub window_fits : window < 2 ^ 16
  pub mss_fits : mss < 2 ^ 16
  pub base_fits : base < 2 ^ 32

abbrev pub IsInRange : Message → Type 0
IsInRange (Frame index seen trim frame) = IsWaiting index seen trim frame
IsInRange (Number tuple client number) = IsNumber tuple client number
IsInRange (Begin e) = e < 2 ^ 32
IsInRange (State bytes) = AreBytes bytes
IsInRange (Page k bytes) = IsPart k bytes
IsInRange (Disk first bytes) = IsPart first bytes
IsInRange (Write k bytes) = IsPart k bytes
IsInRange (Held index seen trim frame) = IsWaiting index seen trim frame
IsInRange (Line tuple mac flags client own number refused acked window mss base) =
    IsLineFront tuple mac flags × AreLineNumbers client own number refused
    × IsLineRest acked window mss base
IsInRange (Bytes bytes) = AreBytes bytes
IsInRange (End e) = e < 2 ^ 32
IsInRange (Known tuple client number) = IsNumber tuple client number
IsInRange (Sent frame) = AreBytes frame
IsInRange (Ack e) = e < 2 ^ 32

-- a message that can come
pub record IsMessage (m : Message) : Type 0 where
  pub spelled : HasSpelling m
  pub ranges : IsInRange m
