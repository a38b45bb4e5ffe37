-- What holds of any frame, also of one that no call has in hand.
use Rattle.std.specs.Prelude.{◌≡◌, ℕ, ◌^◌, ◌<◌, ◌≤◌, List, length, Some, None}
use Rattle.inet_frame.specs.Arp.{reply_bytes}
use Rattle.shared_definitions.specs.Bytes.{AreBytes}
use Rattle.inet_frame.specs.Counted.{tcp_in}
use Rattle.inet_frame.specs.Fields.{TcpFields, ArpFields}

-- each field of a TCP segment is in its range (RFC 9293, 3.1)
pub record AreInRange (t : TcpFields) : Type 0 where
  pub dst_mac_len : length t.dst_mac ≡ 6
  pub dst_mac : AreBytes t.dst_mac
  pub src_mac_len : length t.src_mac ≡ 6
  pub src_mac : AreBytes t.src_mac
  pub src : t.src < 2 ^ 32
  pub dst : t.dst < 2 ^ 32
  pub sport : t.sport < 2 ^ 16
  pub dport : t.dport < 2 ^ 16
  pub seq : t.seq < 2 ^ 32
  pub ack : t.ack < 2 ^ 32
  pub flags : t.flags < 2 ^ 8
  pub window : t.window < 2 ^ 16
  pub options_len : length t.options ≤ 40
  pub options : AreBytes t.options
  pub payload_len : length t.payload ≤ 1460
  pub payload : AreBytes t.payload

-- the fields of a frame of bytes are in their ranges
abbrev pub FieldsFit : Type 0
FieldsFit = (b : List ℕ) (t : TcpFields) → AreBytes b → tcp_in b ≡ Some t → AreInRange t

-- a frame that is a TCP segment has 54 to 1,514 bytes
abbrev pub LengthFits : Type 0
LengthFits = (b : List ℕ) (t : TcpFields) → tcp_in b ≡ Some t → (54 ≤ length b) × (length b ≤ 1514)

-- the reply to an ARP request is no TCP segment
abbrev pub ReplyIsNoTcp : Type 0
ReplyIsNoTcp =
    (ask : ArpFields) (mac : List ℕ) → length ask.sender_mac ≡ 6 → length mac ≡ 6 →
    tcp_in (reply_bytes ask mac) ≡ None
