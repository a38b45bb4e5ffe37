-- Edited frames and replies to ARP requests, over the fields that were parsed.
use Rattle.std.proofs.Common.{◌≡◌, ℕ, List, ◌++◌, length, Some, ap, ◌∙◌, arith}
use Rattle.std.specs.Int.{w32, to_be_bytes}
use Rattle.std.specs.List.{slice_range}
use Rattle.inet_frame.specs.Arp.{reply_head, reply_bytes}
use Rattle.shared_definitions.specs.Bytes.{AreBytes}
use Rattle.inet_frame.specs.Counted.{tcp_in, guest_mac}
use Rattle.inet_frame.specs.Fields.{TcpFields, arp_fields}
use Rattle.inet_frame.specs.Place.{be32_at}
use Rattle.shared_definitions.proofs.ByteLemmas.{bytes_from, four_bytes, AreBytes-append, AreBytes-range}
use Rattle.shared_definitions.proofs.FactLemmas.{◌&◌}
use Rattle.inet_frame.proofs.FrameLemmas.{tcp_in_facts}
use Rattle.inet_build.proofs.CleanLemmas.{clean_syn_parses, length-clean_syn}
use Rattle.inet_build.proofs.EditLemmas.{shift_ack_parses, length-shift_ack}
use Rattle.inet_build.specs.Edit.{shift_ack, clean_syn, shift_ack_fields, clean_syn_fields}

pub clean_keeps : (b : List ℕ) (t : TcpFields) → AreBytes b → tcp_in b ≡ Some t →
    (tcp_in (clean_syn b) ≡ Some (clean_syn_fields t)) × (length (clean_syn b) ≡ length b)
clean_keeps b t bytes is =
    let facts = tcp_in_facts b t is in (
      clean_syn_parses b facts.0 bytes ∙ ap (λ (u : TcpFields). Some (clean_syn_fields u)) facts.1,
      length-clean_syn b facts.0,
    )

pub shift_keeps : (b : List ℕ) (by : ℕ) (t : TcpFields) → AreBytes b → tcp_in b ≡ Some t →
    (tcp_in (shift_ack b by) ≡ Some (shift_ack_fields by t)) × (length (shift_ack b by) ≡ length b)
shift_keeps b by t bytes is =
    let facts = tcp_in_facts b t is in (
      shift_ack_parses b by facts.0 bytes ∙ ap (λ (u : TcpFields). Some (shift_ack_fields by u)) facts.1,
      length-shift_ack b by facts.0,
    )

mac_bytes : AreBytes guest_mac
mac_bytes = bytes_from guest_mac
    ((omega arith) & (omega arith) & (omega arith) & (omega arith) & (omega arith) & (omega arith) & tt)

head_bytes : AreBytes reply_head
head_bytes = bytes_from reply_head
    ((omega arith) & (omega arith) & (omega arith) & (omega arith) & (omega arith) &
    (omega arith) & (omega arith) & (omega arith) & (omega arith) & (omega arith) & tt)

-- the reply's parts, one after another
pub reply_bytes_are : (b : List ℕ) → AreBytes b → AreBytes (reply_bytes (arp_fields b) guest_mac)
reply_bytes_are b bytes =
    let asker = slice_range b 22 28 in
    let asker_bytes = AreBytes-range b 22 28 bytes in
    let target = to_be_bytes w32 (be32_at b 38) in
    AreBytes-append (asker ++ guest_mac ++ reply_head ++ guest_mac ++ target ++ asker) (to_be_bytes w32 (be32_at b 28))
    (AreBytes-append (asker ++ guest_mac ++ reply_head ++ guest_mac ++ target) asker
    (AreBytes-append (asker ++ guest_mac ++ reply_head ++ guest_mac) target
    (AreBytes-append (asker ++ guest_mac ++ reply_head) guest_mac
    (AreBytes-append (asker ++ guest_mac) reply_head (AreBytes-append asker guest_mac asker_bytes mac_bytes) head_bytes)
    mac_bytes)
    (four_bytes (be32_at b 38)))
    asker_bytes)
    (four_bytes (be32_at b 28))
