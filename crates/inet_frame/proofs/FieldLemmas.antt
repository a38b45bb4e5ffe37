-- The fields of a frame of bytes, and replies to ARP requests.
use Rattle.std.proofs.Common.{◌≡◌, ℕ, ◌+◌, ◌^◌, ◌<◌, ◌≤◌, List, [], ◌∷◌, length, Some, None, refl, arith, subst}
use Rattle.shared_definitions.proofs.RangeLemmas.{length-range}
use Rattle.inet_frame.specs.Arp.{reply_bytes}
use Rattle.shared_definitions.specs.Bytes.{AreBytes}
use Rattle.inet_frame.specs.Counted.{tcp_in}
use Rattle.inet_frame.specs.Fields.{TcpFields, ArpFields}
use Rattle.inet_frame.specs.Frame.{IsSegment, fields_in, seen_of}
use Rattle.inet_frame.specs.Laws.{AreInRange}
use Rattle.inet_frame.specs.Place.{header_end, datagram_end, data_offset, be16_at, be32_at}
use Rattle.shared_definitions.proofs.ByteLemmas.{AreBytes-range}
use Rattle.inet_frame.proofs.FrameLemmas.{tcp_in_facts}

be16_fits : (b : List ℕ) (i : ℕ) → AreBytes b → be16_at b i < 2 ^ 16
be16_fits b i bytes =
    let high = bytes i in
    let low = bytes (i + 1) in
    omega arith

be32_fits : (b : List ℕ) (i : ℕ) → AreBytes b → be32_at b i < 2 ^ 32
be32_fits b i bytes =
    let first = bytes i in
    let second = bytes (i + 1) in
    let third = bytes (i + 2) in
    let fourth = bytes (i + 3) in
    omega arith

fields_fit : (b : List ℕ) → AreBytes b → IsSegment b → AreInRange (fields_in b)
fields_fit b bytes s =
    let h = header_end b in
    let d = data_offset b h in
    let e = datagram_end b in
    let offset_byte = bytes (header_end b + 12) in
    let after = s.holds.after_ip in
    let header = s.holds.header in
    let within_payload = s.holds.payload in
    let within = s.holds.within in
    let short = s.holds.short in
    let options = length-range b (header_end b + 20) (header_end b + data_offset b (header_end b)) (omega arith)
    (omega arith) in
    let payload = length-range b (header_end b + data_offset b (header_end b)) (datagram_end b) (omega arith)
    (omega arith) in
    record {
      dst_mac_len = length-range b 0 6 (omega arith) (omega arith);
      dst_mac = AreBytes-range b 0 6 bytes;
      src_mac_len = length-range b 6 12 (omega arith) (omega arith);
      src_mac = AreBytes-range b 6 12 bytes;
      src = be32_fits b 26 bytes;
      dst = be32_fits b 30 bytes;
      sport = be16_fits b h bytes;
      dport = be16_fits b (h + 2) bytes;
      seq = be32_fits b (h + 4) bytes;
      ack = be32_fits b (h + 8) bytes;
      flags = bytes (h + 13);
      window = be16_fits b (h + 14) bytes;
      options_len = omega arith;
      options = AreBytes-range b (h + 20) (h + d) bytes;
      payload_len = omega arith;
      payload = AreBytes-range b (h + d) e bytes;
    }

pub in_range : (b : List ℕ) (t : TcpFields) → AreBytes b → tcp_in b ≡ Some t → AreInRange t
in_range b t bytes is =
    let facts = tcp_in_facts b t is in
    let P : TcpFields → Type 0 = λ u. AreInRange u in
    subst P facts.1 (fields_fit b bytes facts.0)

pub length_fits : (b : List ℕ) (t : TcpFields) → tcp_in b ≡ Some t → (54 ≤ length b) × (length b ≤ 1514)
length_fits b t is =
    let holds = (tcp_in_facts b t is).0.holds in
    (omega (arith, holds.after_ip, holds.header, holds.payload, holds.within), holds.short)

-- the frame's type is ARP's and its operation is a reply, so the fourth test drops it
reply_by : (a b c d e f g h i j k l x y : ℕ) →
    tcp_in (reply_bytes (record { sender_mac = a ∷ b ∷ c ∷ d ∷ e ∷ f ∷ []; sender = x; target = y })
    (g ∷ h ∷ i ∷ j ∷ k ∷ l ∷ [])) ≡ None
unfolding seen_of
reply_by a b c d e f g h i j k l x y = refl

pub six_then : (P : List ℕ → Type 0) → ((a b c d e f : ℕ) → P (a ∷ b ∷ c ∷ d ∷ e ∷ f ∷ [])) → (xs : List ℕ) →
    length xs ≡ 6 → P xs
six_then P all (a ∷ b ∷ c ∷ d ∷ e ∷ f ∷ []) len = all a b c d e f
six_then P all [] len = absurd (omega arith)
six_then P all (a ∷ []) len = absurd (omega arith)
six_then P all (a ∷ b ∷ []) len = absurd (omega arith)
six_then P all (a ∷ b ∷ c ∷ []) len = absurd (omega arith)
six_then P all (a ∷ b ∷ c ∷ d ∷ []) len = absurd (omega arith)
six_then P all (a ∷ b ∷ c ∷ d ∷ e ∷ []) len = absurd (omega arith)
six_then P all (a ∷ b ∷ c ∷ d ∷ e ∷ f ∷ g ∷ more) len = absurd (omega arith)

pub reply_no_tcp : (ask : ArpFields) (mac : List ℕ) → length ask.sender_mac ≡ 6 → length mac ≡ 6 →
    tcp_in (reply_bytes ask mac) ≡ None
reply_no_tcp ask mac asker target =
    six_then (λ xs. tcp_in (reply_bytes (record ask { sender_mac = xs }) mac) ≡ None)
    (λ a b c d e f. six_then (λ ys. tcp_in (reply_bytes
    (record ask { sender_mac = a ∷ b ∷ c ∷ d ∷ e ∷ f ∷ [] }) ys) ≡ None)
    (λ g h i j k l. reply_by a b c d e f g h i j k l ask.sender ask.target) mac target)
    ask.sender_mac asker
