-- A segment that was put together parses as its fields and payload.
use Rattle.std.proofs.Common.{◌≡◌, ℕ, ◌+◌, ◌-◌, ◌*◌, ◌/◌, ◌%◌, ◌^◌, ◌<◌, ◌≤◌, List, [], ◌∷◌, ◌++◌, length, get_or, take, drop, Option, None, Some, refl, ap, sym, ◌∙◌, arith, length-append}
use Rattle.std.proofs.lemmas.List.{take_at, drop_at, take_all, drop-drop}
use Rattle.std.specs.Int.{w16, w32, to_be_bytes}
use Rattle.std.specs.List.{slice_range}
use Rattle.shared_definitions.specs.Bytes.{AreBytes}
use Rattle.inet_frame.specs.Counted.{guest_mac, tcp_in}
use Rattle.inet_frame.specs.Fields.{TcpFields}
use Rattle.inet_frame.specs.Frame.{IsSegment, fields_in}
use Rattle.inet_frame.specs.Place.{be16_at, be32_at, datagram_end, data_offset}
use Rattle.inet_frame.specs.Sum.{ones_sum, ones_add, pseudo_sum}
use Rattle.shared_definitions.proofs.ByteLemmas.{EachByte, bytes_from, two_bytes, AreBytes-append}
use Rattle.shared_definitions.proofs.FactLemmas.{◌&◌}
use Rattle.inet_frame.proofs.FieldLemmas.{six_then}
use Rattle.inet_frame.proofs.SumLemmas.{ones_sum_fits, ones_add_fits, ones_sum_closed}
use Rattle.inet_frame.proofs.FrameLemmas.{tcp_in_segment}
use Rattle.inet_build.specs.Segment.{ipv4_type, ethernet_header, addresses, ipv4_header, ipv4_checksum, mss_option, header_words, tcp_header, tcp_bytes, tcp_len, tcp_checksum, segment_bytes, fields_of, MssFits, HeaderFits, IsBuildable}
use Rattle.inet_build.specs.declared.fields.Segment.{Segment}

option_facts : (mss : Option ℕ) → (length (mss_option mss) + 20
    ≡ 4 * header_words mss) × (5 ≤ header_words mss) × (header_words mss ≤ 6)
option_facts None = (omega arith, omega arith, omega arith)
option_facts (Some m) = (omega arith, omega arith, omega arith)

option_bytes : (mss : Option ℕ) → EachByte (mss_option mss)
option_bytes None = tt
option_bytes (Some m) = (omega arith) & (omega arith) & (omega arith) & (omega arith) & tt

-- the frame with any numbers as its checksums
abbrev whole : List ℕ → Segment → List ℕ → ℕ → ℕ → List ℕ
whole dst s payload isum csum =
    ethernet_header dst ++ (ipv4_header s.tuple.addr (20 + tcp_len s payload) isum ++ tcp_bytes s payload csum)

read_two : (n : ℕ) → n < 65536 → n / 256 % 256 * 256 + n % 256 ≡ n
read_two n h = omega arith

read_four : (n : ℕ) → n < 2 ^ 32 →
    n / 256 ^ 3 % 256 * 16777216 + n / 256 ^ 2 % 256 * 65536 + n / 256 ^ 1 % 256 * 256 + n % 256 ≡ n
read_four n h = omega arith

built : (a b c d e f : ℕ) (s : Segment) (payload : List ℕ) (isum csum : ℕ) → length payload ≤ 536 →
    ones_sum 0 (ipv4_header s.tuple.addr (20 + tcp_len s payload) isum) ≡ 65535 →
    ones_sum (pseudo_sum (addresses s.tuple.addr) 6 (tcp_len s payload)) (tcp_bytes s payload csum) ≡ 65535 →
    IsSegment (whole (a ∷ b ∷ c ∷ d ∷ e ∷ f ∷ []) s payload isum csum)
unfolding ipv4_header tcp_header
built a b c d e f s payload isum csum h header_sum tcp_sum =
    let facts = option_facts s.mss in
    let frame = whole (a ∷ b ∷ c ∷ d ∷ e ∷ f ∷ []) s payload isum csum in
    let total : be16_at frame 16 ≡ 20 + tcp_len s payload = read_two (20 + tcp_len s payload) (omega arith) in
    let len : length frame ≡ 14 + (20 + tcp_len s payload) = omega (arith, length-append (mss_option s.mss) payload) in
    let offset : data_offset frame 34 ≡ 4 * header_words s.mss = omega arith in
    let end : datagram_end frame ≡ 34 + tcp_len s payload = omega arith in
    let size : datagram_end frame - 34 ≡ tcp_len s payload = omega arith in
    let rest : slice_range frame 34 (datagram_end frame) ≡ tcp_bytes s payload csum =
    take_all (datagram_end frame - 34) (tcp_bytes s payload csum) (omega (
      arith,
      length-append (mss_option s.mss) payload,
    )) in
    record {
      datagram = record {
        whole = omega arith;
        fits = omega arith;
        type_is = refl;
        version_is = refl;
        header = omega arith;
        total = omega arith;
        within = omega arith;
        sum_is = header_sum;
        unbroken = refl;
        begins = refl;
        ends = refl;
        protocol_is = refl;
      };
      holds = record {
        after_ip = omega arith;
        header = omega arith;
        payload = omega arith;
        within = omega arith;
        short = omega arith;
      };
      sum_is =
          ap (λ (xs : List ℕ). ones_sum (pseudo_sum (addresses s.tuple.addr) 6 (datagram_end frame - 34)) xs) rest
          ∙ (ap (λ (n : ℕ). ones_sum (pseudo_sum (addresses s.tuple.addr) 6 n) (tcp_bytes s payload csum)) size
          ∙ tcp_sum);
    }

built_fields : (a b c d e f : ℕ) (s : Segment) (payload : List ℕ) (isum csum : ℕ) →
    s.dst_mac ≡ a ∷ b ∷ c ∷ d ∷ e ∷ f ∷ [] → length payload ≤ 536 → length s.dst_mac ≡ 6 → s.tuple.addr < 2 ^ 32 →
    HeaderFits s → fields_in (whole (a ∷ b ∷ c ∷ d ∷ e ∷ f ∷ []) s payload isum csum) ≡ fields_of s payload
unfolding ipv4_header tcp_header
built_fields a b c d e f s payload isum csum mac h six client fits =
    let facts = option_facts s.mss in
    let frame = whole (a ∷ b ∷ c ∷ d ∷ e ∷ f ∷ []) s payload isum csum in
    let total : be16_at frame 16 ≡ 20 + tcp_len s payload = read_two (20 + tcp_len s payload) (omega arith) in
    let offset : data_offset frame 34 ≡ 4 * header_words s.mss = omega arith in
    let dst_mac : slice_range frame 0 6 ≡ s.dst_mac = sym mac in
    let src_mac : slice_range frame 6 12 ≡ guest_mac = refl in
    let dst : be32_at frame 30 ≡ s.tuple.addr = read_four s.tuple.addr client in
    let sport : be16_at frame 34 ≡ s.tuple.guest = read_two s.tuple.guest fits.guest in
    let dport : be16_at frame 36 ≡ s.tuple.port = read_two s.tuple.port fits.port in
    let seq : be32_at frame 38 ≡ s.seq = read_four s.seq fits.seq in
    let ack : be32_at frame 42 ≡ s.ack = read_four s.ack fits.ack in
    let window : be16_at frame 48 ≡ s.window = read_two s.window fits.window in
    let option_end : 34 + data_offset frame 34 - 54 ≡ length (mss_option s.mss) = omega arith in
    let options : slice_range frame 54 (34 + data_offset frame 34) ≡ mss_option s.mss =
    take_at (mss_option s.mss) payload (34 + data_offset frame 34 - 54) (sym option_end) in
    let start : 34 + data_offset frame 34 ≡ 54 + length (mss_option s.mss) = omega arith in
    let dropped : drop (34 + data_offset frame 34) frame ≡ payload =
    ap (λ (n : ℕ). drop n frame) start
    ∙ (sym (drop-drop (length (mss_option s.mss)) 54 frame) ∙ drop_at (mss_option s.mss) payload (length
    (mss_option s.mss)) refl) in
    let rest : slice_range frame (34 + data_offset frame 34) (datagram_end frame) ≡ payload =
    ap (λ (xs : List ℕ). take (datagram_end frame - (34 + data_offset frame 34)) xs) dropped
    ∙ take_all (datagram_end frame - (34 + data_offset frame 34)) payload (omega arith) in
    cc

-- the ten bytes before the checksum of the IPv4 header
abbrev ipv4_front : ℕ → List ℕ
ipv4_front total = 0x45 ∷ 0 ∷ total / 256 % 256 ∷ total % 256 ∷ 0 ∷ 0 ∷ 0x40 ∷ 0 ∷ 64 ∷ 6 ∷ []

ipv4_front_bytes : (total : ℕ) → EachByte (ipv4_front total)
ipv4_front_bytes total =
    (omega arith) & (omega arith) & (omega arith) & (omega arith) & (omega arith) & (omega arith) & (omega arith) &
    (omega arith) & (omega arith) & (omega arith) & tt

address_bytes : (client : ℕ) → EachByte (addresses client)
address_bytes client =
    (omega arith) & (omega arith) & (omega arith) & (omega arith) & (omega arith) & (omega arith) & (omega arith) &
    (omega arith) & tt

header_closed : (client total : ℕ) → ones_sum 0 (ipv4_header client total (ipv4_checksum client total)) ≡ 65535
unfolding ipv4_header
header_closed client total =
    let sum = ipv4_checksum client total in
    let below : ipv4_checksum client total < 65536 = omega arith in
    ones_sum_closed (ones_sum 0 (ipv4_front total)) (sum / 256 % 256) (sum % 256) (addresses client)
    (ones_sum_fits 0 (ipv4_front total) (omega arith) (bytes_from (ipv4_front total) (ipv4_front_bytes total)))
    (bytes_from (addresses client) (address_bytes client))
    (read_two sum below)

pseudo_fits : (client len : ℕ) → len < 65536 → pseudo_sum (addresses client) 6 len < 65536
pseudo_fits client len h =
    let start = ones_sum_fits 0 (addresses client) (omega arith) (bytes_from (addresses client)
    (address_bytes client)) in
    ones_add_fits (ones_add (ones_sum 0 (addresses client)) 6) len (ones_add_fits (ones_sum 0
    (addresses client)) 6 start (omega arith)) h

-- the sixteen bytes before the checksum
abbrev tcp_front : Segment → List ℕ
tcp_front s = to_be_bytes w16 s.tuple.guest ++ to_be_bytes w16 s.tuple.port ++ to_be_bytes w32 s.seq
    ++ to_be_bytes w32 s.ack ++ 16 * header_words s.mss ∷ s.flags ∷ to_be_bytes w16 s.window

tcp_front_bytes : (s : Segment) → s.flags < 256 → EachByte (tcp_front s)
tcp_front_bytes s flags =
    let facts = option_facts s.mss in
    (omega arith) & (omega arith) & (omega arith) & (omega arith) & (omega arith) & (omega arith) & (omega arith) &
    (omega arith) & (omega arith) & (omega arith) & (omega arith) & (omega arith) & (omega arith) & (omega arith) &
    (omega arith) & (omega arith) & tt

-- the bytes after the checksum: no urgent pointer, the option and the payload
rest_bytes : (s : Segment) (payload : List ℕ) → AreBytes payload → AreBytes (0 ∷ 0 ∷ mss_option s.mss ++ payload)
rest_bytes s payload bytes =
    AreBytes-append (0 ∷ 0 ∷ mss_option s.mss) payload (bytes_from (0 ∷ 0 ∷ mss_option s.mss)
    ((omega arith) & (omega arith) & option_bytes s.mss)) bytes

tcp_closed : (s : Segment) (payload : List ℕ) → length payload ≤ 536 → s.flags < 256 → AreBytes payload →
    ones_sum (pseudo_sum (addresses s.tuple.addr) 6 (tcp_len s payload)) (tcp_bytes s payload
    (tcp_checksum s payload)) ≡ 65535
unfolding tcp_header
tcp_closed s payload h flags bytes =
    let facts = option_facts s.mss in
    let start = pseudo_sum (addresses s.tuple.addr) 6 (tcp_len s payload) in
    let start_fits : pseudo_sum (addresses s.tuple.addr) 6 (tcp_len s payload) < 65536 = pseudo_fits s.tuple.addr
    (tcp_len s payload) (omega arith) in
    let sum = tcp_checksum s payload in
    let below : tcp_checksum s payload < 65536 = omega arith in
    ones_sum_closed (ones_sum start (tcp_front s)) (sum / 256 % 256) (sum % 256) (0 ∷ 0 ∷ mss_option s.mss ++ payload)
    (ones_sum_fits start (tcp_front s) start_fits (bytes_from (tcp_front s) (tcp_front_bytes s flags)))
    (rest_bytes s payload bytes)
    (read_two sum below)

-- what a segment parses as, over the bytes of its MAC address
abbrev ParsesWith : Segment → List ℕ → List ℕ → Type 0
ParsesWith s payload dst =
    s.dst_mac ≡ dst → tcp_in (whole dst s payload (ipv4_checksum s.tuple.addr (20 + tcp_len s payload))
    (tcp_checksum s payload)) ≡ Some (fields_of s payload)

pub segment_parses : (s : Segment) (payload : List ℕ) → IsBuildable s payload →
    tcp_in (segment_bytes s payload) ≡ Some (fields_of s payload)
unfolding segment_bytes
segment_parses s payload is =
    let isum = ipv4_checksum s.tuple.addr (20 + tcp_len s payload) in
    let csum = tcp_checksum s payload in
    six_then (λ dst. ParsesWith s payload dst)
    (λ a b c d e f mac.
    tcp_in_segment (whole (a ∷ b ∷ c ∷ d ∷ e ∷ f ∷ []) s payload isum csum)
    (built a b c d e f s payload isum csum is.payload_len (header_closed s.tuple.addr (20 + tcp_len s payload))
    (tcp_closed s payload is.payload_len (omega (arith, is.header.flags)) is.payload))
    ∙ ap (λ (t : TcpFields). Some t)
    (built_fields a b c d e f s payload isum csum mac is.payload_len is.mac_len is.client is.header))
    s.dst_mac is.mac_len refl

ethernet_bytes : (dst : List ℕ) → AreBytes dst → AreBytes (ethernet_header dst)
ethernet_bytes dst bytes =
    AreBytes-append dst (guest_mac ++ ipv4_type) bytes
    (bytes_from (guest_mac ++ ipv4_type) (
      omega arith,
      (
        omega arith,
        (
          omega arith,
          (
            omega arith,
            (
              omega arith,
              (omega arith, (omega arith, (omega arith, tt))),
            ),
          ),
        ),
      ),
    ))

ipv4_bytes : (client total sum : ℕ) → AreBytes (ipv4_header client total sum)
unfolding ipv4_header
ipv4_bytes client total sum =
    AreBytes-append (ipv4_front total ++ to_be_bytes w16 sum) (addresses client)
    (AreBytes-append (ipv4_front total) (to_be_bytes w16 sum) (bytes_from (ipv4_front total)
    (ipv4_front_bytes total)) (two_bytes sum))
    (bytes_from (addresses client) (address_bytes client))

segment_part_bytes : (s : Segment) (payload : List ℕ) (sum : ℕ) → s.flags < 256 → AreBytes payload →
    AreBytes (tcp_bytes s payload sum)
unfolding tcp_header
segment_part_bytes s payload sum flags bytes =
    AreBytes-append (tcp_front s ++ to_be_bytes w16 sum) (0 ∷ 0 ∷ mss_option s.mss ++ payload)
    (AreBytes-append (tcp_front s) (to_be_bytes w16 sum) (bytes_from (tcp_front s) (tcp_front_bytes s flags))
    (two_bytes sum))
    (rest_bytes s payload bytes)

pub segment_is_bytes : (s : Segment) (payload : List ℕ) → IsBuildable s payload → AreBytes (segment_bytes s payload)
unfolding segment_bytes
segment_is_bytes s payload is =
    let total = 20 + tcp_len s payload in
    let sum = ipv4_checksum s.tuple.addr (20 + tcp_len s payload) in
    let tcp = tcp_bytes s payload (tcp_checksum s payload) in
    AreBytes-append (ethernet_header s.dst_mac) (ipv4_header s.tuple.addr total sum
    ++ tcp) (ethernet_bytes s.dst_mac is.mac)
    (AreBytes-append (ipv4_header s.tuple.addr total sum) tcp (ipv4_bytes s.tuple.addr total sum)
    (segment_part_bytes s payload (tcp_checksum s payload) (omega (arith, is.header.flags)) is.payload))

same_mss : (m n : Option ℕ) → MssFits m → MssFits n → mss_option m ≡ mss_option n → m ≡ n
same_mss None None hm hn e = refl
same_mss None (Some n) hm hn e = absurd (cc)
same_mss (Some m) None hm hn e = absurd (cc)
same_mss (Some m) (Some n) hm hn e =
    let high : m / 256 % 256 ≡ n / 256 % 256 = ap (λ (xs : List ℕ). get_or xs 2 0) e in
    let low : m % 256 ≡ n % 256 = ap (λ (xs : List ℕ). get_or xs 3 0) e in
    ap (λ (k : ℕ). Some k) (omega arith)

of_parts : List ℕ → ℕ → ℕ → ℕ → ℕ → ℕ → ℕ → ℕ → Option ℕ → Segment
of_parts mac addr port guest seq ack flags window mss =
    record {
      dst_mac = mac;
      tuple = record { addr = addr; port = port; guest = guest };
      seq = seq;
      ack = ack;
      flags = flags;
      window = window;
      mss = mss;
    }

same_parts : (s other : Segment) → s.dst_mac ≡ other.dst_mac → s.tuple.addr ≡ other.tuple.addr →
    s.tuple.port ≡ other.tuple.port → s.tuple.guest ≡ other.tuple.guest → s.seq ≡ other.seq → s.ack ≡ other.ack →
    s.flags ≡ other.flags → s.window ≡ other.window → s.mss ≡ other.mss →
    of_parts s.dst_mac s.tuple.addr s.tuple.port s.tuple.guest s.seq s.ack s.flags s.window s.mss
    ≡ of_parts other.dst_mac other.tuple.addr other.tuple.port other.tuple.guest other.seq other.ack other.flags
    other.window other.mss
same_parts s other mac addr port guest seq ack flags window mss = cc

-- building is one-to-one, since what is built is read back
pub one_segment : (s other : Segment) (payload others : List ℕ) → IsBuildable s payload → IsBuildable other others →
    segment_bytes s payload ≡ segment_bytes other others → (s ≡ other) × (payload ≡ others)
unfolding of_parts
one_segment s other payload others is are e =
    let read : Some (fields_of s payload) ≡ Some (fields_of other others) = sym (segment_parses s payload is)
    ∙ (ap tcp_in e ∙ segment_parses other others are) in
    let fields : fields_of s payload ≡ fields_of other others = cc in
    let mac = ap (λ (t : TcpFields). t.dst_mac) fields in
    let addr = ap (λ (t : TcpFields). t.dst) fields in
    let port = ap (λ (t : TcpFields). t.dport) fields in
    let guest = ap (λ (t : TcpFields). t.sport) fields in
    let seq = ap (λ (t : TcpFields). t.seq) fields in
    let ack = ap (λ (t : TcpFields). t.ack) fields in
    let flags = ap (λ (t : TcpFields). t.flags) fields in
    let window = ap (λ (t : TcpFields). t.window) fields in
    let mss = same_mss s.mss other.mss is.mss are.mss (ap (λ (t : TcpFields). t.options) fields) in
    let payloads = ap (λ (t : TcpFields). t.payload) fields in
    (same_parts s other mac addr port guest seq ack flags window mss, payloads)

option_sum : (mss : Option ℕ) (start : ℕ) (payload : List ℕ) →
    ones_sum (ones_sum start (mss_option mss)) payload ≡ ones_sum start (mss_option mss ++ payload)
option_sum None start payload = refl
option_sum (Some m) start payload = refl

-- the sum over a segment is made part by part
pub sum_parts : (s : Segment) (payload : List ℕ) (start : ℕ) →
    ones_sum (ones_sum (ones_sum start (tcp_header s 0)) (mss_option s.mss)) payload
    ≡ ones_sum start (tcp_bytes s payload 0)
unfolding tcp_header
sum_parts s payload start = option_sum s.mss (ones_sum start (tcp_header s 0)) payload
