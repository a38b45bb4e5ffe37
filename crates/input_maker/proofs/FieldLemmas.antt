-- What a client's frame is parsed as: a segment to the guest, with the fields of its step.
use Rattle.std.proofs.Common.{◌≡◌, ℕ, ◌+◌, ◌-◌, ◌*◌, ◌/◌, ◌%◌, ◌<◌, ◌≤◌, ◌==◌, ◌||◌, Bool, true, false, if◌then◌else◌, replicate, zero, suc, List, [], ◌∷◌, ◌++◌, Some, fold, length, map, refl, ap, sym, ◌∙◌, arith}
use Rattle.std.proofs.lemmas.Bool.Decides.{nat_tests}
use Rattle.std.proofs.lemmas.List.{take_all}
use Rattle.std.specs.Int.{w32, to_be_bytes}
use Rattle.std.specs.List.{count_by, range_with_len, slice_range}
use Rattle.inet_frame.specs.Counted.{tcp_in}
use Rattle.inet_frame.specs.Fields.{TcpFields}
use Rattle.inet_frame.specs.Frame.{IsSegment, fields_in}
use Rattle.inet_frame.specs.Place.{be16_at, datagram_end}
use Rattle.inet_frame.specs.Sum.{ones_add, ones_sum, pseudo_sum, words}
use Rattle.inet_frame.proofs.FrameLemmas.{tcp_in_facts, tcp_in_segment}
use Rattle.inet_frame.proofs.SumLemmas.{ones_add_fits, ones_sum_fits}
use Rattle.inet_build.specs.Segment.{IsBuildable, fields_of, segment_bytes, tcp_len}
use Rattle.inet_build.proofs.SegmentLemmas.{segment_is_bytes, segment_parses}
use Rattle.inet_build.specs.declared.fields.Segment.{Segment}
use Rattle.frame_mirror.specs.Accepted.{is_accepted, is_for_guest}
use Rattle.shared_definitions.specs.Bytes.{AreBytes}
use Rattle.shared_definitions.proofs.ByteLemmas.{AreBytes-append, AreBytes-cons, AreBytes-nil, AreBytes-range, bytes_from, four_bytes}
use Rattle.shared_definitions.proofs.FactLemmas.{◌&◌}
use Rattle.sock_link.specs.Stream.{record_of, stream_of}
use Rattle.input_maker.specs.Client.{client_fields, client_frame, client_mac, exchange_ends, flags_at, payload_at, segment_at, swap_parts}
use Rattle.input_maker.specs.Made.{is_client, made_frames, made_lines}
use Rattle.input_maker.proofs.FrameLemmas.{Parts, built, client_bytes, guest_frame, length-payload, parts_of, rest_with, sent_frame}

-- ---- a step can be built

flags_fit : (step : ℕ) → flags_at step < 256
flags_fit step = grind (arith, nat_tests)

bytes_letters : (n letter : ℕ) → letter < 256 → AreBytes (replicate n letter)
bytes_letters zero letter small = AreBytes-nil
bytes_letters (suc n) letter small = AreBytes-cons letter (replicate n letter) small (bytes_letters n letter small)

bytes_payload : (step : ℕ) → step < 8 → AreBytes (payload_at step)
bytes_payload step small = by (step == 0 || step == 7)
  where
    by : (none : Bool) → AreBytes (if none then [] else replicate 100 (97 + step))
    by true = AreBytes-nil
    by false = bytes_letters 100 (97 + step) (omega arith)

mac_bytes : AreBytes client_mac
mac_bytes = bytes_from client_mac
    ((omega arith) & (omega arith) & (omega arith) & (omega arith) & (omega arith) & (omega arith) & tt)

pub buildable : (connection step : ℕ) → step < 8 → IsBuildable (segment_at connection step) (payload_at step)
buildable connection step small = record {
  mac_len = refl;
  mac = mac_bytes;
  client = omega arith;
  header = record {
    port = omega arith;
    guest = omega arith;
    seq = omega arith;
    ack = omega arith;
    flags = omega (arith, flags_fit step);
    window = omega arith;
  };
  mss = tt;
  payload_len = omega (arith, length-payload step);
  payload = bytes_payload step small;
}

-- ---- bytes

bytes_swapped : (frame : List ℕ) (start middle end : ℕ) → AreBytes frame → AreBytes (swap_parts frame start middle end)
bytes_swapped frame start middle end bytes =
    AreBytes-append (slice_range frame middle end) (slice_range frame start middle)
    (AreBytes-range frame middle end bytes) (AreBytes-range frame start middle bytes)

bytes_exchanged : (frame : List ℕ) → AreBytes frame → AreBytes (exchange_ends frame)
unfolding exchange_ends
bytes_exchanged frame bytes =
    let last = slice_range frame 38 (length frame) in
    let ports = swap_parts frame 34 36 38 ++ last in
    let addresses = swap_parts frame 26 30 34 ++ ports in
    AreBytes-append (swap_parts frame 0 6 12) (slice_range frame 12 26 ++ addresses)
    (bytes_swapped frame 0 6 12 bytes)
    (AreBytes-append (slice_range frame 12 26) addresses (AreBytes-range frame 12 26 bytes)
    (AreBytes-append (swap_parts frame 26 30 34) ports (bytes_swapped frame 26 30 34 bytes)
    (AreBytes-append (swap_parts frame 34 36 38) last (bytes_swapped frame 34 36 38 bytes)
    (AreBytes-range frame 38 (length frame) bytes))))

pub bytes_client : (index : ℕ) → AreBytes (client_frame index)
unfolding client_frame
bytes_client index =
    let s = segment_at (index / 8) (index % 8) in
    bytes_exchanged (segment_bytes s (payload_at (index % 8)))
    (segment_is_bytes s (payload_at (index % 8)) (buildable (index / 8) (index % 8) (omega arith)))

bytes_record : (frame : List ℕ) → AreBytes frame → AreBytes (record_of frame)
unfolding record_of
bytes_record frame bytes = AreBytes-append (to_be_bytes w32 (length frame)) frame (four_bytes (length frame)) bytes

bytes_frames : (from count : ℕ) → AreBytes (stream_of (map client_frame (range_with_len from count)))
bytes_frames from zero = AreBytes-nil
bytes_frames from (suc count) =
    AreBytes-append (record_of (client_frame from)) (stream_of (map client_frame (range_with_len (from + 1) count)))
    (bytes_record (client_frame from) (bytes_client from)) (bytes_frames (from + 1) count)

pub bytes_stream : (number turns : ℕ) → AreBytes (stream_of (made_frames number turns))
unfolding made_frames
bytes_stream number turns = bytes_frames 0 (count_by is_client (made_lines number turns))

-- ---- sums

swap : (a b c : ℕ) → a < 65536 → b < 65536 → c < 65536 → ones_add (ones_add a b) c ≡ ones_add (ones_add a c) b
swap a b c ha hb hc = grind (arith, nat_tests)

swap_pairs : (t a b c d : ℕ) → t < 65536 → a < 65536 → b < 65536 → c < 65536 → d < 65536
    → ones_add (ones_add (ones_add (ones_add t a) b) c) d ≡ ones_add (ones_add (ones_add (ones_add t c) d) a) b
swap_pairs t a b c d ht ha hb hc hd =
    let ta = ones_add_fits t a ht ha in
    let tc = ones_add_fits t c ht hc in
    let tca = ones_add_fits (ones_add t c) a tc ha in
    ap (λ z. ones_add z d) (swap (ones_add t a) b c ta hb hc ∙ ap (λ z. ones_add z b) (swap t a c ht ha hc))
    ∙ (swap (ones_add (ones_add t c) a) b d tca hb hd ∙ ap (λ z. ones_add z b) (swap (ones_add t c) a d tc ha hd))

-- the twelve bytes before the addresses
abbrev front : Parts → List ℕ
front b = 0x45 ∷ (0 ∷ (b.t1 ∷ (b.t2 ∷ (0 ∷ (0 ∷ (0x40 ∷ (0 ∷ (64 ∷ (6 ∷ (b.s1 ∷ (b.s2 ∷ [])))))))))))

-- the parts of a frame are bytes, and its total length is that of the frame without the Ethernet header
record AreWell (b : Parts) (payload : List ℕ) : Type 0 where
  total : b.t1 * 256 + b.t2 ≡ 40 + length payload
  small : length payload ≤ 536
  t1 : b.t1 < 256
  t2 : b.t2 < 256
  s1 : b.s1 < 256
  s2 : b.s2 < 256
  p1 : b.p1 < 256
  p2 : b.p2 < 256

module _ (b : Parts) (payload : List ℕ) (w : AreWell b payload) (is : IsSegment (guest_frame b payload)) where
  abbrev x : List ℕ
  x = guest_frame b payload

  abbrev y : List ℕ
  y = sent_frame b payload

  front_fits : ones_sum 0 (front b) < 65536
  front_fits = ones_sum_fits 0 (front b) (omega arith) (bytes_from (front b)
      ((omega arith) & (omega arith) & w.t1 & w.t2 & (omega arith) & (omega arith) & (omega arith) & (omega arith)
      & (omega arith) & (omega arith) & w.s1 & w.s2 & tt))

  header_sum : ones_sum 0 (slice_range (sent_frame b payload) 14 34) ≡ 65535
  header_sum =
      swap_pairs (ones_sum 0 (front b)) 2560 514 2560 527 front_fits (omega arith) (omega arith) (omega arith)
      (omega arith) ∙ is.datagram.sum_is

  size : length y ≡ 54 + length payload
  size = omega arith

  -- from the ports on
  abbrev from_guest : List ℕ
  from_guest = 0 ∷ (7 ∷ (b.p1 ∷ (b.p2 ∷ rest_with b payload)))

  abbrev from_client : List ℕ
  from_client = b.p1 ∷ (b.p2 ∷ (0 ∷ (7 ∷ rest_with b payload)))

  abbrev pseudo : ℕ
  pseudo = pseudo_sum (slice_range y 26 34) 6 (datagram_end y - 34)

  pseudo_fits : pseudo < 65536
  pseudo_fits = ones_add_fits (ones_add (ones_sum 0 (slice_range y 26 34)) 6) (datagram_end y - 34) (omega arith)
      (omega (arith, w.total, w.small))

  taken : slice_range y 34 (datagram_end y) ≡ from_client
  taken = take_all (datagram_end y - 34) from_client (omega (arith, w.total))

  taken_there : slice_range x 34 (datagram_end x) ≡ from_guest
  taken_there = take_all (datagram_end x - 34) from_guest (omega (arith, w.total))

  segment_sum : ones_sum pseudo (slice_range y 34 (datagram_end y)) ≡ 65535
  segment_sum =
      ap (ones_sum pseudo) taken
      ∙ (ap (λ z. fold ones_add z (words (rest_with b payload)))
      (swap pseudo (b.p1 * 256 + b.p2) 7 pseudo_fits (omega (arith, w.p1, w.p2)) (omega arith))
      ∙ (ap (ones_sum pseudo) (sym taken_there) ∙ is.sum_is))

  sent_is_segment : IsSegment y
  sent_is_segment = record {
    datagram = record {
      whole = omega arith;
      fits = omega (arith, w.small);
      type_is = refl;
      version_is = refl;
      header = omega arith;
      total = omega (arith, w.total);
      within = omega (arith, w.total);
      sum_is = header_sum;
      unbroken = refl;
      begins = refl;
      ends = refl;
      protocol_is = refl;
    };
    holds = record {
      after_ip = omega arith;
      header = omega arith;
      payload = omega (arith, w.total);
      within = omega (arith, w.total);
      short = omega (arith, w.small);
    };
    sum_is = segment_sum;
  }

-- the bytes of a step's parts, and its length
parts_well : (connection step : ℕ) → AreWell (parts_of (segment_at connection step) (payload_at step)) (payload_at step)
parts_well connection step = record {
  total = read_two (20 + tcp_len (segment_at connection step) (payload_at step))
      (omega (arith, length-payload step)) ∙ omega arith;
  small = omega (arith, length-payload step);
  t1 = omega arith;
  t2 = omega arith;
  s1 = omega arith;
  s2 = omega arith;
  p1 = omega arith;
  p2 = omega arith;
}
  where
    read_two : (n : ℕ) → n < 65536 → n / 256 % 256 * 256 + n % 256 ≡ n
    read_two n h = omega arith

-- the fields of the frame that the guest would send give those of the client's
fields_by : (connection step : ℕ) (b : Parts) (payload : List ℕ) → payload ≡ payload_at step
    → b.flags ≡ flags_at step → fields_in (guest_frame b payload) ≡ fields_of (segment_at connection step) payload
    → fields_in (sent_frame b payload) ≡ client_fields connection step
fields_by connection step b payload payload_is flags_are is =
    let port : be16_at (sent_frame b payload) 34 ≡ 40000 + connection % 20000 = ap (λ (t : TcpFields). t.dport) is in
    let seq = ap (λ (t : TcpFields). t.seq) is in
    let rest = ap (λ (t : TcpFields). t.payload) is ∙ payload_is in
    cc

module _ (index : ℕ) where
  abbrev connection : ℕ
  connection = index / 8

  abbrev step : ℕ
  step = index % 8

  abbrev segment : Segment
  segment = segment_at connection step

  parts : Parts
  parts = parts_of segment (payload_at step)

  pub client_parses : tcp_in (client_frame index) ≡ Some (client_fields connection step)
  unfolding parts
  client_parses =
      let payload = payload_at step in
      let there = tcp_in_facts (guest_frame parts payload) (fields_of segment payload)
      (ap tcp_in (sym (built connection step payload))
      ∙ segment_parses segment payload (buildable connection step (omega arith))) in
      let sent = sent_is_segment parts payload (parts_well connection step) there.0 in
      ap tcp_in (client_bytes index)
      ∙ (tcp_in_segment (sent_frame parts payload) sent
      ∙ ap (λ (t : TcpFields). Some t) (fields_by connection step parts payload refl refl there.1))

  pub client_accepted : is_accepted (client_frame index) ≡ true
  client_accepted = ap is_for_guest client_parses
