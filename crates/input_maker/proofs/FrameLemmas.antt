-- The bytes of a client's frame, place by place, and what they are parsed as.
use Rattle.std.proofs.Common.{◌≡◌, ℕ, zero, suc, ◌+◌, ◌-◌, ◌/◌, ◌%◌, ◌^◌, ◌≤◌, ◌==◌, ◌||◌, Bool, true, false, if◌then◌else◌, replicate, List, [], ◌∷◌, All, length, map, refl, ap, ◌∙◌, arith}
use Rattle.std.proofs.lemmas.List.{length-replicate, take_all}
use Rattle.std.proofs.lemmas.List.Elements.{All-nil, All-cons}
use Rattle.std.specs.List.{count_by, range_with_len}
use Rattle.inet_build.specs.Segment.{ipv4_checksum, ipv4_header, segment_bytes, tcp_checksum, tcp_header, tcp_len}
use Rattle.inet_build.specs.declared.fields.Segment.{Segment}
use Rattle.sock_link.specs.Stream.{IsSplit, limit, stream_of}
use Rattle.sock_link.proofs.HistoryLemmas.{reads_back}
use Rattle.input_maker.specs.Client.{client_frame, exchange_ends, payload_at, segment_at}
use Rattle.input_maker.specs.Made.{frames_for, is_client, made_frames, made_lines}

-- the numbers of a frame of the client's that aren't the same in all: total length, header's checksum, port, sequence
-- number, flags and checksum, a byte each
pub record Parts : Type 0 where
  pub t1 : ℕ
  pub t2 : ℕ
  pub s1 : ℕ
  pub s2 : ℕ
  pub p1 : ℕ
  pub p2 : ℕ
  pub q1 : ℕ
  pub q2 : ℕ
  pub q3 : ℕ
  pub q4 : ℕ
  pub flags : ℕ
  pub c1 : ℕ
  pub c2 : ℕ

-- from the sequence number on
abbrev pub rest_with : Parts → List ℕ → List ℕ
rest_with b payload =
    b.q1 ∷ (b.q2 ∷ (b.q3 ∷ (b.q4 ∷ (0 ∷ (0 ∷ (0 ∷ (0 ∷ (0x50 ∷ (b.flags ∷ (0x10 ∷ (0 ∷ (b.c1 ∷ (b.c2
    ∷ (0 ∷ (0 ∷ payload)))))))))))))))

-- as the guest would send it
abbrev pub guest_frame : Parts → List ℕ → List ℕ
guest_frame b payload =
    0x52 ∷ (0x54 ∷ (0x00 ∷ (0xAA ∷ (0x00 ∷ (0x01 ∷ (0x52 ∷ (0x54 ∷ (0x00 ∷ (0x12 ∷ (0x34 ∷ (0x56 ∷ (0x08 ∷ (0
    ∷ (0x45 ∷ (0 ∷ (b.t1 ∷ (b.t2 ∷ (0 ∷ (0 ∷ (0x40 ∷ (0 ∷ (64 ∷ (6 ∷ (b.s1 ∷ (b.s2
    ∷ (10 ∷ (0 ∷ (2 ∷ (15 ∷ (10 ∷ (0 ∷ (2 ∷ (2 ∷ (0 ∷ (7 ∷ (b.p1 ∷ (b.p2
    ∷ rest_with b payload)))))))))))))))))))))))))))))))))))))

-- as the client sends it
abbrev pub sent_frame : Parts → List ℕ → List ℕ
sent_frame b payload =
    0x52 ∷ (0x54 ∷ (0x00 ∷ (0x12 ∷ (0x34 ∷ (0x56 ∷ (0x52 ∷ (0x54 ∷ (0x00 ∷ (0xAA ∷ (0x00 ∷ (0x01 ∷ (0x08 ∷ (0
    ∷ (0x45 ∷ (0 ∷ (b.t1 ∷ (b.t2 ∷ (0 ∷ (0 ∷ (0x40 ∷ (0 ∷ (64 ∷ (6 ∷ (b.s1 ∷ (b.s2
    ∷ (10 ∷ (0 ∷ (2 ∷ (2 ∷ (10 ∷ (0 ∷ (2 ∷ (15 ∷ (b.p1 ∷ (b.p2 ∷ (0 ∷ (7
    ∷ rest_with b payload)))))))))))))))))))))))))))))))))))))

exchanged : (b : Parts) (payload : List ℕ) → exchange_ends (guest_frame b payload) ≡ sent_frame b payload
unfolding exchange_ends
exchanged b payload =
    ap (λ (rest : List ℕ). 0x52 ∷ (0x54 ∷ (0x00 ∷ (0x12 ∷ (0x34 ∷ (0x56 ∷ (0x52 ∷ (0x54 ∷ (0x00 ∷ (0xAA ∷ (0x00
    ∷ (0x01 ∷ (0x08 ∷ (0 ∷ (0x45 ∷ (0 ∷ (b.t1 ∷ (b.t2 ∷ (0 ∷ (0 ∷ (0x40 ∷ (0 ∷ (64 ∷ (6 ∷ (b.s1 ∷ (b.s2
    ∷ (10 ∷ (0 ∷ (2 ∷ (2 ∷ (10 ∷ (0 ∷ (2 ∷ (15 ∷ (b.p1 ∷ (b.p2 ∷ (0 ∷ (7
    ∷ rest))))))))))))))))))))))))))))))))))))))
    (take_all (length (guest_frame b payload) - 38) (rest_with b payload) (omega arith))

-- the parts of a step
abbrev pub parts_of : Segment → List ℕ → Parts
parts_of s payload =
    let total = 20 + tcp_len s payload in
    let header_sum = ipv4_checksum s.tuple.addr total in
    let sum = tcp_checksum s payload in
    record {
      t1 = total / 256 % 256;
      t2 = total % 256;
      s1 = header_sum / 256 % 256;
      s2 = header_sum % 256;
      p1 = s.tuple.port / 256 % 256;
      p2 = s.tuple.port % 256;
      q1 = s.seq / 256 ^ 3 % 256;
      q2 = s.seq / 256 ^ 2 % 256;
      q3 = s.seq / 256 ^ 1 % 256;
      q4 = s.seq % 256;
      flags = s.flags;
      c1 = sum / 256 % 256;
      c2 = sum % 256;
    }

pub built : (connection step : ℕ) (payload : List ℕ) → segment_bytes (segment_at connection step) payload
    ≡ guest_frame (parts_of (segment_at connection step) payload) payload
unfolding segment_bytes ipv4_header tcp_header
built connection step payload = refl

pub client_bytes : (index : ℕ)
    → client_frame index ≡ sent_frame (parts_of (segment_at (index / 8) (index % 8)) (payload_at (index % 8)))
    (payload_at (index % 8))
unfolding client_frame
client_bytes index =
    let payload = payload_at (index % 8) in
    ap exchange_ends (built (index / 8) (index % 8) payload)
    ∙ exchanged (parts_of (segment_at (index / 8) (index % 8)) payload) payload

-- ---- a stream

length-letters : (none : Bool) (letter : ℕ) → length (if none then [] else replicate 100 letter) ≤ 100
length-letters true letter = omega arith
length-letters false letter = omega (arith, length-replicate 100 letter)

pub length-payload : (step : ℕ) → length (payload_at step) ≤ 100
length-payload step = length-letters (step == 0 || step == 7) (97 + step)

length-sent : (b : Parts) (payload : List ℕ) → length (sent_frame b payload) ≡ 54 + length payload
length-sent b payload = omega arith

short : (index : ℕ) → length (client_frame index) ≤ limit
short index =
    let payload = payload_at (index % 8) in
    let size = ap length (client_bytes index)
    ∙ length-sent (parts_of (segment_at (index / 8) (index % 8)) payload) payload in
    omega (arith, size, length-payload (index % 8))

all_short : (from count : ℕ) → All (λ frame. length frame ≤ limit) (map client_frame (range_with_len from count))
all_short from zero = All-nil (λ frame. length frame ≤ limit)
all_short from (suc count) =
    All-cons (λ frame. length frame ≤ limit) (client_frame from) (map client_frame (range_with_len (from + 1) count))
    (short from) (all_short (from + 1) count)

pub are_stream : (number turns : ℕ) → IsSplit (stream_of (made_frames number turns)) (made_frames number turns) []
unfolding made_frames
are_stream number turns =
    reads_back (frames_for (made_lines number turns)) (all_short 0 (count_by is_client (made_lines number turns)))
