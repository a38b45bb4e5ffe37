-- An edited segment is a segment, with all else as it was.
use Rattle.std.proofs.Common.{◌≡◌, ℕ, ◌+◌, ◌-◌, ◌*◌, ◌/◌, ◌%◌, ◌^◌, ◌<◌, ◌≤◌, List, [], ◌∷◌, ◌++◌, length, get_or, Some, refl, ap, sym, ◌∙◌, arith, ⊎_elim}
use Rattle.std.proofs.lemmas.Bool.{cases_lt}
use Rattle.std.proofs.lemmas.List.{ext_get_or}
use Rattle.std.specs.Int.{w16, w32, to_be_bytes}
use Rattle.std.specs.List.{slice_range}
use Rattle.shared_definitions.specs.Bytes.{AreBytes}
use Rattle.inet_frame.specs.Counted.{tcp_in}
use Rattle.inet_frame.specs.Fields.{TcpFields, tcp_fields}
use Rattle.inet_frame.specs.Frame.{IsDatagram, IsSegment, fields_in}
use Rattle.inet_frame.specs.Place.{be16_at, be32_at, header_end, datagram_end, data_offset}
use Rattle.inet_frame.specs.Sum.{ones_sum, ones_add, pseudo_sum}
use Rattle.shared_definitions.proofs.ByteLemmas.{bytes_from, AreBytes-overwrite, AreBytes-range, two_bytes, four_bytes}
use Rattle.inet_frame.proofs.SumLemmas.{ones_sum_fits, ones_add_fits, ones_sum_append, ones_sum_closed}
use Rattle.inet_frame.proofs.FrameLemmas.{tcp_in_segment}
use Rattle.shared_definitions.specs.Overwrite.{overwrite}
use Rattle.shared_definitions.proofs.OverwriteLemmas.{length-overwrite, overwrite_before, overwrite_within, overwrite_after, overwrite_range, overwrite_twice}
use Rattle.shared_definitions.proofs.RangeLemmas.{range_same, range_split, length-range}
use Rattle.inet_build.specs.Edit.{sum_between, with_zero_checksum, update_checksum, shift_ack, shift_ack_fields}

-- what an edit after the sequence number leaves: the length, each byte up to there, and the header's length
pub record KeepsPlaces (b c : List ℕ) : Type 0 where
  pub len : length c ≡ length b
  pub front : (i : ℕ) → i < header_end b + 8 → get_or c i 0 ≡ get_or b i 0
  pub offset : get_or c (header_end b + 12) 0 ≡ get_or b (header_end b + 12) 0

pub same_header_end : (b c : List ℕ) → KeepsPlaces b c → header_end c ≡ header_end b
same_header_end b c k = ap (λ (n : ℕ). 14 + 4 * (n % 16)) (k.front 14 (omega arith))

pub same_datagram_end : (b c : List ℕ) → KeepsPlaces b c → datagram_end c ≡ datagram_end b
same_datagram_end b c k =
    let high = k.front 16 (omega arith) in
    let low = k.front 17 (omega arith) in
    omega arith

same_two : (b c : List ℕ) (i : ℕ) → KeepsPlaces b c → i + 1 < header_end b + 8 → be16_at c i ≡ be16_at b i
same_two b c i k h =
    let high = k.front i (omega arith) in
    let low = k.front (i + 1) (omega arith) in
    omega arith

same_four : (b c : List ℕ) (i : ℕ) → KeepsPlaces b c → i + 3 < header_end b + 8 → be32_at c i ≡ be32_at b i
same_four b c i k h =
    let first = k.front i (omega arith) in
    let second = k.front (i + 1) (omega arith) in
    let third = k.front (i + 2) (omega arith) in
    let fourth = k.front (i + 3) (omega arith) in
    omega arith

same_range : (b c : List ℕ) (i j : ℕ) → KeepsPlaces b c → j ≤ header_end b + 8 → slice_range c i j ≡ slice_range b i j
same_range b c i j k h = range_same c b i j k.len (λ n ge lt. k.front n (omega arith))

same_offset : (b c : List ℕ) → KeepsPlaces b c → data_offset c (header_end c) ≡ data_offset b (header_end b)
same_offset b c k = ap (λ (h : ℕ). data_offset c h) (same_header_end b c k) ∙ ap (λ (n : ℕ). 4 * (n / 16)) k.offset

kept_datagram : (b c : List ℕ) → IsDatagram b (header_end b) (datagram_end b) 6 → KeepsPlaces b c →
    IsDatagram c (header_end c) (datagram_end c) 6
kept_datagram b c d k =
    let len = k.len in
    let he = same_header_end b c k in
    let de = same_datagram_end b c k in
    let kind = same_two b c 12 k (omega arith) in
    let fragment = same_two b c 20 k (omega (arith, d.header)) in
    let version = k.front 14 (omega arith) in
    let protocol = k.front 23 (omega (arith, d.header)) in
    record {
      whole = omega (arith, d.whole);
      fits = omega (arith, d.fits);
      type_is = kind ∙ d.type_is;
      version_is = ap (λ (n : ℕ). n / 16) version ∙ d.version_is;
      header = omega (arith, d.header);
      total = omega (arith, d.total);
      within = omega (arith, d.within);
      sum_is = ap (λ (j : ℕ). ones_sum 0 (slice_range c 14 j)) he
          ∙ (ap (λ (xs : List ℕ). ones_sum 0 xs) (same_range b c 14 (header_end b) k (omega arith)) ∙ d.sum_is);
      unbroken = ap (λ (n : ℕ). n % 16384) fragment ∙ d.unbroken;
      begins = refl;
      ends = refl;
      protocol_is = protocol ∙ d.protocol_is;
    }

pub kept_segment : (b c : List ℕ) → IsSegment b → KeepsPlaces b c →
    sum_between c (header_end b) (datagram_end b) ≡ 65535 → IsSegment c
kept_segment b c s k sum =
    let len = k.len in
    let he = same_header_end b c k in
    let de = same_datagram_end b c k in
    let offset = same_offset b c k in
    let d = kept_datagram b c s.datagram k in
    let F : ℕ → ℕ → ℕ → ℕ = λ p h e. ones_sum (pseudo_sum (slice_range c 26 34) p (e - h)) (slice_range c h e) in
    let hold = s.holds in
    record {
      datagram = d;
      holds = record {
        after_ip = omega (arith, hold.after_ip);
        header = omega (arith, hold.header);
        payload = omega (arith, hold.payload);
        within = omega (arith, hold.within);
        short = omega (arith, hold.short);
      };
      sum_is = ap (λ (p : ℕ). F p (header_end c) (datagram_end c)) d.protocol_is
          ∙ (ap (λ (h : ℕ). F 6 h (datagram_end c)) he ∙ (ap (λ (e : ℕ). F 6 (header_end b) e) de ∙ sum));
    }

pub AreBytes-update_checksum : (b : List ℕ) (h e : ℕ) → AreBytes b → AreBytes (update_checksum b h e)
unfolding update_checksum
AreBytes-update_checksum b h e bytes =
    AreBytes-overwrite (with_zero_checksum b h) (h + 16)
    (to_be_bytes w16 (65535 - sum_between (with_zero_checksum b h) h e))
    (AreBytes-overwrite b (h + 16) (0 ∷ 0 ∷ []) bytes (bytes_from (0 ∷ 0 ∷ []) (omega arith, (omega arith, tt))))
    (two_bytes (65535 - sum_between (with_zero_checksum b h) h e))

pub length-update_checksum : (b : List ℕ) (h e : ℕ) → h + 18 ≤ length b → length (update_checksum b h e) ≡ length b
unfolding update_checksum
length-update_checksum b h e fits =
    let blank = length-overwrite b (h + 16) (0 ∷ 0 ∷ []) (omega arith) in
    length-overwrite (with_zero_checksum b h) (h + 16) (to_be_bytes w16 (65535 - sum_between
    (with_zero_checksum b h) h e)) (omega arith) ∙ blank

pub checksum_before : (b : List ℕ) (h e i : ℕ) → h + 18 ≤ length b → i < h + 16 →
    get_or (update_checksum b h e) i 0 ≡ get_or b i 0
unfolding update_checksum
checksum_before b h e i fits lt =
    let blank = length-overwrite b (h + 16) (0 ∷ 0 ∷ []) (omega arith) in
    overwrite_before (with_zero_checksum b h) (h + 16) (to_be_bytes w16 (65535 - sum_between
    (with_zero_checksum b h) h e)) i (omega arith) lt
    ∙ overwrite_before b (h + 16) (0 ∷ 0 ∷ []) i (omega arith) lt

pub checksum_after : (b : List ℕ) (h e i : ℕ) → h + 18 ≤ length b → h + 18 ≤ i →
    get_or (update_checksum b h e) i 0 ≡ get_or b i 0
unfolding update_checksum
checksum_after b h e i fits ge =
    let blank = length-overwrite b (h + 16) (0 ∷ 0 ∷ []) (omega arith) in
    overwrite_after (with_zero_checksum b h) (h + 16) (to_be_bytes w16 (65535 - sum_between
    (with_zero_checksum b h) h e)) i (omega arith) (omega arith)
    ∙ overwrite_after b (h + 16) (0 ∷ 0 ∷ []) i (omega arith) (omega arith)

-- the bytes with a word at h + 16, where the checksum stands
abbrev with_word : List ℕ → ℕ → ℕ → ℕ → List ℕ
with_word b h high low = overwrite b (h + 16) (high ∷ low ∷ [])

-- a range from h to e with a word at h + 16
worded : (b : List ℕ) (h e high low : ℕ) → h + 18 ≤ e → e ≤ length b →
    slice_range (with_word b h high low) h e ≡ slice_range b h (h + 16) ++ (high ∷ low ∷ slice_range b (h + 18) e)
worded b h e high low he fits =
    let word = high ∷ low ∷ [] in
    let len = length-overwrite b (h + 16) (high ∷ low ∷ []) (omega arith) in
    let front : slice_range (with_word b h high low) h (h + 16) ≡ slice_range b h (h + 16) =
    range_same (with_word b h high low) b h (h + 16) len (λ k ge lt. overwrite_before b (h + 16) (high ∷ low ∷ []) k
    (omega arith) lt) in
    let middle : slice_range (with_word b h high low) (h + 16) (h + 18) ≡ high ∷ low ∷ [] =
    overwrite_range b (h + 16) (high ∷ low ∷ []) (h + 18) (omega arith) (omega arith) in
    let rest : slice_range (with_word b h high low) (h + 18) e ≡ slice_range b (h + 18) e =
    range_same (with_word b h high low) b (h + 18) e len (λ k ge lt. overwrite_after b (h + 16) (high ∷ low ∷ []) k
    (omega arith) (omega arith)) in
    range_split (with_word b h high low) h (h + 16) e (omega arith) (omega arith)
    ∙ (ap (λ (xs : List ℕ). xs ++ slice_range (with_word b h high low) (h + 16) e) front
    ∙ ap (λ (xs : List ℕ). slice_range b h (h + 16) ++ xs)
    (range_split (with_word b h high low) (h + 16) (h + 18) e (omega arith) (omega arith)
    ∙ (ap (λ (xs : List ℕ). xs ++ slice_range (with_word b h high low) (h + 18) e) middle
    ∙ ap (λ (xs : List ℕ). high ∷ low ∷ xs) rest)))

-- the sum with a word at h + 16
sum_worded : (b : List ℕ) (s h e high low : ℕ) → h + 18 ≤ e → e ≤ length b →
    ones_sum s (slice_range (with_word b h high low) h e) ≡ ones_sum (ones_sum s (slice_range b h (h + 16)))
    (high ∷ low ∷ slice_range b (h + 18) e)
sum_worded b s h e high low he fits =
    ap (λ (xs : List ℕ). ones_sum s xs) (worded b h e high low he fits)
    ∙ ones_sum_append 8 s (slice_range b h (h + 16)) (high ∷ low ∷ slice_range b (h + 18) e) (length-range b h
    (h + 16) (omega arith) (omega arith) ∙ omega arith)

-- the sum of a segment with a word as its checksum
sum_with : (b : List ℕ) (h e high low : ℕ) → 34 ≤ h → h + 18 ≤ e → e ≤ length b →
    sum_between (with_word b h high low) h e ≡ ones_sum (ones_sum (pseudo_sum (slice_range b 26 34) 6 (e - h))
    (slice_range b h (h + 16))) (high ∷ low ∷ slice_range b (h + 18) e)
sum_with b h e high low ip he fits =
    let len = length-overwrite b (h + 16) (high ∷ low ∷ []) (omega arith) in
    let addresses : slice_range (with_word b h high low) 26 34 ≡ slice_range b 26 34 =
    range_same (with_word b h high low) b 26 34 len (λ k ge lt. overwrite_before b (h + 16) (high ∷ low ∷ []) k
    (omega arith) (omega arith)) in
    ap (λ (xs : List ℕ). ones_sum (pseudo_sum xs 6 (e - h)) (slice_range (with_word b h high low) h e)) addresses
    ∙ sum_worded b (pseudo_sum (slice_range b 26 34) 6 (e - h)) h e high low he fits

-- the checksum that closes the sum makes it 0xFFFF
closed_by : (b : List ℕ) (h e high low : ℕ) → 34 ≤ h → h + 18 ≤ e → e ≤ length b → e < 65536 → AreBytes b →
    high * 256 + low ≡ 65535 - sum_between (with_zero_checksum b h) h e →
    sum_between (with_word b h high low) h e ≡ 65535
closed_by b h e high low ip he fits small bytes word =
    let addresses = slice_range b 26 34 in
    let start = pseudo_sum addresses 6 (e - h) in
    let front = slice_range b h (h + 16) in
    let address_sum = ones_sum_fits 0 addresses (omega arith) (AreBytes-range b 26 34 bytes) in
    let start_fits : pseudo_sum (slice_range b 26 34) 6 (e - h) < 65536 =
    ones_add_fits (ones_add (ones_sum 0 addresses) 6) (e - h)
    (ones_add_fits (ones_sum 0 addresses) 6 address_sum (omega arith)) (omega arith) in
    sum_with b h e high low ip he fits
    ∙ ones_sum_closed (ones_sum start front) high low (slice_range b (h + 18) e)
    (ones_sum_fits start front start_fits (AreBytes-range b h (h + 16) bytes)) (AreBytes-range b (h + 18) e bytes)
    (word ∙ ap (λ (n : ℕ). 65535 - n) (sum_with b h e 0 0 ip he fits))

checksum_once : (b : List ℕ) (h e : ℕ) → h + 18 ≤ length b →
    update_checksum b h e ≡ overwrite b (h + 16) (to_be_bytes w16 (65535 - sum_between (with_zero_checksum b h) h e))
unfolding update_checksum
checksum_once b h e fits = overwrite_twice b (h + 16) (0 ∷ 0 ∷ []) (to_be_bytes w16 (65535 - sum_between
    (with_zero_checksum b h) h e)) refl (omega arith)

pub checksum_is_right : (b : List ℕ) (h e : ℕ) → 34 ≤ h → h + 18 ≤ e → e ≤ length b → e < 65536 → AreBytes b →
    sum_between (update_checksum b h e) h e ≡ 65535
checksum_is_right b h e ip he fits small bytes =
    let w = 65535 - sum_between (with_zero_checksum b h) h e in
    ap (λ (xs : List ℕ). sum_between xs h e) (checksum_once b h e (omega arith))
    ∙ closed_by b h e (w / 256 % 256) (w % 256) ip he fits small bytes (omega arith)

-- what a segment's facts say of its places
pub places : (b : List ℕ) → IsSegment b → (34 ≤ header_end b) × (header_end b + 20 ≤ header_end b + data_offset b
    (header_end b)) × (header_end b + data_offset b (header_end b) ≤ datagram_end b) × (datagram_end b ≤ length b) ×
    (datagram_end b < 65536)
places b s =
    let d = s.datagram in
    let h = s.holds in
    (h.after_ip, omega (arith, h.header), h.payload, h.within, omega (arith, h.within, h.short))

-- an edit from a place after the sequence number on that spares the header's length, and then a new checksum
pub record Edited (b c : List ℕ) : Type 0 where
  pub len : length c ≡ length b
  pub front : (i : ℕ) → i < header_end b + 8 → get_or c i 0 ≡ get_or b i 0
  pub middle : (i : ℕ) → header_end b + 12 ≤ i → i < header_end b + 16 → get_or c i 0 ≡ get_or b i 0

-- bytes with a new checksum at the places of b
abbrev pub recomputed : List ℕ → List ℕ → List ℕ
recomputed b c = update_checksum c (header_end b) (datagram_end b)

pub checksum_keeps : (b c : List ℕ) → IsSegment b → Edited b c → KeepsPlaces b (recomputed b c)
checksum_keeps b c s edit =
    let p = places b s in
    let len = edit.len in
    record {
      len = length-update_checksum c (header_end b) (datagram_end b) (omega arith) ∙ edit.len;
      front = λ i lt. checksum_before c (header_end b) (datagram_end b) i (omega arith) (omega arith) ∙ edit.front i lt;
      offset = checksum_before c (header_end b) (datagram_end b) (header_end b + 12) (omega arith) (omega arith)
          ∙ edit.middle (header_end b + 12) (omega arith) (omega arith);
    }

pub edited_segment : (b c : List ℕ) → IsSegment b → Edited b c → AreBytes c → IsSegment (recomputed b c)
edited_segment b c s edit bytes =
    let p = places b s in
    let len = edit.len in
    kept_segment b (recomputed b c) s (checksum_keeps b c s edit)
    (checksum_is_right c (header_end b) (datagram_end b) (omega arith) (omega arith) (omega arith) (omega arith) bytes)

-- the fields after such an edit
pub edited_fields : (b c : List ℕ) → IsSegment b → Edited b c →
    fields_in (recomputed b c) ≡ tcp_fields (recomputed b c) (header_end b) (datagram_end b)
edited_fields b c s edit =
    let k = checksum_keeps b c s edit in
    ap (λ (h : ℕ). tcp_fields (recomputed b c) h (datagram_end (recomputed b c))) (same_header_end b (recomputed b c) k)
    ∙ ap (λ (e : ℕ). tcp_fields (recomputed b c) (header_end b) e) (same_datagram_end b (recomputed b c) k)

-- the fields of bytes that keep all but the acknowledgement, the checksum and the options
pub same_fields : (b f : List ℕ) → IsSegment b → KeepsPlaces b f → ((i : ℕ) → header_end b + 12 ≤ i →
    i < header_end b + 16 → get_or f i 0 ≡ get_or b i 0) → (ack : ℕ) (options : List ℕ) →
    be32_at f (header_end b + 8) ≡ ack → slice_range f (header_end b + 20) (header_end b + data_offset f
    (header_end b)) ≡ options → ((i : ℕ) → header_end b + data_offset b (header_end b) ≤ i →
    get_or f i 0 ≡ get_or b i 0) → tcp_fields f (header_end b) (datagram_end b)
    ≡ record (fields_in b) { ack = ack; options = options }
same_fields b f s k between ack options ack_is options_is behind =
    let p = places b s in
    let dst_mac = same_range b f 0 6 k (omega arith) in
    let src_mac = same_range b f 6 12 k (omega arith) in
    let src = same_four b f 26 k (omega arith) in
    let dst = same_four b f 30 k (omega arith) in
    let sport = same_two b f (header_end b) k (omega arith) in
    let dport = same_two b f (header_end b + 2) k (omega arith) in
    let seq = same_four b f (header_end b + 4) k (omega arith) in
    let flags = between (header_end b + 13) (omega arith) (omega arith) in
    let high = between (header_end b + 14) (omega arith) (omega arith) in
    let low = between (header_end b + 14 + 1) (omega arith) (omega arith) in
    let window : be16_at f (header_end b + 14) ≡ be16_at b (header_end b + 14) = omega arith in
    let offset : data_offset f (header_end b) ≡ data_offset b (header_end b) = ap (λ (n : ℕ). 4 * (n / 16)) k.offset in
    let payload : slice_range f (header_end b + data_offset f (header_end b)) (datagram_end b)
    ≡ slice_range b (header_end b + data_offset b (header_end b)) (datagram_end b) =
    ap (λ (n : ℕ). slice_range f (header_end b + n) (datagram_end b)) offset
    ∙ range_same f b (header_end b + data_offset b (header_end b)) (datagram_end b) k.len (λ i ge lt. behind i ge) in
    cc

-- the acknowledgement's four bytes
abbrev raised_ack : List ℕ → ℕ → List ℕ
raised_ack b by = to_be_bytes w32 ((be32_at b (header_end b + 8) + by) % 2 ^ 32)

abbrev with_ack : List ℕ → ℕ → List ℕ
with_ack b by = overwrite b (header_end b + 8) (raised_ack b by)

-- the frame with its acknowledgement raised and a new checksum
abbrev with_new_ack : List ℕ → ℕ → List ℕ
with_new_ack b by = update_checksum (with_ack b by) (header_end b) (datagram_end b)

shift_edits : (b : List ℕ) (by : ℕ) → IsSegment b → Edited b (with_ack b by)
shift_edits b by s =
    let p = places b s in
    record {
      len = length-overwrite b (header_end b + 8) (raised_ack b by) (omega arith);
      front = λ i lt. overwrite_before b (header_end b + 8) (raised_ack b by) i (omega arith) lt;
      middle = λ i ge lt. overwrite_after b (header_end b + 8) (raised_ack b by) i (omega arith) (omega arith);
    }

four_read : (b : List ℕ) (by : ℕ) → IsSegment b → be32_at (with_new_ack b by) (header_end b + 8)
    ≡ (be32_at b (header_end b + 8) + by) % 2 ^ 32
four_read b by s =
    let p = places b s in
    let h = header_end b in
    let n = (be32_at b (header_end b + 8) + by) % 2 ^ 32 in
    let c = with_ack b by in
    let len = length-overwrite b (header_end b + 8) (raised_ack b by) (omega arith) in
    let read : (i : ℕ) → header_end b + 8 ≤ i → i < header_end b + 12 →
    get_or (with_new_ack b by) i 0 ≡ get_or (raised_ack b by) (i - (header_end b + 8)) 0 =
    λ i ge lt. checksum_before (with_ack b by) (header_end b) (datagram_end b) i (omega arith) (omega arith)
    ∙ overwrite_within b (header_end b + 8) (raised_ack b by) i (omega arith) ge (omega arith) in
    let at : (k i : ℕ) → i ≡ header_end b + 8 + k → k < 4 → get_or (with_new_ack b by) i 0
    ≡ get_or (raised_ack b by) k 0 =
    λ k i e lt.
    let place : i - (header_end b + 8) ≡ k = omega arith in
    read i (omega arith) (omega arith) ∙ ap (λ (j : ℕ). get_or (raised_ack b by) j 0) place in
    let first : get_or (with_new_ack b by) (header_end b + 8) 0
    ≡ n / 256 ^ 3 % 256 = at 0 (header_end b + 8) (omega arith) (omega arith) in
    let second : get_or (with_new_ack b by) (header_end b + 8 + 1) 0
    ≡ n / 256 ^ 2 % 256 = at 1 (header_end b + 8 + 1) refl (omega arith) in
    let third : get_or (with_new_ack b by) (header_end b + 8 + 2) 0
    ≡ n / 256 ^ 1 % 256 = at 2 (header_end b + 8 + 2) refl (omega arith) in
    let fourth : get_or (with_new_ack b by) (header_end b + 8 + 3) 0
    ≡ n % 256 = at 3 (header_end b + 8 + 3) refl (omega arith) in
    let small : n < 2 ^ 32 = omega arith in
    omega arith

-- the bytes after the acknowledgement, but for the checksum, stay
ack_between : (b : List ℕ) (by : ℕ) → IsSegment b → (i : ℕ) → header_end b + 12 ≤ i → i < header_end b + 16 →
    get_or (with_new_ack b by) i 0 ≡ get_or b i 0
ack_between b by s i ge lt =
    let p = places b s in
    let wlen = length-overwrite b (header_end b + 8) (raised_ack b by) (omega arith) in
    checksum_before (with_ack b by) (header_end b) (datagram_end b) i (omega arith) lt
    ∙ overwrite_after b (header_end b + 8) (raised_ack b by) i (omega arith) (omega arith)

ack_after : (b : List ℕ) (by : ℕ) → IsSegment b → (i : ℕ) → header_end b + 18 ≤ i →
    get_or (with_new_ack b by) i 0 ≡ get_or b i 0
ack_after b by s i ge =
    let p = places b s in
    let wlen = length-overwrite b (header_end b + 8) (raised_ack b by) (omega arith) in
    checksum_after (with_ack b by) (header_end b) (datagram_end b) i (omega arith) ge
    ∙ overwrite_after b (header_end b + 8) (raised_ack b by) i (omega arith) (omega arith)

-- a shifted segment says what the segment said, but for its acknowledgement
pub shift_ack_parses : (b : List ℕ) (by : ℕ) → IsSegment b → AreBytes b →
    tcp_in (shift_ack b by) ≡ Some (shift_ack_fields by (fields_in b))
unfolding shift_ack
shift_ack_parses b by s bytes =
    let p = places b s in
    let f = with_new_ack b by in
    let edit = shift_edits b by s in
    let k = checksum_keeps b (with_ack b by) s edit in
    let is = edited_segment b (with_ack b by) s edit (AreBytes-overwrite b (header_end b + 8) (raised_ack b by) bytes
    (four_bytes ((be32_at b (header_end b + 8) + by) % 2 ^ 32))) in
    tcp_in_segment (with_new_ack b by) is
    ∙ ap (λ (t : TcpFields). Some t)
    (edited_fields b (with_ack b by) s edit
    ∙ same_fields b (with_new_ack b by) s k (ack_between b by s) (shift_ack_fields by (fields_in b)).ack
    (slice_range b (header_end b + 20) (header_end b + data_offset b (header_end b)))
    (four_read b by s)
    (ap (λ (n : ℕ). slice_range (with_new_ack b by) (header_end b + 20) (header_end b + n)) (ap (λ (n : ℕ). 4 *
    (n / 16)) k.offset)
    ∙ range_same (with_new_ack b by) b (header_end b + 20) (header_end b + data_offset b (header_end b)) k.len
    (λ i ge lt. ack_after b by s i (omega arith)))
    (λ i ge. ack_after b by s i (omega arith)))

-- a checksum recomputed depends on no checksum
checksum_same : (c d : List ℕ) (h e : ℕ) → h + 18 ≤ length c → length c ≡ length d → ((i : ℕ) → i < h + 16 →
    get_or c i 0 ≡ get_or d i 0) → ((i : ℕ) → h + 18 ≤ i → get_or c i 0 ≡ get_or d i 0) →
    update_checksum c h e ≡ update_checksum d h e
unfolding update_checksum
checksum_same c d h e fits len before behind =
    let lc = length-overwrite c (h + 16) (0 ∷ 0 ∷ []) (omega arith) in
    let ld = length-overwrite d (h + 16) (0 ∷ 0 ∷ []) (omega arith) in
    let same : with_zero_checksum c h ≡ with_zero_checksum d h =
    ext_get_or 0 (with_zero_checksum c h) (with_zero_checksum d h) (omega arith)
    (λ i lt.
    ⊎_elim
    (λ (below : i < h + 16).
    overwrite_before c (h + 16) (0 ∷ 0 ∷ []) i (omega arith) below
    ∙ (before i below ∙ sym (overwrite_before d (h + 16) (0 ∷ 0 ∷ []) i (omega arith) below)))
    (λ (from : h + 16 ≤ i).
    ⊎_elim
    (λ (inside : i < h + 18).
    overwrite_within c (h + 16) (0 ∷ 0 ∷ []) i (omega arith) from (omega arith)
    ∙ sym (overwrite_within d (h + 16) (0 ∷ 0 ∷ []) i (omega arith) from (omega arith)))
    (λ (past : h + 18 ≤ i).
    overwrite_after c (h + 16) (0 ∷ 0 ∷ []) i (omega arith) (omega arith)
    ∙ (behind i past ∙ sym (overwrite_after d (h + 16) (0 ∷ 0 ∷ []) i (omega arith) (omega arith))))
    (cases_lt i (h + 18)))
    (cases_lt i (h + 16))) in
    ap (λ (u : List ℕ). overwrite u (h + 16) (to_be_bytes w16 (65535 - sum_between u h e))) same

-- shifting a shifted segment, with the places of the first
shift_at : List ℕ → ℕ → ℕ → ℕ → List ℕ
shift_at f n h e = update_checksum (overwrite f (h + 8) (to_be_bytes w32 n)) h e

shift_again : (b f : List ℕ) (n h e : ℕ) → h + 18 ≤ length b → length f ≡ length b → ((i : ℕ) → i < h + 8 →
    get_or f i 0 ≡ get_or b i 0) → ((i : ℕ) → h + 12 ≤ i → i < h + 16 → get_or f i 0 ≡ get_or b i 0) → ((i : ℕ) →
    h + 18 ≤ i → get_or f i 0 ≡ get_or b i 0) → shift_at f n h e ≡ shift_at b n h e
unfolding shift_at
shift_again b f n h e fits len front between behind =
    let part = to_be_bytes w32 n in
    let lf = length-overwrite f (h + 8) (to_be_bytes w32 n) (omega arith) in
    let lb = length-overwrite b (h + 8) (to_be_bytes w32 n) (omega arith) in
    checksum_same (overwrite f (h + 8) (to_be_bytes w32 n)) (overwrite b (h + 8) (to_be_bytes w32 n)) h e
    (omega arith) (omega arith)
    (λ i lt.
    ⊎_elim
    (λ (below : i < h + 8).
    overwrite_before f (h + 8) (to_be_bytes w32 n) i (omega arith) below
    ∙ (front i below ∙ sym (overwrite_before b (h + 8) (to_be_bytes w32 n) i (omega arith) below)))
    (λ (from : h + 8 ≤ i).
    ⊎_elim
    (λ (inside : i < h + 12).
    overwrite_within f (h + 8) (to_be_bytes w32 n) i (omega arith) from (omega arith)
    ∙ sym (overwrite_within b (h + 8) (to_be_bytes w32 n) i (omega arith) from (omega arith)))
    (λ (past : h + 12 ≤ i).
    overwrite_after f (h + 8) (to_be_bytes w32 n) i (omega arith) (omega arith)
    ∙ (between i past lt ∙ sym (overwrite_after b (h + 8) (to_be_bytes w32 n) i (omega arith) (omega arith))))
    (cases_lt i (h + 12)))
    (cases_lt i (h + 8)))
    (λ i ge.
    overwrite_after f (h + 8) (to_be_bytes w32 n) i (omega arith) (omega arith)
    ∙ (behind i ge ∙ sym (overwrite_after b (h + 8) (to_be_bytes w32 n) i (omega arith) (omega arith))))

-- shifting by one number and then by another is shifting by their sum
pub shift_ack_twice : (b : List ℕ) (by more : ℕ) → IsSegment b →
    shift_ack (shift_ack b by) more ≡ shift_ack b (by + more)
unfolding shift_ack shift_at
shift_ack_twice b by more s =
    let p = places b s in
    let f = with_new_ack b by in
    let edit = shift_edits b by s in
    let k = checksum_keeps b (with_ack b by) s edit in
    let he = same_header_end b (with_new_ack b by) k in
    let de = same_datagram_end b (with_new_ack b by) k in
    let sum : (be32_at (with_new_ack b by) (header_end b + 8) + more) % 2 ^ 32
    ≡ (be32_at b (header_end b + 8) + (by + more)) % 2 ^ 32 =
    ap (λ (n : ℕ). (n + more) % 2 ^ 32) (four_read b by s) ∙ omega arith in
    ap (λ (h : ℕ). shift_at (with_new_ack b by) ((be32_at (with_new_ack b by) (h + 8) + more) % 2 ^ 32) h
    (datagram_end (with_new_ack b by))) he
    ∙ (ap (λ (e : ℕ). shift_at (with_new_ack b by) ((be32_at (with_new_ack b by) (header_end b + 8) + more) % 2 ^ 32)
    (header_end b) e) de
    ∙ (ap (λ (n : ℕ). shift_at (with_new_ack b by) n (header_end b) (datagram_end b)) sum
    ∙ shift_again b (with_new_ack b by) ((be32_at b (header_end b + 8) + (by + more)) % 2 ^ 32) (header_end b)
    (datagram_end b) (omega arith) k.len k.front (ack_between b by s) (ack_after b by s)))

pub AreBytes-shift_ack : (b : List ℕ) (by : ℕ) → AreBytes b → AreBytes (shift_ack b by)
unfolding shift_ack
AreBytes-shift_ack b by bytes =
    AreBytes-update_checksum (with_ack b by) (header_end b) (datagram_end b)
    (AreBytes-overwrite b (header_end b + 8) (raised_ack b by) bytes (four_bytes ((be32_at b
    (header_end b + 8) + by) % 2 ^ 32)))

pub length-shift_ack : (b : List ℕ) (by : ℕ) → IsSegment b → length (shift_ack b by) ≡ length b
unfolding shift_ack
length-shift_ack b by s = (checksum_keeps b (with_ack b by) s (shift_edits b by s)).len
