-- A segment with cleaned options.
use Rattle.std.proofs.Common.{◌≡◌, ℕ, ◌+◌, ◌-◌, ◌*◌, ◌/◌, ◌<◌, ◌≤◌, Bool, true, false, cond, ◌&&◌, List, ◌++◌, length, get_or, take, drop, Some, refl, ap, sym, ◌∙◌, arith, subst, ⊎_elim}
use Rattle.std.proofs.lemmas.Bool.{and_right, cases_Bool}
use Rattle.std.proofs.lemmas.List.{take-append-drop}
use Rattle.std.specs.List.{slice_range}
use borrow.Rule.Slice.PartMut.{put_mid}
use Rattle.shared_definitions.specs.Bytes.{AreBytes}
use Rattle.inet_frame.specs.Counted.{tcp_in}
use Rattle.inet_frame.specs.Fields.{TcpFields}
use Rattle.inet_frame.specs.Flags.{has_syn}
use Rattle.inet_frame.specs.Frame.{IsSegment, fields_in}
use Rattle.inet_frame.specs.Place.{be32_at, header_end, datagram_end, data_offset}
use Rattle.shared_definitions.proofs.ByteLemmas.{AreBytes-overwrite, AreBytes-range}
use Rattle.inet_frame.proofs.FrameLemmas.{tcp_in_segment}
use Rattle.inet_build.proofs.OptionLemmas.{length-clean_options, clean_is_clean, clean_same, AreBytes-clean_options}
use Rattle.inet_build.proofs.EditLemmas.{Edited, places, same_fields, checksum_keeps, edited_segment, edited_fields, same_header_end, checksum_before, checksum_after, AreBytes-update_checksum}
use Rattle.shared_definitions.specs.Overwrite.{overwrite}
use Rattle.shared_definitions.proofs.OverwriteLemmas.{length-overwrite, overwrite_before, overwrite_after, overwrite_range}
use Rattle.shared_definitions.proofs.RangeLemmas.{range_same, length-range}
use Rattle.inet_build.specs.Edit.{update_checksum, options_in, needs_cleaning, clean_syn, clean_syn_fields}
use Rattle.inet_build.specs.Options.{has_unwanted, clean_options}

-- the options overwritten, the checksum as it was
abbrev with_options : List ℕ → List ℕ
with_options b = overwrite b (header_end b + 20) (clean_options (options_in b))

abbrev clean_frame : List ℕ → List ℕ
clean_frame b = update_checksum (with_options b) (header_end b) (datagram_end b)

pub clean_syn_yes : (b : List ℕ) → needs_cleaning b ≡ true → clean_syn b ≡ clean_frame b
unfolding clean_syn
clean_syn_yes b e = ap (λ (t : Bool). cond t (clean_frame b) b) e

pub clean_syn_no : (b : List ℕ) → needs_cleaning b ≡ false → clean_syn b ≡ b
unfolding clean_syn
clean_syn_no b e = ap (λ (t : Bool). cond t (clean_frame b) b) e

-- the frame with clean options is bytes
options_bytes : (b : List ℕ) → AreBytes b → AreBytes (with_options b)
options_bytes b bytes =
    AreBytes-overwrite b (header_end b + 20) (clean_options (options_in b)) bytes
    (AreBytes-clean_options (options_in b) (AreBytes-range b (header_end b + 20) (header_end b + data_offset b
    (header_end b)) bytes))

pub AreBytes-clean_syn : (b : List ℕ) → AreBytes b → AreBytes (clean_syn b)
AreBytes-clean_syn b bytes =
    let P : List ℕ → Type 0 = λ xs. AreBytes xs in
    ⊎_elim
    (λ (yes : needs_cleaning b ≡ true).
    subst P (sym (clean_syn_yes b yes)) (AreBytes-update_checksum (with_options b) (header_end b) (datagram_end b)
    (options_bytes b bytes)))
    (λ (no : needs_cleaning b ≡ false). subst P (sym (clean_syn_no b no)) bytes)
    (cases_Bool (needs_cleaning b))

-- the cleaned options end where the options ended
options_len : (b : List ℕ) → IsSegment b → header_end b + 20 + length (clean_options (options_in b))
    ≡ header_end b + data_offset b (header_end b)
options_len b s =
    let p = places b s in
    let len = length-clean_options (options_in b) in
    let range = length-range b (header_end b + 20) (header_end b + data_offset b (header_end b)) (omega arith)
    (omega arith) in
    omega arith

clean_edits : (b : List ℕ) → IsSegment b → Edited b (with_options b)
clean_edits b s =
    let p = places b s in
    let end = options_len b s in
    record {
      len = length-overwrite b (header_end b + 20) (clean_options (options_in b)) (omega arith);
      front = λ i lt. overwrite_before b (header_end b + 20) (clean_options (options_in b)) i (omega arith)
          (omega arith);
      middle = λ i ge lt. overwrite_before b (header_end b + 20) (clean_options (options_in b)) i (omega arith)
          (omega arith);
    }

clean_frame_between : (b : List ℕ) → IsSegment b → (i : ℕ) → header_end b + 12 ≤ i → i < header_end b + 16 →
    get_or (clean_frame b) i 0 ≡ get_or b i 0
clean_frame_between b s i ge lt =
    let p = places b s in
    let edit = clean_edits b s in
    let len = edit.len in
    checksum_before (with_options b) (header_end b) (datagram_end b) i (omega arith) lt ∙ edit.middle i ge lt

clean_frame_behind : (b : List ℕ) → IsSegment b → (i : ℕ) → header_end b + data_offset b (header_end b) ≤ i →
    get_or (clean_frame b) i 0 ≡ get_or b i 0
clean_frame_behind b s i ge =
    let p = places b s in
    let edit = clean_edits b s in
    let len = edit.len in
    let end = options_len b s in
    checksum_after (with_options b) (header_end b) (datagram_end b) i (omega arith) (omega arith)
    ∙ overwrite_after b (header_end b + 20) (clean_options (options_in b)) i (omega arith) (omega arith)

-- the options of the new frame
clean_frame_options : (b : List ℕ) → IsSegment b → slice_range (clean_frame b) (header_end b + 20)
    (header_end b + data_offset b (header_end b)) ≡ clean_options (options_in b)
clean_frame_options b s =
    let p = places b s in
    let edit = clean_edits b s in
    let len = edit.len in
    let end = options_len b s in
    let k = checksum_keeps b (with_options b) s edit in
    let whole = k.len in
    range_same (clean_frame b) (with_options b) (header_end b + 20) (header_end b + data_offset b (header_end b))
    (omega arith)
    (λ i ge lt. checksum_after (with_options b) (header_end b) (datagram_end b) i (omega arith) (omega arith))
    ∙ overwrite_range b (header_end b + 20) (clean_options (options_in b)) (header_end b + data_offset b
    (header_end b)) (omega arith) (sym end)

clean_frame_options_at : (b : List ℕ) → IsSegment b → slice_range (clean_frame b) (header_end b + 20)
    (header_end b + data_offset (clean_frame b) (header_end b)) ≡ clean_options (options_in b)
clean_frame_options_at b s =
    let k = checksum_keeps b (with_options b) s (clean_edits b s) in
    ap (λ (n : ℕ). slice_range (clean_frame b) (header_end b + 20) (header_end b + 4 * (n / 16))) k.offset
    ∙ clean_frame_options b s

clean_frame_parses : (b : List ℕ) → IsSegment b → AreBytes b →
    tcp_in (clean_frame b) ≡ Some (record (fields_in b) { options = clean_options (options_in b) })
clean_frame_parses b s bytes =
    let p = places b s in
    let edit = clean_edits b s in
    let len = edit.len in
    let k = checksum_keeps b (with_options b) s edit in
    let end = options_len b s in
    let ack : be32_at (clean_frame b) (header_end b + 8) ≡ be32_at b (header_end b + 8) =
    let at : (i : ℕ) → i < header_end b + 16 → get_or (clean_frame b) i 0 ≡ get_or b i 0 =
    λ i lt. checksum_before (with_options b) (header_end b) (datagram_end b) i (omega arith) lt
    ∙ overwrite_before b (header_end b + 20) (clean_options (options_in b)) i (omega arith) (omega arith) in
    let first = at (header_end b + 8) (omega arith) in
    let second = at (header_end b + 8 + 1) (omega arith) in
    let third = at (header_end b + 8 + 2) (omega arith) in
    let fourth = at (header_end b + 8 + 3) (omega arith) in
    omega arith in
    tcp_in_segment (clean_frame b) (edited_segment b (with_options b) s edit (options_bytes b bytes))
    ∙ ap (λ (t : TcpFields). Some t)
    (edited_fields b (with_options b) s edit
    ∙ same_fields b (clean_frame b) s k (clean_frame_between b s) (be32_at b (header_end b + 8)) (clean_options
    (options_in b)) ack (clean_frame_options_at b s) (clean_frame_behind b s))

clean_syn_parses_by : (syn unwanted : Bool) (b : List ℕ) → IsSegment b →
    has_syn (get_or b (header_end b + 13) 0) ≡ syn → has_unwanted (options_in b) ≡ unwanted → AreBytes b →
    tcp_in (clean_syn b) ≡ Some (cond syn (record (fields_in b) { options = clean_options (options_in b) })
    (fields_in b))
clean_syn_parses_by true true b s syn unwanted bytes =
    ap tcp_in (clean_syn_yes b (ap (λ (t : Bool). t && has_unwanted (options_in b)) syn ∙ unwanted))
    ∙ clean_frame_parses b s bytes
clean_syn_parses_by true false b s syn unwanted bytes =
    ap tcp_in (clean_syn_no b (ap (λ (t : Bool). t && has_unwanted (options_in b)) syn ∙ unwanted))
    ∙ (tcp_in_segment b s ∙ ap (λ (os : List ℕ). Some (record (fields_in b) { options = os })) (sym (clean_same
    (options_in b) unwanted)))
clean_syn_parses_by false unwanted b s syn found bytes =
    ap tcp_in (clean_syn_no b (ap (λ (t : Bool). t && has_unwanted (options_in b)) syn)) ∙ tcp_in_segment b s

-- a cleaned segment says what the segment said, but for its options
pub clean_syn_parses : (b : List ℕ) → IsSegment b → AreBytes b →
    tcp_in (clean_syn b) ≡ Some (clean_syn_fields (fields_in b))
clean_syn_parses b s bytes = clean_syn_parses_by (has_syn (get_or b (header_end b + 13) 0)) (has_unwanted
    (options_in b)) b s refl refl bytes

pub length-clean_syn : (b : List ℕ) → IsSegment b → length (clean_syn b) ≡ length b
length-clean_syn b s =
    ⊎_elim
    (λ (yes : needs_cleaning b ≡ true).
    ap length (clean_syn_yes b yes) ∙ (checksum_keeps b (with_options b) s (clean_edits b s)).len)
    (λ (no : needs_cleaning b ≡ false). ap length (clean_syn_no b no))
    (cases_Bool (needs_cleaning b))

-- cleaning twice is cleaning once
pub clean_syn_twice : (b : List ℕ) → IsSegment b → clean_syn (clean_syn b) ≡ clean_syn b
clean_syn_twice b s =
    ⊎_elim
    (λ (yes : needs_cleaning b ≡ true).
    let is = clean_syn_yes b yes in
    let k = checksum_keeps b (with_options b) s (clean_edits b s) in
    let options : options_in (clean_frame b) ≡ clean_options (options_in b) =
    ap (λ (h : ℕ). slice_range (clean_frame b) (h + 20) (h + data_offset (clean_frame b) h)) (same_header_end b
    (clean_frame b) k) ∙ clean_frame_options_at b s in
    let clean : has_unwanted (options_in (clean_frame b)) ≡ false = ap has_unwanted options
    ∙ clean_is_clean (options_in b) in
    let no : needs_cleaning (clean_frame b) ≡ false = and_right (has_syn (get_or (clean_frame b) (header_end
    (clean_frame b) + 13) 0)) (has_unwanted (options_in (clean_frame b))) clean in
    ap clean_syn is ∙ (clean_syn_no (clean_frame b) no ∙ sym is))
    (λ (no : needs_cleaning b ≡ false). ap clean_syn (clean_syn_no b no))
    (cases_Bool (needs_cleaning b))

put_back : (xs : List ℕ) (at n : ℕ) → put_mid at n xs (take n (drop at xs)) ≡ xs
put_back xs at n =
    ap (λ (ys : List ℕ). take at xs ++ ys) (take-append-drop n (drop at xs)) ∙ take-append-drop at xs

-- options without an unwanted one leave the frame as it was; h and offset are where the header ends and how long
-- the next one is
pub unclean : (b new : List ℕ) (h offset at n : ℕ) → IsSegment b → h ≡ header_end b → offset ≡ data_offset b h →
    at ≡ h + 20 → n ≡ h + offset - at → new ≡ clean_options (take n (drop at b)) →
    has_unwanted (take n (drop at b)) ≡ false → put_mid at n b new ≡ clean_syn b
unclean b new h offset at n s h_is offset_is at_is n_is new_is clean =
    let same : new ≡ take n (drop at b) = new_is ∙ clean_same (take n (drop at b)) clean in
    let reach : offset ≡ data_offset b (header_end b) = offset_is ∙ ap (λ (k : ℕ). data_offset b k) h_is in
    let start : at ≡ header_end b + 20 = omega arith in
    let len : n ≡ header_end b + data_offset b (header_end b) - (header_end b + 20) = omega arith in
    let part : take n (drop at b) ≡ options_in b =
    ap (λ (k : ℕ). take k (drop at b)) len ∙ ap (λ (k : ℕ). take (header_end b + data_offset b (header_end b) -
    (header_end b + 20)) (drop k b)) start in
    let no : needs_cleaning b ≡ false = and_right (has_syn (get_or b (header_end b + 13) 0)) (has_unwanted
    (options_in b)) (ap has_unwanted (sym part) ∙ clean) in
    ap (λ (ys : List ℕ). put_mid at n b ys) same ∙ (put_back b at n ∙ sym (clean_syn_no b no))
