-- Tests of the parts, one each: a log that passes has the part. They compute, so that a worked log is shown by `refl`.
use Rattle.std.proofs.Common.{◌≡◌, ◌⊎◌, inl, inr, ℕ, zero, suc, ◌+◌, ◌^◌, ◌<◌, ◌&&◌, ◌||◌, ◌==◌, nat_lt, nat_le, not, Bool, true, false, List, [], ◌∷◌, ◌++◌, length, Option, None, Some, slice_index, refl, sym, ap, subst, ◌∙◌, eqb-true, ltb-true, leb-true, true≢false, arith}
use Rattle.std.specs.Prelude.{All, IsTrue}
use Rattle.std.specs.List.{list_all}
use Rattle.std.specs.List.Sorted.{IsStrictlyIncreasing}
use Rattle.std.proofs.lemmas.Bool.{and_parts, not-true, or_cases}
use Rattle.colo_base.specs.declared.fault.Cause.{Cause}
use Rattle.colo_base.specs.declared.fault.Cause.TheVariants.{Differ, Restart, Wait, Asked}
use Rattle.inet_frame.specs.Fields.{TcpFields}
use Rattle.inet_frame.specs.Flags.{has_rst}
use Rattle.shared_definitions.specs.Bytes.{AreBytes}
use Rattle.shared_definitions.proofs.ByteLemmas.{AreBytes-cons}
use Rattle.inet_build.specs.Segment.{fields_of, HeaderFits, IsBuildable, MssFits}
use Rattle.inet_build.specs.declared.fields.Segment.{Segment}
use Rattle.tcp_track.specs.Offsets.{distance}
use Rattle.tcp_track.specs.Segments.{is_near, is_refusal, may_open, symbols_in}
use Rattle.tcp_track.specs.Stands.{ResetStands, acked_in}
use Rattle.settle_rules.specs.Release.{Released, tcp, reply, largest_payload}
use Rattle.pair_theorem.specs.FrameParts.{AcksPart, IsAcked, IsShaped, IsStandingRefusal, NumbersPart, PlaceAcks, PlaceStands, ShapePart, ShowsAgreed, StandsPart, SymbolsStand, Syn, event_acks, is_judged, is_released, reply_due, same_number_shown, syns}
use Rattle.pair_theorem.specs.History.{entries, lines_of}
use Rattle.state_wire.specs.Guest.{GuestState}
use Rattle.replay_log.specs.declared.lines.Line.{Line}
use Rattle.replay_log.specs.declared.records.Mark.{Mark}
use Rattle.replay_log.specs.declared.records.Mark.TheVariants.{Captured, Committed, Acknowledged}
use Rattle.pair_theorem.specs.LogParts.{acks_due, commits_due, causes_in, counts_released, counts_stated, marks_that, FilesPart, LogPart, MarksPart, NamesPart, accepted_indices, capture_marks, files_of, is_accounted_for, is_acknowledged, is_captured, is_committed, inbox_indices, nodes_at, run_indices, survivor_state}
use Rattle.pair_theorem.specs.Past.{Agreed, Start, Step}
use Rattle.pair_theorem.specs.Places.{Event, Place, delivered_due, delivered_in, events, places}
use Rattle.splice_run.specs.Runs.{accepted_frame, is_accepted}
use Rattle.pair_theorem.specs.TheRun.{run_segments, stream_entry, the_run}
use Rattle.pair_theorem.proofs.AllLemmas.{All_from}
use Rattle.pair_theorem.proofs.ResetTests.{is_refusal_shown, refusal_shown, reset_stands, resets_from}
use Rattle.pair_theorem.proofs.StandsTests.{each_stands, each_symbol}

-- SHAPE
abbrev pub is_byte : ℕ → Bool
is_byte b = nat_lt b 256

pub bytes_are : (xs : List ℕ) → list_all is_byte xs ≡ true → AreBytes xs
bytes_are [] e = λ k. omega arith
bytes_are (x ∷ xs) e =
    let parts = and_parts (is_byte x) (list_all is_byte xs) e in
    AreBytes-cons x xs (ltb-true x 256 parts.0) (bytes_are xs parts.1)

abbrev pub mss_fits : Option ℕ → Bool
mss_fits None = true
mss_fits (Some mss) = nat_lt mss (2 ^ 16)

mss_within : (mss : Option ℕ) → mss_fits mss ≡ true → MssFits mss
mss_within None e = tt
mss_within (Some mss) e = ltb-true mss (2 ^ 16) e

abbrev pub header_fits : Segment → Bool
header_fits s =
    nat_lt s.tuple.port (2 ^ 16) && (nat_lt s.tuple.guest (2 ^ 16) && (nat_lt s.seq (2 ^ 32)
    && (nat_lt s.ack (2 ^ 32) && (nat_lt s.flags (2 ^ 8) && nat_lt s.window (2 ^ 16)))))

header_within : (s : Segment) → header_fits s ≡ true → HeaderFits s
header_within s e =
    let a = and_parts (nat_lt s.tuple.port (2 ^ 16)) _ e in
    let b = and_parts (nat_lt s.tuple.guest (2 ^ 16)) _ a.1 in
    let c = and_parts (nat_lt s.seq (2 ^ 32)) _ b.1 in
    let d = and_parts (nat_lt s.ack (2 ^ 32)) _ c.1 in
    let f = and_parts (nat_lt s.flags (2 ^ 8)) _ d.1 in
    record {
      port = ltb-true s.tuple.port (2 ^ 16) a.0;
      guest = ltb-true s.tuple.guest (2 ^ 16) b.0;
      seq = ltb-true s.seq (2 ^ 32) c.0;
      ack = ltb-true s.ack (2 ^ 32) d.0;
      flags = ltb-true s.flags (2 ^ 8) f.0;
      window = ltb-true s.window (2 ^ 16) f.1;
    }

abbrev pub segment_fits : Segment → List ℕ → Bool
segment_fits s payload =
    header_fits s && (mss_fits s.mss && (nat_lt s.tuple.addr (2 ^ 32) && (length s.dst_mac == 6
    && (list_all is_byte s.dst_mac && (nat_le (length payload) largest_payload && list_all is_byte payload)))))

segment_of : (s : Segment) (payload : List ℕ) → segment_fits s payload ≡ true → IsBuildable s payload
segment_of s payload e =
    let a = and_parts (header_fits s) _ e in
    let b = and_parts (mss_fits s.mss) _ a.1 in
    let c = and_parts (nat_lt s.tuple.addr (2 ^ 32)) _ b.1 in
    let d = and_parts (length s.dst_mac == 6) _ c.1 in
    let f = and_parts (list_all is_byte s.dst_mac) _ d.1 in
    let g = and_parts (nat_le (length payload) largest_payload) _ f.1 in
    record {
      mac_len = eqb-true (length s.dst_mac) 6 d.0;
      mac = bytes_are s.dst_mac f.0;
      client = ltb-true s.tuple.addr (2 ^ 32) c.0;
      header = header_within s a.0;
      mss = mss_within s.mss b.0;
      payload_len = leb-true (length payload) largest_payload g.0;
      payload = bytes_are payload g.1;
    }

abbrev pub same_bytes : List ℕ → List ℕ → Bool
same_bytes [] [] = true
same_bytes [] (y ∷ ys) = false
same_bytes (x ∷ xs) [] = false
same_bytes (x ∷ xs) (y ∷ ys) = x == y && same_bytes xs ys

pub are_same : (xs ys : List ℕ) → same_bytes xs ys ≡ true → xs ≡ ys
are_same [] [] e = refl
are_same [] (y ∷ ys) e = absurd (cc e)
are_same (x ∷ xs) [] e = absurd (cc e)
are_same (x ∷ xs) (y ∷ ys) e =
    let h = and_parts (x == y) (same_bytes xs ys) e in
    let first = eqb-true x y h.0 in
    let rest = are_same xs ys h.1 in
    λ i. first i ∷ rest i

abbrev pub is_bytes : Option (List ℕ) → List ℕ → Bool
is_bytes None b = false
is_bytes (Some c) b = same_bytes c b

abbrev pub frame_shape : Option (List ℕ) → Released → Bool
frame_shape due (tcp s payload) = segment_fits s payload
frame_shape due (reply b) = is_bytes due b

is_due : (due : Option (List ℕ)) (b : List ℕ) → is_bytes due b ≡ true → due ≡ Some b
is_due None b e = absurd (cc e)
is_due (Some c) b e = ap (λ (x : List ℕ). Some x) (are_same c b e)

shaped : (due : Option (List ℕ)) (r : Released) → frame_shape due r ≡ true → IsShaped due r
shaped due (tcp s payload) e = segment_of s payload e
shaped due (reply b) e = is_due due b e

abbrev pub step_shape : Start → Step → Bool
step_shape a s = list_all (frame_shape (reply_due a s)) s.released

unfoldable pub shape_test : Start → List Step → Bool
unfolding stream_entry
shape_test a steps = list_all (step_shape a) steps

pub shape_from : (a : Start) (steps : List Step) → shape_test a steps ≡ true → ShapePart a steps
unfolding shape_test
shape_from a steps e =
    All_from (λ (s : Step). All (IsShaped (reply_due a s)) s.released) (step_shape a) steps
    (λ s h. All_from (IsShaped (reply_due a s)) (frame_shape (reply_due a s)) s.released (shaped (reply_due a s)) h) e

-- STANDS
abbrev pub reset_test : List TcpFields → Place → ℕ → Bool
reset_test sent p client = not (has_rst p.segment.flags) || resets_from p.segment.tuple client None sent

abbrev pub symbols_at : List TcpFields → Place → Option ℕ → Option ℕ → Bool
symbols_at sent p None number = false
symbols_at sent p (Some client) None = false
symbols_at sent p (Some client) (Some number) =
    reset_test sent p client && each_stands sent p.segment.tuple client number (fields_of p.segment p.payload)

unfoldable pub place_stands : List TcpFields → Place → Bool
unfolding symbols_in is_near is_refusal may_open is_judged
place_stands sent p = is_judged p && (is_refusal_shown sent p.segment || symbols_at sent p p.client p.number)

reset_if : (sent : List TcpFields) (p : Place) (client : ℕ) → reset_test sent p client ≡ true
    → has_rst p.segment.flags ≡ true → ResetStands sent p.segment.tuple client
reset_if sent p client e f =
    by (or_cases (not (has_rst p.segment.flags)) (resets_from p.segment.tuple client None sent) e)
  where
    by : (not (has_rst p.segment.flags) ≡ true) ⊎ (resets_from p.segment.tuple client None sent ≡ true) → ResetStands
        sent p.segment.tuple client
    by (inl without) = absurd (true≢false (sym f ∙ not-true (has_rst p.segment.flags) without))
    by (inr found) = reset_stands sent p.segment.tuple client found

stood : (sent : List TcpFields) (p : Place) (client number : Option ℕ) → p.client ≡ client → p.number ≡ number
    → symbols_at sent p client number ≡ true → SymbolsStand sent p
stood sent p None number e f h = absurd (cc h)
stood sent p (Some client) None e f h = absurd (cc h)
stood sent p (Some client) (Some number) e f h =
    let parts = and_parts (reset_test sent p client)
    (each_stands sent p.segment.tuple client number (fields_of p.segment p.payload)) h in
    record {
      client = client;
      number = number;
      client_is = e;
      number_is = f;
      symbols = each_symbol sent p.segment.tuple client number (fields_of p.segment p.payload) parts.1;
      reset = λ r. reset_if sent p client parts.0 r;
    }

pub stands_if : (sent : List TcpFields) (p : Place) → place_stands sent p ≡ true → PlaceStands sent p
unfolding place_stands
stands_if sent p e =
    record { judged = parts.0; stands = by (or_cases (is_refusal_shown sent p.segment) _ parts.1) }
  where
    parts : (is_judged p ≡ true) × ((is_refusal_shown sent p.segment || symbols_at sent p p.client p.number) ≡ true)
    parts = and_parts (is_judged p) _ e

    by : (is_refusal_shown sent p.segment ≡ true) ⊎ (symbols_at sent p p.client p.number ≡ true)
        → IsStandingRefusal sent p.segment ⊎ SymbolsStand sent p
    by (inl r) = inl (refusal_shown sent p.segment r)
    by (inr h) = inr (stood sent p p.client p.number refl refl h)

unfoldable pub stands_test : Start → List Step → Bool
unfolding place_stands run_segments places
stands_test a steps = list_all (place_stands (run_segments a (entries steps))) (places a steps)

pub stands_from : (a : Start) (steps : List Step) → stands_test a steps ≡ true → StandsPart a steps
unfolding stands_test
stands_from a steps e =
    All_from (PlaceStands (run_segments a (entries steps))) (place_stands (run_segments a (entries steps)))
    (places a steps)
    (stands_if (run_segments a (entries steps))) e

-- ACKS
abbrev pub acked_at : List TcpFields → Place → Option ℕ → Bool
acked_at sent p None = false
acked_at sent p (Some client) = nat_le (distance client p.segment.ack) (acked_in sent p.segment.tuple client)

unfoldable pub place_acks : List TcpFields → Place → Bool
unfolding acked_in is_refusal may_open
place_acks sent p = is_refusal_shown sent p.segment || acked_at sent p p.client

acked : (sent : List TcpFields) (p : Place) (client : Option ℕ) → p.client ≡ client → acked_at sent p client ≡ true
    → IsAcked sent p
acked sent p None e h = absurd (cc h)
acked sent p (Some client) e h = record {
  client = client;
  client_is = e;
  within = leb-true (distance client p.segment.ack) (acked_in sent p.segment.tuple client) h;
}

pub acks_if : (sent : List TcpFields) (p : Place) → place_acks sent p ≡ true → PlaceAcks sent p
unfolding place_acks
acks_if sent p e = by (or_cases (is_refusal_shown sent p.segment) (acked_at sent p p.client) e)
  where
    by : (is_refusal_shown sent p.segment ≡ true) ⊎ (acked_at sent p p.client ≡ true) → PlaceAcks sent p
    by (inl r) = inl (refusal_shown sent p.segment r)
    by (inr h) = inr (acked sent p p.client refl h)

unfoldable pub acks_test : Start → List Step → Bool
unfolding place_acks run_segments places
acks_test a steps = list_all (place_acks (run_segments a (entries steps))) (places a steps)

pub acks_from : (a : Start) (steps : List Step) → acks_test a steps ≡ true → AcksPart a steps
unfolding acks_test
acks_from a steps e =
    All_from (PlaceAcks (run_segments a (entries steps))) (place_acks (run_segments a (entries steps))) (places a steps)
    (acks_if (run_segments a (entries steps))) e

-- NUMBERS
abbrev pub all_shown : List TcpFields → List Syn → Bool
all_shown sent shown = list_all (λ (x : Syn). list_all (same_number_shown sent x) shown) shown

unfoldable pub numbers_test : Start → List Step → Bool
unfolding same_number_shown run_segments syns
numbers_test a steps = all_shown (run_segments a (entries steps)) (syns a steps)

pub numbers_from : (a : Start) (steps : List Step) → numbers_test a steps ≡ true → NumbersPart a steps
unfolding numbers_test
numbers_from a steps e =
    let sent = run_segments a (entries steps) in
    All_from (λ (x : Syn). All (λ (y : Syn). IsTrue (same_number_shown sent x y)) (syns a steps))
    (λ (x : Syn). list_all (same_number_shown sent x) (syns a steps)) (syns a steps)
    (λ x h. All_from (λ (y : Syn). IsTrue (same_number_shown sent x y)) (same_number_shown sent x) (syns a steps)
    (λ y g. g) h) e

-- PROMPT
unfoldable pub event_releases : Event → Bool
unfolding is_released
event_releases e = list_all (is_released e.step.released) e.outcome.agreed

unfoldable pub symbols_test : Start → List Step → Bool
unfolding event_releases events
symbols_test a steps = list_all event_releases (events a steps)

unfoldable pub last_acks_test : Start → List Step → Bool
unfolding event_acks events
last_acks_test a steps = list_all (event_acks a) (events a steps)

unfoldable pub prompt_test : Start → List Step → Bool
unfolding symbols_test last_acks_test
prompt_test a steps = symbols_test a steps && last_acks_test a steps

prompt_with : (a : Start) (steps : List Step) → symbols_test a steps ≡ true → last_acks_test a steps ≡ true
    → ShowsAgreed a steps
unfolding event_releases symbols_test last_acks_test
prompt_with a steps e f = record {
  symbols =
      All_from (λ (x : Event). All (λ (g : Agreed). IsTrue (is_released x.step.released g)) x.outcome.agreed)
      event_releases (events a steps)
      (λ x h. All_from (λ (g : Agreed). IsTrue (is_released x.step.released g)) (is_released x.step.released)
      x.outcome.agreed (λ g k. k) h) e;
  acks = All_from (λ (x : Event). IsTrue (event_acks a x)) (event_acks a) (events a steps) (λ x h. h) f;
}

pub prompt_from : (a : Start) (steps : List Step) → prompt_test a steps ≡ true → ShowsAgreed a steps
unfolding prompt_test
prompt_from a steps e =
    let parts = and_parts (symbols_test a steps) (last_acks_test a steps) e in prompt_with a steps parts.0 parts.1

-- NAMES
abbrev pub rises : List ℕ → Bool
rises [] = true
rises (x ∷ []) = true
rises (x ∷ y ∷ xs) = nat_lt x y && rises (y ∷ xs)

rising : (xs : List ℕ) → rises xs ≡ true → IsStrictlyIncreasing xs
rising [] e k l = absurd (omega (arith, l))
rising (x ∷ []) e k l = absurd (omega (arith, l))
rising (x ∷ y ∷ xs) e zero l = ltb-true x y (and_parts (nat_lt x y) (rises (y ∷ xs)) e).0
rising (x ∷ y ∷ xs) e (suc k) l =
    let next : suc (k + 1) ≡ suc k + 1 = omega arith in
    subst (λ (n : ℕ). slice_index (y ∷ xs) k < slice_index (x ∷ y ∷ xs) n) next
    (rising (y ∷ xs) (and_parts (nat_lt x y) (rises (y ∷ xs)) e).1 k (omega (arith, l)))

unfoldable pub missing_test : Start → List Step → Bool
unfolding is_accounted_for
missing_test a steps = list_all (is_accounted_for a steps) (inbox_indices a.inbox ++ accepted_indices steps)

unfoldable pub names_test : Start → List Step → Bool
unfolding run_indices accepted_frame missing_test
names_test a steps =
    rises (run_indices (entries steps))
    && (list_all (is_accepted a.stream) (run_indices (entries steps)) && missing_test a steps)

names_with : (a : Start) (steps : List Step) → rises (run_indices (entries steps)) ≡ true
    → list_all (is_accepted a.stream) (run_indices (entries steps)) ≡ true → missing_test a steps ≡ true
    → NamesPart a steps
unfolding missing_test
names_with a steps e f g = record {
  rising = rising (run_indices (entries steps)) e;
  accepted =
      All_from (λ i. IsTrue (is_accepted a.stream i)) (is_accepted a.stream) (run_indices (entries steps)) (λ i h. h)
      f;
  missing =
      All_from (λ i. IsTrue (is_accounted_for a steps i)) (is_accounted_for a steps)
      (inbox_indices a.inbox ++ accepted_indices steps) (λ i h. h) g;
}

pub names_from : (a : Start) (steps : List Step) → names_test a steps ≡ true → NamesPart a steps
unfolding names_test
names_from a steps e =
    let outer = and_parts (rises (run_indices (entries steps)))
    (list_all (is_accepted a.stream) (run_indices (entries steps)) && missing_test a steps) e in
    let inner = and_parts (list_all (is_accepted a.stream) (run_indices (entries steps))) (missing_test a steps)
    outer.1 in
    names_with a steps outer.0 inner.0 inner.1

-- LOG
unfoldable pub log_test : List Step → Bool
log_test steps =
    same_bytes (counts_stated steps) (counts_released steps)

pub log_from : (lines : List Line) (steps : List Step) → lines_of steps ≡ lines → log_test steps ≡ true
    → LogPart lines steps
unfolding log_test
log_from lines steps e f = record {
  schedule = e;
  counts = are_same (counts_stated steps) (counts_released steps) f;
}

-- MARKS
abbrev pub same_cause : Cause → Cause → Bool
same_cause Differ Differ = true
same_cause Restart Restart = true
same_cause Wait Wait = true
same_cause Asked Asked = true
same_cause _ _ = false

causes_same : (x y : Cause) → same_cause x y ≡ true → x ≡ y
causes_same Differ Differ e = refl
causes_same Differ Restart e = absurd (true≢false (sym e))
causes_same Differ Wait e = absurd (true≢false (sym e))
causes_same Differ Asked e = absurd (true≢false (sym e))
causes_same Restart Differ e = absurd (true≢false (sym e))
causes_same Restart Restart e = refl
causes_same Restart Wait e = absurd (true≢false (sym e))
causes_same Restart Asked e = absurd (true≢false (sym e))
causes_same Wait Differ e = absurd (true≢false (sym e))
causes_same Wait Restart e = absurd (true≢false (sym e))
causes_same Wait Wait e = refl
causes_same Wait Asked e = absurd (true≢false (sym e))
causes_same Asked Differ e = absurd (true≢false (sym e))
causes_same Asked Restart e = absurd (true≢false (sym e))
causes_same Asked Wait e = absurd (true≢false (sym e))
causes_same Asked Asked e = refl

abbrev pub same_mark : Mark → Mark → Bool
same_mark (Captured e why) (Captured f cause) = e == f && same_cause why cause
same_mark (Committed e) (Committed f) = e == f
same_mark (Acknowledged e) (Acknowledged f) = e == f
same_mark _ _ = false

marks_same : (x y : Mark) → same_mark x y ≡ true → x ≡ y
marks_same (Captured e why) (Captured f cause) h =
    let parts = and_parts (e == f) (same_cause why cause) h in
    let number = eqb-true e f parts.0 in
    let causes = causes_same why cause parts.1 in
    λ i. Captured (number i) (causes i)
marks_same (Captured e why) (Committed f) h = absurd (true≢false (sym h))
marks_same (Captured e why) (Acknowledged f) h = absurd (true≢false (sym h))
marks_same (Committed e) (Captured f cause) h = absurd (true≢false (sym h))
marks_same (Committed e) (Committed f) h = ap (λ (n : ℕ). Committed n) (eqb-true e f h)
marks_same (Committed e) (Acknowledged f) h = absurd (true≢false (sym h))
marks_same (Acknowledged e) (Captured f cause) h = absurd (true≢false (sym h))
marks_same (Acknowledged e) (Committed f) h = absurd (true≢false (sym h))
marks_same (Acknowledged e) (Acknowledged f) h = ap (λ (n : ℕ). Acknowledged n) (eqb-true e f h)

abbrev pub same_list : {X : Type 0} → (X → X → Bool) → List X → List X → Bool
same_list same [] [] = true
same_list same [] (y ∷ ys) = false
same_list same (x ∷ xs) [] = false
same_list same (x ∷ xs) (y ∷ ys) = same x y && same_list same xs ys

lists_same : {X : Type 0} (same : X → X → Bool) → ((x y : X) → same x y ≡ true → x ≡ y) → (xs ys : List X)
    → same_list same xs ys ≡ true → xs ≡ ys
lists_same same f [] [] e = refl
lists_same same f [] (y ∷ ys) e = absurd (true≢false (sym e))
lists_same same f (x ∷ xs) [] e = absurd (true≢false (sym e))
lists_same same f (x ∷ xs) (y ∷ ys) e =
    let parts = and_parts (same x y) (same_list same xs ys) e in
    let first = f x y parts.0 in
    let rest = lists_same same f xs ys parts.1 in
    λ i. first i ∷ rest i

abbrev pub same_marks : List (List Mark) → List (List Mark) → Bool
same_marks xs ys = same_list (same_list same_mark) xs ys

all_marks_same : (xs ys : List (List Mark)) → same_marks xs ys ≡ true → xs ≡ ys
all_marks_same xs ys e = lists_same (same_list same_mark) (lists_same same_mark marks_same) xs ys e

unfoldable pub marks_due : Start → List Step → List (List Mark)
unfolding events
marks_due a steps = capture_marks 0 (causes_in (events a steps))

unfoldable pub marks_test : Start → List Step → Bool
unfolding marks_due
marks_test a steps =
    same_marks (marks_that is_captured steps) (marks_due a steps)
    && (same_marks (marks_that is_committed steps) (commits_due steps)
    && same_marks (marks_that is_acknowledged steps) (acks_due steps))

pub marks_from : (a : Start) (steps : List Step) → marks_test a steps ≡ true → MarksPart a steps
unfolding marks_test marks_due
marks_from a steps e =
    let commits = commits_due steps in
    let acks = acks_due steps in
    let outer = and_parts (same_marks (marks_that is_captured steps) (marks_due a steps))
    (same_marks (marks_that is_committed steps) commits && same_marks (marks_that is_acknowledged steps) acks) e in
    let inner = and_parts (same_marks (marks_that is_committed steps) commits)
    (same_marks (marks_that is_acknowledged steps) acks) outer.1 in
    record {
      captures = all_marks_same (marks_that is_captured steps) (marks_due a steps) outer.0;
      commits = all_marks_same (marks_that is_committed steps) commits inner.0;
      acks = all_marks_same (marks_that is_acknowledged steps) acks inner.1;
    }

-- FILES, as they follow from the steps and from the guests of the definitions
abbrev pub same_state : GuestState → GuestState → Bool
same_state s t =
    same_bytes s.bytes t.bytes && (same_list same_bytes s.pages t.pages && same_list same_bytes s.sectors t.sectors)

pub states_same : (s t : GuestState) → same_state s t ≡ true → s ≡ t
states_same s t e =
    let outer = and_parts (same_bytes s.bytes t.bytes)
    (same_list same_bytes s.pages t.pages && same_list same_bytes s.sectors t.sectors) e in
    let inner = and_parts (same_list same_bytes s.pages t.pages) (same_list same_bytes s.sectors t.sectors) outer.1 in
    let bytes = are_same s.bytes t.bytes outer.0 in
    let pages = lists_same same_bytes are_same s.pages t.pages inner.0 in
    let sectors = lists_same same_bytes are_same s.sectors t.sectors inner.1 in
    λ i. record { bytes = bytes i; pages = pages i; sectors = sectors i }

unfoldable pub files_test : Start → List Step → Bool
unfolding nodes_at the_run
files_test a steps = same_state (survivor_state (entries steps) (nodes_at a steps)) (the_run a (entries steps)).state

pub files_from : (a : Start) (steps : List Step) → delivered_in steps ≡ delivered_due (events a steps)
    → files_test a steps ≡ true
    → FilesPart a steps (nodes_at a steps) (files_of steps (nodes_at a steps))
unfolding files_test files_of
files_from a steps delivered e = record {
  state = states_same (survivor_state (entries steps) (nodes_at a steps)) (the_run a (entries steps)).state e;
  ram = refl;
  disk = refl;
  log = refl;
  released = refl;
  wire = refl;
  messages = delivered;
}
