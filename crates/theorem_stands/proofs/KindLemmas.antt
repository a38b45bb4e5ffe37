-- What a settling releases of a connection: SYN, parts of the line, an acknowledgement, a reset, a refusal.
use Rattle.std.proofs.Common.{◌≡◌, ◌⊎◌, inl, inr, ℕ, ◌+◌, ◌-◌, ◌*◌, ◌<◌, ◌≤◌, zero, suc, Bool, true, false, nat_le, max, min, is_some, List, [], ◌∷◌, ◌++◌, length, map, take, drop, slice_get, Option, None, Some, refl, sym, ap, subst, ◌∙◌, All, arith, length-append, length-drop, length-take}
use Rattle.std.specs.List.{enumerate_from, flat_map, range_with_len}
use Rattle.std.specs.Option.{option_map}
use Rattle.std.proofs.lemmas.Bool.{and_parts, cases_lt, cond_both, leb-true}
use Rattle.std.proofs.lemmas.List.{length-map}
use Rattle.std.proofs.lemmas.List.Elements.{All-append, All-cons, All-nil}
use Rattle.std.proofs.lemmas.Option.{slice_get-map, slice_get_within}
use Rattle.inet_frame.specs.Flags.{has_fin}
use Rattle.tcp_track.specs.Lines as lines
use Rattle.tcp_track.specs.Lines.{has_ended, no_line}
use Rattle.tcp_track.specs.Segments.{Symbol, syn, byte, fin, fin_if, same_tuple}
use Rattle.tcp_track.specs.declared.answers.Took.{Took}
use Rattle.tcp_track.specs.declared.answers.What.{What}
use Rattle.tcp_track.specs.declared.answers.What.TheVariants.{Ignored, Opened, Restarted, Symbols, Reset, Refused}
use Rattle.tcp_track.proofs.ElementLemmas.{get_drop, get_left, get_right}
use Rattle.settle_rules.specs.Matching.{BothLines}
use Rattle.settle_rules.specs.Pieces.{piece_at, piece_count, pieces_of}
use Rattle.settle_rules.specs.Release.{Released, ack_alone, bytes_in, data_flags, data_segment, data_segments, ends_here, has_symbol, largest_payload, refusal_of, release_bare, release_refusal, release_reset, release_symbols, rst_ack, segment_at, symbol_segments, syn_ack, syn_segments}
use Rattle.settle_rules.specs.Settle.{release_again, release_span}
use Rattle.theorem_frames.specs.Lines.{IsSound, whole_symbols}
use Rattle.theorem_frames.proofs.CarryLemmas.{IsData, data_of, no_syn_in, part_data, take_data}
use Rattle.theorem_frames.proofs.LineLemmas.{bytes_in-whole, has_ended-whole}

-- symbols that stand in a list from an offset on
pub record IsPartOf (symbols : List Symbol) (offset : ℕ) (xs : List Symbol) : Type 0 where
  pub each : (j : ℕ) (x : Symbol) → slice_get xs j ≡ Some x → slice_get symbols (offset + j) ≡ Some x

pub data IsOutOf (b : BothLines) : Released → Type 0 where
  opens : (mss : Option ℕ) → IsPartOf b.mine.symbols 0 (syn ∷ []) → IsOutOf b (segment_at b 0 syn_ack mss [])
  tells : (offset : ℕ) (payload : List ℕ) (ends : Bool) → has_fin (data_flags payload ends) ≡ ends
      → 0 < length (data_of payload ends) → IsPartOf b.mine.symbols offset (data_of payload ends)
      → IsOutOf b (segment_at b offset (data_flags payload ends) None payload)
  answers : (offset : ℕ) → IsOutOf b (segment_at b offset ack_alone None [])
  resets : (offset : ℕ) → b.mine.reset ≡ true → IsOutOf b (segment_at b offset rst_ack None [])
  refuses : (client : ℕ) → b.mine.refused ≡ Some client → IsOutOf b (refusal_of b client)

-- ELEMENTS
pub got_take : {X : Type 0} (n : ℕ) (xs : List X) (k : ℕ) (x : X) → slice_get (take n xs) k ≡ Some x →
    slice_get xs k ≡ Some x
got_take zero xs k x e = absurd (cc e)
got_take (suc n) [] k x e = absurd (cc e)
got_take (suc n) (y ∷ ys) zero x e = e
got_take (suc n) (y ∷ ys) (suc k) x e = got_take n ys k x e

taken_within : {X : Type 0} (n : ℕ) (xs : List X) (k : ℕ) (x : X) → slice_get (take n xs) k ≡ Some x → k < n
taken_within n xs k x e =
    let within = slice_get_within (take n xs) k x e in
    omega (arith, within, length-take n xs)

mapped_all : {X Y : Type 0} (P : Y → Type 0) (f : ℕ × X → Y) (n : ℕ) (xs : List X) →
    ((k : ℕ) (x : X) → slice_get xs k ≡ Some x → P (f (n + k, x))) → All P (map f (enumerate_from n xs))
mapped_all P f n [] each = All-nil P
mapped_all {X} P f n (x ∷ xs) each =
    let here : n + 0 ≡ n = omega arith in
    All-cons P (f (n, x)) (map f (enumerate_from (n + 1) xs)) (subst (λ (m : ℕ). P (f (m, x))) here (each 0 x refl))
    (mapped_all P f (n + 1) xs (λ k y e.
    let next : n + suc k ≡ n + 1 + k = omega arith in
    subst (λ (m : ℕ). P (f (m, y))) next (each (suc k) y e)))

ranged : (a n k j : ℕ) → slice_get (range_with_len a n) k ≡ Some j → (k < n) × (j ≡ a + k)
ranged a zero k j e = absurd (cc e)
ranged a (suc n) zero j e = let is : a ≡ j = cc in (omega arith, omega (arith, is))
ranged a (suc n) (suc k) j e =
    let rest = ranged (a + 1) n k j e in (omega (arith, rest.0), omega (arith, rest.1))

mapped_at : {X Y : Type 0} (f : X → Y) (o : Option X) (y : Y) → option_map f o ≡ Some y →
    (x : X) × ((o ≡ Some x) × (f x ≡ y))
mapped_at f None y e = absurd (cc e)
mapped_at f (Some x) y e = let is : f x ≡ y = cc in (x, (refl, is))

-- PIECES of bytes, with FIN at the last
piece_part : (bytes : List ℕ) (ends : Bool) (q : ℕ) → 536 * q < length bytes →
    IsPartOf (data_of bytes ends) (536 * q) (data_of (piece_at largest_payload bytes q) (ends_here bytes ends q))
piece_part bytes ends q some = record { each = λ j x e. by j x e (cases_lt j (length payload)) }
  where
    payload : List ℕ
    payload = piece_at largest_payload bytes q

    size : length payload ≡ min 536 (length bytes - 536 * q)
    size = length-take 536 (drop (536 * q) bytes) ∙ ap (min 536) (length-drop (536 * q) bytes)

    at_fin : (j : ℕ) (x : Symbol) → length payload ≤ j → (has : Bool) → ends_here bytes ends q ≡ has →
        slice_get (fin_if has) (j - length payload) ≡ Some x → slice_get (data_of bytes ends) (536 * q + j) ≡ Some x
    at_fin j x high false f e = absurd (cc e)
    at_fin j x high true f e =
        let parts = and_parts ends (nat_le (length bytes) (536 * (q + 1))) f in
        let within = slice_get_within (fin ∷ []) (j - length payload) x e in
        let reach = le_from parts.1 in
        let none : j - length payload ≡ 0 = omega (arith, within) in
        let last : 536 * q + j ≡ length (map byte bytes) + 0 =
        omega (arith, within, high, size, reach, some, length-map bytes byte) in
        ap (λ (has : Bool). slice_get (data_of bytes has) (536 * q + j)) parts.0
        ∙ (get_right (map byte bytes) (fin ∷ []) (536 * q + j) 0 last
        ∙ (ap (λ (k : ℕ). slice_get (fin ∷ []) k) (sym none) ∙ e))
      where
        le_from : nat_le (length bytes) (536 * (q + 1)) ≡ true → length bytes ≤ 536 * (q + 1)
        le_from g = leb-true (length bytes) (536 * (q + 1)) g

    by : (j : ℕ) (x : Symbol) → slice_get (data_of payload (ends_here bytes ends q)) j ≡ Some x →
        (j < length payload) ⊎ (length payload ≤ j) → slice_get (data_of bytes ends) (536 * q + j) ≡ Some x
    by j x e (inl low) =
        let there =
        sym (slice_get-map byte payload j)
        ∙ (sym (get_left (map byte payload) (fin_if (ends_here bytes ends q)) j
        (omega (arith, low, length-map payload byte))) ∙ e) in
        let found = mapped_at byte (slice_get payload j) x there in
        let inside : slice_get bytes (536 * q + j) ≡ Some found.0 =
        sym (get_drop (536 * q) bytes j (536 * q + j) refl) ∙ got_take 536 (drop (536 * q) bytes) j found.0 found.1.0 in
        let within = slice_get_within bytes (536 * q + j) found.0 inside in
        get_left (map byte bytes) (fin_if ends) (536 * q + j) (omega (arith, within, length-map bytes byte))
        ∙ (slice_get-map byte bytes (536 * q + j) ∙ (ap (option_map byte) inside ∙ ap Some found.1.1))
    by j x e (inr high) =
        at_fin j x high (ends_here bytes ends q) refl
        (sym (get_right (map byte payload) (fin_if (ends_here bytes ends q)) j (j - length payload)
        (omega (arith, length-map payload byte, high))) ∙ e)

part_of_part : (symbols : List Symbol) (offset : ℕ) (xs : List Symbol) (more : ℕ) (ys : List Symbol) →
    IsPartOf symbols offset xs → IsPartOf xs more ys → IsPartOf symbols (offset + more) ys
part_of_part symbols offset xs more ys h g = record {
  each = λ j x e.
      let sum : offset + (more + j) ≡ offset + more + j = omega arith in
      subst (λ (n : ℕ). slice_get symbols n ≡ Some x) sum (h.each (more + j) x (g.each j x e));
}

fin_flag : (payload : List ℕ) (ends : Bool) → 0 < length payload → has_fin (data_flags payload ends) ≡ ends
fin_flag [] ends h = absurd (omega (arith, h))
fin_flag (x ∷ xs) true h = refl
fin_flag (x ∷ xs) false h = refl

longer_data : (payload : List ℕ) (ends : Bool) → 0 < length payload → 0 < length (data_of payload ends)
longer_data payload ends h =
    omega (arith, h, length-append (map byte payload) (fin_if ends), length-map payload byte)

pub data_kinds : (b : BothLines) (offset : ℕ) (bytes : List ℕ) (ends : Bool) →
    IsPartOf b.mine.symbols offset (data_of bytes ends) → All (IsOutOf b) (data_segments b offset bytes ends)
data_kinds b offset [] false h = All-nil (IsOutOf b)
data_kinds b offset [] true h =
    let start : offset + 536 * 0 ≡ offset = omega arith in
    All-cons (IsOutOf b) (data_segment b offset [] true (0, [])) []
    (tells (offset + 536 * 0) [] true refl (omega arith)
    (subst (λ (n : ℕ). IsPartOf b.mine.symbols n (data_of [] true)) (sym start) h)) (All-nil (IsOutOf b))
data_kinds b offset (y ∷ ys) ends h =
    mapped_all (IsOutOf b) (data_segment b offset (y ∷ ys) ends) 0 (pieces_of largest_payload (y ∷ ys)) each
  where
    bytes : List ℕ
    bytes = y ∷ ys

    count : ℕ
    count = piece_count largest_payload (length bytes)

    full : (q : ℕ) → 536 * q < length bytes → 0 < length (piece_at largest_payload bytes q)
    full q some =
        omega (arith, length-take 536 (drop (536 * q) bytes), length-drop (536 * q) bytes, some)

    each : (k : ℕ) (payload : List ℕ) → slice_get (pieces_of largest_payload bytes) k ≡ Some payload →
        IsOutOf b (data_segment b offset bytes ends (0 + k, payload))
    each k payload e =
        let found =
        mapped_at (piece_at largest_payload bytes) (slice_get (range_with_len 0 count) k) payload
        (sym (slice_get-map (piece_at largest_payload bytes) (range_with_len 0 count) k) ∙ e) in
        let at = ranged 0 count k found.0 found.1.0 in
        subst (λ (xs : List ℕ). IsOutOf b (data_segment b offset bytes ends (0 + k, xs)))
        (ap (λ (n : ℕ). piece_at largest_payload bytes n) (sym at.1) ∙ found.1.1)
        (tells (offset + 536 * (0 + k)) (piece_at largest_payload bytes (0 + k)) (ends_here bytes ends (0 + k))
        (fin_flag (piece_at largest_payload bytes (0 + k)) (ends_here bytes ends (0 + k))
        (full (0 + k) (omega (arith, at.0))))
        (longer_data (piece_at largest_payload bytes (0 + k)) (ends_here bytes ends (0 + k))
        (full (0 + k) (omega (arith, at.0))))
        (part_of_part b.mine.symbols offset (data_of bytes ends) (536 * (0 + k))
        (data_of (piece_at largest_payload bytes (0 + k)) (ends_here bytes ends (0 + k))) h
        (piece_part bytes ends (0 + k) (omega (arith, at.0)))))

-- A PART OF A LINE: the segments of symbols without SYN
data_part_kinds : (b : BothLines) (from offset : ℕ) (xs : List Symbol) → IsData xs → max from 1 ≡ offset →
    IsPartOf b.mine.symbols offset xs → All (IsOutOf b) (symbol_segments b from xs)
data_part_kinds b from offset xs h at part =
    let syn_is = ap (has_symbol syn) h.data_is ∙ no_syn_in h.bytes h.ends in
    let bytes_are = ap bytes_in h.data_is ∙ bytes_in-whole h.bytes h.ends in
    let fin_is = ap has_ended h.data_is ∙ has_ended-whole h.bytes h.ends in
    let out : symbol_segments b from xs ≡ data_segments b offset h.bytes h.ends =
    λ i. syn_segments b (syn_is i) ++ data_segments b (at i) (bytes_are i) (fin_is i) in
    subst (All (IsOutOf b)) (sym out)
    (data_kinds b offset h.bytes h.ends (subst (IsPartOf b.mine.symbols offset) h.data_is part))

pub syn_kinds : (b : BothLines) → IsPartOf b.mine.symbols 0 (syn ∷ []) → All (IsOutOf b) (syn_segments b true)
syn_kinds b h =
    All-cons (IsOutOf b) (segment_at b 0 syn_ack (Some (min b.mine.mss b.theirs.mss)) []) []
    (opens (Some (min b.mine.mss b.theirs.mss)) h) (All-nil (IsOutOf b))

-- a line that is not empty begins with SYN
pub syn_first : (bytes : List ℕ) (ends : Bool) → IsPartOf (whole_symbols bytes ends) 0 (syn ∷ [])
syn_first bytes ends = record { each = first }
  where
    first : (j : ℕ) (x : Symbol) → slice_get (syn ∷ []) j ≡ Some x →
        slice_get (whole_symbols bytes ends) (0 + j) ≡ Some x
    first zero x e = e
    first (suc j) x e = absurd (cc e)

-- what is released from the first symbol on: SYN, and then data
pub record BeginsWithSyn (b : BothLines) (out : List Released) : Type 0 where
  pub mss : Option ℕ
  pub rest : List Released
  pub out_is : out ≡ segment_at b 0 syn_ack mss [] ∷ rest
  pub kinds : All (IsOutOf b) rest

whole_kinds : (b : BothLines) (bytes : List ℕ) (ends : Bool) (n : ℕ) → b.mine.symbols ≡ whole_symbols bytes ends →
    BeginsWithSyn b (symbol_segments b 0 (take (suc n) (whole_symbols bytes ends)))
whole_kinds b bytes ends n whole =
    let h = take_data n bytes ends in
    let xs = take n (data_of bytes ends) in
    let bytes_are = ap bytes_in h.data_is ∙ bytes_in-whole h.bytes h.ends in
    let fin_is = ap has_ended h.data_is ∙ has_ended-whole h.bytes h.ends in
    record {
      mss = Some (min b.mine.mss b.theirs.mss);
      rest = data_segments b 1 h.bytes h.ends;
      out_is = λ i. syn_segments b true ++ data_segments b 1 (bytes_are i) (fin_is i);
      kinds = data_kinds b 1 h.bytes h.ends (record {
        each = λ j x e.
            let next : 1 + j ≡ suc j = omega arith in
            (λ i. slice_get (whole i) (next i))
            ∙ got_take n (data_of bytes ends) j x (ap (λ (ys : List Symbol). slice_get ys j) h.data_is ∙ e);
      });
    }

part_kinds : (b : BothLines) (bytes : List ℕ) (ends : Bool) (from n : ℕ) → b.mine.symbols ≡ whole_symbols bytes ends →
    All (IsOutOf b) (symbol_segments b from (take n (drop from (whole_symbols bytes ends))))
part_kinds b bytes ends zero zero whole = All-nil (IsOutOf b)
part_kinds b bytes ends zero (suc n) whole =
    let begins = whole_kinds b bytes ends n whole in
    subst (All (IsOutOf b)) (sym begins.out_is)
    (All-cons (IsOutOf b) (segment_at b 0 syn_ack begins.mss []) begins.rest
    (opens begins.mss (subst (λ (ys : List Symbol). IsPartOf ys 0 (syn ∷ [])) (sym whole) (syn_first bytes ends)))
    begins.kinds)
part_kinds b bytes ends (suc d) n whole =
    data_part_kinds b (suc d) (suc d) (take n (drop d (data_of bytes ends))) (part_data n d bytes ends) (omega arith)
    (record {
      each = λ j x e.
          let next : suc d + j ≡ suc (d + j) = omega arith in
          (λ i. slice_get (whole i) (next i))
          ∙ (sym (get_drop d (data_of bytes ends) j (d + j) refl) ∙ got_take n (drop d (data_of bytes ends)) j x e);
    })

-- RELEASED SYMBOLS of a line, which has an opening or is empty
pub symbol_kinds : (b : BothLines) (from to : ℕ) → IsSound b.mine → All (IsOutOf b) (release_symbols b from to)
unfolding release_symbols
symbol_kinds b from to sound = by (is_some b.mine.opening) refl
  where
    nothing : (n d : ℕ) → take n (drop d (let xs : List Symbol = [] in xs)) ≡ []
    nothing zero zero = refl
    nothing zero (suc d) = refl
    nothing (suc n) zero = refl
    nothing (suc n) (suc d) = refl

    by : (is : Bool) → is_some b.mine.opening ≡ is →
        All (IsOutOf b) (symbol_segments b from (take (to - from) (drop from b.mine.symbols)))
    by true e =
        subst (λ (xs : List Symbol). All (IsOutOf b) (symbol_segments b from (take (to - from) (drop from xs))))
        (sym (sound.opened e))
        (part_kinds b (bytes_in b.mine.symbols) (has_ended b.mine.symbols) from (to - from) (sound.opened e))
    by false e =
        let none : b.mine.symbols ≡ [] = ap (λ (l : lines.Line). l.symbols) (sound.unopened e) in
        subst (λ (xs : List Symbol). All (IsOutOf b) (symbol_segments b from xs))
        (sym (ap (λ (xs : List Symbol). take (to - from) (drop from xs)) none ∙ nothing (to - from) from))
        (All-nil (IsOutOf b))

-- where the first symbols go out SYN is the first
pub begins_with_syn : (b : BothLines) (to : ℕ) → IsSound b.mine → is_some b.mine.opening ≡ true → 0 < to →
    BeginsWithSyn b (release_symbols b 0 to)
unfolding release_symbols
begins_with_syn b zero sound is some = absurd (omega (arith, some))
begins_with_syn b (suc n) sound is some =
    let whole = sound.opened is in
    let all : suc n - 0 ≡ suc n = omega arith in
    subst (λ (k : ℕ). BeginsWithSyn b (symbol_segments b 0 (take k b.mine.symbols))) (sym all)
    (subst (λ (xs : List Symbol). BeginsWithSyn b (symbol_segments b 0 (take (suc n) xs))) (sym whole)
    (whole_kinds b (bytes_in b.mine.symbols) (has_ended b.mine.symbols) n whole))

pub again_kinds : (b : BothLines) (edge : ℕ) (tooks : List Took) → IsSound b.mine →
    All (IsOutOf b) (flat_map (release_again b edge) tooks)
unfolding release_again
again_kinds b edge [] sound = All-nil (IsOutOf b)
again_kinds b edge (took ∷ tooks) sound =
    All-append (IsOutOf b) (release_again b edge took) (flat_map (release_again b edge) tooks)
    (cond_both (same_tuple took.tuple b.tuple) (release_span b edge took.what) [] (All (IsOutOf b))
    (λ e. spans took.what) (λ e. All-nil (IsOutOf b)))
    (again_kinds b edge tooks sound)
  where
    spans : (what : What) → All (IsOutOf b) (release_span b edge what)
    spans Ignored = All-nil (IsOutOf b)
    spans (Opened o) = All-nil (IsOutOf b)
    spans (Restarted o) = All-nil (IsOutOf b)
    spans (Symbols from to) = symbol_kinds b (max from b.mine.base) (min to edge) sound
    spans Reset = All-nil (IsOutOf b)
    spans (Refused c) = All-nil (IsOutOf b)

-- nothing goes out again before the edge has moved
pub none_again : (b : BothLines) (tooks : List Took) → flat_map (release_again b 0) tooks ≡ []
unfolding release_again release_symbols
none_again b [] = refl
none_again b (took ∷ tooks) =
    ap (λ (out : List Released). out ++ flat_map (release_again b 0) tooks)
    (cond_both (same_tuple took.tuple b.tuple) (release_span b 0 took.what) []
    (λ (out : List Released). out ≡ []) (λ e. spans took.what) (λ e. refl))
    ∙ none_again b tooks
  where
    spans : (what : What) → release_span b 0 what ≡ []
    spans Ignored = refl
    spans (Opened o) = refl
    spans (Restarted o) = refl
    spans (Symbols from to) =
        let none : min to 0 - max from b.mine.base ≡ 0 = omega arith in
        ap (λ (n : ℕ). symbol_segments b (max from b.mine.base) (take n (drop (max from b.mine.base) b.mine.symbols)))
        none
    spans Reset = refl
    spans (Refused c) = refl

pub bare_kinds : (b : BothLines) (edge : ℕ) (bare : Bool) → All (IsOutOf b) (release_bare b edge bare)
bare_kinds b edge true =
    All-cons (IsOutOf b) (segment_at b edge ack_alone None []) [] (answers edge) (All-nil (IsOutOf b))
bare_kinds b edge false = All-nil (IsOutOf b)

pub reset_kinds : (b : BothLines) (edge : ℕ) (resets_it : Bool) → (resets_it ≡ true → b.mine.reset ≡ true) →
    All (IsOutOf b) (release_reset b edge resets_it)
reset_kinds b edge true h =
    All-cons (IsOutOf b) (segment_at b edge rst_ack None []) [] (resets edge (h refl)) (All-nil (IsOutOf b))
reset_kinds b edge false h = All-nil (IsOutOf b)

pub refusal_kinds : (b : BothLines) (due : Bool) → All (IsOutOf b) (release_refusal b b.mine.refused due)
refusal_kinds b due = by b.mine.refused refl due
  where
    by : (o : Option ℕ) → b.mine.refused ≡ o → (d : Bool) → All (IsOutOf b) (release_refusal b o d)
    by None e d = All-nil (IsOutOf b)
    by (Some client) e false = All-nil (IsOutOf b)
    by (Some client) e true =
        All-cons (IsOutOf b) (refusal_of b client) [] (refuses client e) (All-nil (IsOutOf b))
