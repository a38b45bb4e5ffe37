-- A line up to an edge, in the place of the whole line, releases the same up to there.
use Rattle.std.proofs.Common.{◌≡◌, ◌⊎◌, inl, inr, ℕ, ◌+◌, ◌-◌, ◌*◌, ◌<◌, ◌≤◌, ◌%◌, ◌^◌, zero, suc, Bool, true, false, ◌&&◌, nat_lt, max, min, is_some, List, [], ◌∷◌, ◌++◌, map, take, drop, Option, None, Some, refl, sym, ap, subst, ◌∙◌, All, arith, length-take, true≢false}
use Rattle.std.specs.List.{enumerate_from, flat_map}
use Rattle.std.proofs.lemmas.Bool.{and_parts, cases_lt, cond_both, ltb-true}
use Rattle.std.proofs.lemmas.List.{drop-take}
use Rattle.std.proofs.lemmas.List.Elements.{All-append, All-nil}
use Rattle.tcp_track.specs.Lines.{has_ended}
use Rattle.tcp_track.specs.Segments.{Symbol, fin, same_tuple, syn}
use Rattle.tcp_track.specs.declared.answers.Took.{Took}
use Rattle.tcp_track.specs.declared.answers.What.{What}
use Rattle.tcp_track.specs.declared.answers.What.TheVariants.{Ignored, Opened, Restarted, Symbols, Reset, Refused}
use Rattle.settle_rules.specs.Matching.{BothLines, agreed_ack, agreed_window, client_or_zero, has_one_client, smaller_acked, their_acked}
use Rattle.settle_rules.specs.Progress.{Progress}
use Rattle.settle_rules.specs.Release.{Released, ack_alone, bytes_in, data_flags, data_segment, ends_here, has_symbol, largest_payload, payloads_of, release_bare, release_reset, release_symbols, rst_ack, segment_at, symbol_segments, syn_ack, syn_segments, tcp}
use Rattle.settle_rules.specs.Settle.{agrees_on_reset, is_empty, new_edge, release_again, release_span, wants_bare}
use Rattle.theorem_frames.specs.Lines.{IsSound, whole_symbols}
use Rattle.theorem_frames.proofs.CarryLemmas.{take_data}
use Rattle.theorem_frames.proofs.LineLemmas.{bytes_in-whole, has_ended-whole}
use Rattle.theorem_stands.proofs.KindLemmas.{IsOutOf, bare_kinds, none_again, reset_kinds, symbol_kinds}
use Rattle.theorem_stands.proofs.PlainLemmas.{plain_of, plain_with, resets_at, wants_bare_at}

-- up to an edge, with what both lines acknowledge, and without trims and refusals
abbrev pub cut : BothLines → ℕ → Bool → BothLines
cut b edge resets_it = record b {
  mine = record b.mine {
    symbols = take edge b.mine.symbols;
    base = 0;
    acked = smaller_acked b;
    reset = resets_it;
    refused = None;
  };
}

smaller_mine : (b : BothLines) → smaller_acked b ≤ b.mine.acked
smaller_mine b = by b.mine.acked (their_acked b)
  where
    by : (x y : ℕ) → min x y ≤ x
    by x y = omega arith

-- it is sound, where something is left
pub cut_sound : (b : BothLines) (edge : ℕ) (resets_it : Bool) → IsSound b.mine → is_some b.mine.opening ≡ true
    → 0 < edge → IsSound (cut b edge resets_it).mine
cut_sound b zero resets_it sound is some = absurd (omega (arith, some))
cut_sound b (suc n) resets_it sound is some =
    let h = take_data n (bytes_in b.mine.symbols) (has_ended b.mine.symbols) in
    let whole : take (suc n) b.mine.symbols ≡ whole_symbols h.bytes h.ends =
    ap (λ (xs : List Symbol). take (suc n) xs) (sound.opened is)
    ∙ ap (λ (xs : List Symbol). syn ∷ xs) h.data_is in
    let bytes_are = ap bytes_in whole ∙ bytes_in-whole h.bytes h.ends in
    let fin_is = ap has_ended whole ∙ has_ended-whole h.bytes h.ends in
    record {
      opened = λ e. whole ∙ sym (λ i. whole_symbols (bytes_are i) (fin_is i));
      unopened = λ e. absurd (true≢false (sym is ∙ e));
      near = omega (arith, length-take (suc n) b.mine.symbols, sound.near);
      trimmed = omega arith;
      acked = omega (arith, smaller_mine b, sound.acked);
    }

-- THE SAME SEGMENTS
min_twice : (x y : ℕ) → min (min x y) y ≡ min x y
min_twice x y = omega arith

same_ack : (b : BothLines) (edge : ℕ) (resets_it : Bool) → agreed_ack (cut b edge resets_it) ≡ agreed_ack b
same_ack b edge resets_it =
    ap (λ (n : ℕ). (client_or_zero b.mine.opening + n) % 2 ^ 32) (min_twice b.mine.acked (their_acked b))

pub same_segment : (b : BothLines) (edge : ℕ) (resets_it : Bool) (offset flags : ℕ) (mss : Option ℕ)
    (payload : List ℕ)
    → segment_at (cut b edge resets_it) offset flags mss payload ≡ segment_at b offset flags mss payload
same_segment b edge resets_it offset flags mss payload =
    ap (λ (n : ℕ). tcp (record {
      dst_mac = b.mine.mac;
      tuple = b.tuple;
      seq = (b.number + offset) % 2 ^ 32;
      ack = n;
      flags = flags;
      window = agreed_window b;
      mss = mss;
    }) payload) (same_ack b edge resets_it)

same_data : (b : BothLines) (edge : ℕ) (resets_it : Bool) (offset : ℕ) (bytes : List ℕ) (ends : Bool)
    (pieces : List (ℕ × List ℕ))
    → map (data_segment (cut b edge resets_it) offset bytes ends) pieces
    ≡ map (data_segment b offset bytes ends) pieces
same_data b edge resets_it offset bytes ends [] = refl
same_data b edge resets_it offset bytes ends (x ∷ pieces) =
    λ i. same_segment b edge resets_it (offset + largest_payload * x.0) (data_flags x.1 (ends_here bytes ends x.0)) None
    x.1 i ∷ same_data b edge resets_it offset bytes ends pieces i

same_syn : (b : BothLines) (edge : ℕ) (resets_it has : Bool)
    → syn_segments (cut b edge resets_it) has ≡ syn_segments b has
same_syn b edge resets_it true =
    ap (λ (r : Released). r ∷ [])
    (same_segment b edge resets_it 0 syn_ack (Some (min b.mine.mss b.theirs.mss)) [])
same_syn b edge resets_it false = refl

same_symbols : (b : BothLines) (edge : ℕ) (resets_it : Bool) (from : ℕ) (xs : List Symbol)
    → symbol_segments (cut b edge resets_it) from xs ≡ symbol_segments b from xs
same_symbols b edge resets_it from xs =
    let pieces = enumerate_from 0 (payloads_of (bytes_in xs) (has_symbol fin xs)) in
    λ i. same_syn b edge resets_it (has_symbol syn xs) i
    ++ same_data b edge resets_it (max from 1) (bytes_in xs) (has_symbol fin xs) pieces i

-- PARTS OF A LIST
take_twice : {X : Type 0} (n m : ℕ) (xs : List X) → n ≤ m → take n (take m xs) ≡ take n xs
take_twice zero m xs h = refl
take_twice (suc n) zero xs h = absurd (omega (arith, h))
take_twice (suc n) (suc m) [] h = refl
take_twice (suc n) (suc m) (x ∷ xs) h =
    ap (λ ys. x ∷ ys) (take_twice n m xs (omega (arith, h)))

taken_part : (from to edge : ℕ) (xs : List Symbol) → to ≤ edge
    → take (to - from) (drop from (take edge xs)) ≡ take (to - from) (drop from xs)
taken_part from to edge xs h = by (cases_lt from to)
  where
    by : (from < to) ⊎ (to ≤ from) → take (to - from) (drop from (take edge xs)) ≡ take (to - from) (drop from xs)
    by (inl low) =
        let is : edge ≡ from + (edge - from) = omega (arith, low, h) in
        ap (λ (e : ℕ). take (to - from) (drop from (take e xs))) is
        ∙ (ap (λ (ys : List Symbol). take (to - from) ys) (drop-take from (edge - from) xs)
        ∙ take_twice (to - from) (edge - from) (drop from xs) (omega (arith, low, h)))
    by (inr high) =
        let none : to - from ≡ 0 = omega (arith, high) in
        ap (λ (n : ℕ). take n (drop from (take edge xs))) none
        ∙ sym (ap (λ (n : ℕ). take n (drop from xs)) none)

-- WHAT GOES OUT of it
same_release : (b : BothLines) (edge : ℕ) (resets_it : Bool) (from to : ℕ) → to ≤ edge
    → release_symbols (cut b edge resets_it) from to ≡ release_symbols b from to
unfolding release_symbols
same_release b edge resets_it from to h =
    ap (λ (xs : List Symbol). symbol_segments (cut b edge resets_it) from xs)
    (taken_part from to edge b.mine.symbols h)
    ∙ same_symbols b edge resets_it from (take (to - from) (drop from b.mine.symbols))

cut_kinds : (b : BothLines) (edge : ℕ) (resets_it : Bool) (from to : ℕ) → IsSound (cut b edge resets_it).mine
    → to ≤ edge → All (IsOutOf (cut b edge resets_it)) (release_symbols b from to)
cut_kinds b edge resets_it from to sound h =
    subst (All (IsOutOf (cut b edge resets_it))) (same_release b edge resets_it from to h)
    (symbol_kinds (cut b edge resets_it) from to sound)

cut_again : (b : BothLines) (edge : ℕ) (resets_it : Bool) (old : ℕ) (tooks : List Took)
    → IsSound (cut b edge resets_it).mine → old ≤ edge
    → All (IsOutOf (cut b edge resets_it)) (flat_map (release_again b old) tooks)
unfolding release_again
cut_again b edge resets_it old [] sound h = All-nil (IsOutOf (cut b edge resets_it))
cut_again b edge resets_it old (took ∷ tooks) sound h =
    All-append (IsOutOf (cut b edge resets_it)) (release_again b old took) (flat_map (release_again b old) tooks)
    (cond_both (same_tuple took.tuple b.tuple) (release_span b old took.what) []
    (All (IsOutOf (cut b edge resets_it)))
    (λ e. spans took.what) (λ e. All-nil (IsOutOf (cut b edge resets_it))))
    (cut_again b edge resets_it old tooks sound h)
  where
    spans : (what : What) → All (IsOutOf (cut b edge resets_it)) (release_span b old what)
    spans Ignored = All-nil (IsOutOf (cut b edge resets_it))
    spans (Opened o) = All-nil (IsOutOf (cut b edge resets_it))
    spans (Restarted o) = All-nil (IsOutOf (cut b edge resets_it))
    spans (Symbols from to) =
        cut_kinds b edge resets_it (max from b.mine.base) (min to old) sound (omega (arith, h))
    spans Reset = All-nil (IsOutOf (cut b edge resets_it))
    spans (Refused c) = All-nil (IsOutOf (cut b edge resets_it))

same_bare : (b : BothLines) (edge : ℕ) (resets_it : Bool) (at : ℕ) (bare : Bool)
    → release_bare (cut b edge resets_it) at bare ≡ release_bare b at bare
same_bare b edge resets_it at true =
    ap (λ (r : Released). r ∷ []) (same_segment b edge resets_it at ack_alone None [])
same_bare b edge resets_it at false = refl

same_reset : (b : BothLines) (edge : ℕ) (resets_it : Bool) (at : ℕ) (due : Bool)
    → release_reset (cut b edge resets_it) at due ≡ release_reset b at due
same_reset b edge resets_it at true =
    ap (λ (r : Released). r ∷ []) (same_segment b edge resets_it at rst_ack None [])
same_reset b edge resets_it at false = refl

cut_with : (b : BothLines) (edge next : ℕ) (bare resets_it : Bool) (tooks : List Took)
    → IsSound (cut b next resets_it).mine → edge ≤ next
    → All (IsOutOf (cut b next resets_it)) (plain_with b edge next bare resets_it tooks)
cut_with b edge next bare resets_it tooks sound h =
    let c = cut b next resets_it in
    let symbols = flat_map (release_again b edge) tooks ++ release_symbols b edge next in
    All-append (IsOutOf c) (symbols ++ release_bare b next bare) (release_reset b next resets_it)
    (All-append (IsOutOf c) symbols (release_bare b next bare)
    (All-append (IsOutOf c) (flat_map (release_again b edge) tooks) (release_symbols b edge next)
    (cut_again b next resets_it edge tooks sound h) (cut_kinds b next resets_it edge next sound (omega arith)))
    (subst (All (IsOutOf c)) (same_bare b next resets_it next bare) (bare_kinds c next bare)))
    (subst (All (IsOutOf c)) (same_reset b next resets_it next resets_it) (reset_kinds c next resets_it (λ e. e)))

-- the plain segments of a settling are of the line up to the new edge
pub cut_plain : (b : BothLines) (p : Progress) (tooks : List Took) → p.edge ≤ new_edge b p.edge
    → IsSound (cut b (new_edge b p.edge) (resets_at b p)).mine
    → All (IsOutOf (cut b (new_edge b p.edge) (resets_at b p))) (plain_of b p tooks)
cut_plain b p tooks h sound =
    cut_with b p.edge (new_edge b p.edge) (wants_bare_at b p tooks) (resets_at b p) tooks sound h

-- WHERE NOTHING IS RELEASED YET
none_at_first : (b : BothLines) (tooks : List Took) → plain_with b 0 0 false false tooks ≡ []
unfolding release_symbols
none_at_first b tooks =
    ap (λ (out : List Released). ((out ++ release_symbols b 0 0) ++ []) ++ []) (none_again b tooks)

false_if : (flag : Bool) (n : ℕ) → n ≡ 0 → (flag ≡ true → 0 < n) → flag ≡ false
false_if true n e h = let some = h refl in absurd (omega (arith, e, some))
false_if false n e h = refl

pub none_out : (b : BothLines) (p : Progress) (tooks : List Took) → p.edge ≡ 0 → new_edge b p.edge ≡ 0
    → plain_of b p tooks ≡ []
none_out b p tooks edge_is next_is =
    let next = new_edge b p.edge in
    let symbols = flat_map (release_again b p.edge) tooks ++ release_symbols b p.edge next in
    let wants = wants_bare b p.edge p.last tooks in
    let bare = false_if (wants_bare_at b p tooks) next next_is (λ e.
    ltb-true 0 next (and_parts (nat_lt 0 next) wants (and_parts (is_empty symbols) (nat_lt 0 next && wants) e).1).0) in
    let resets_it = false_if (resets_at b p) next next_is (λ e.
    let agrees = (and_parts p.reset_due (agrees_on_reset b next) e).1 in
    let mine = and_parts b.mine.reset (b.theirs.reset && (has_one_client b && nat_lt 0 next)) agrees in
    let theirs = and_parts b.theirs.reset (has_one_client b && nat_lt 0 next) mine.1 in
    ltb-true 0 next (and_parts (has_one_client b) (nat_lt 0 next) theirs.1).1) in
    (λ i. plain_with b (edge_is i) (next_is i) (bare i) (resets_it i) tooks) ∙ none_at_first b tooks
