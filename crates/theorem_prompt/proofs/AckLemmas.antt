-- Which acknowledgement is the last released on a tuple, after what a settling releases of a connection.
use Rattle.std.proofs.Common.{◌≡◌, ℕ, ◌+◌, ◌-◌, ◌*◌, ◌<◌, ◌%◌, ◌^◌, ◌==◌, Bool, true, false, not, ◌&&◌, nat_lt, max, min, if◌then◌else◌, List, [], ◌∷◌, ◌++◌, map, take, drop, fold, Option, None, Some, refl, sym, ap, ◌∙◌, All, arith, eqb-true, true≢false}
use Rattle.std.specs.List.{enumerate_from, flat_map, list_any}
use Rattle.std.specs.Option.{option_map}
use Rattle.std.proofs.lemmas.Bool.{and_parts, cond_both, lt-ltb, ltb-true, not-false, or_parts}
use Rattle.std.proofs.lemmas.Grind.{fold-append}
use Rattle.std.proofs.lemmas.List.Elements.{All-append, All-cons, All-head, All-nil, All-tail}
use Rattle.inet_frame.specs.Flags.{has_rst}
use Rattle.inet_frame.specs.declared.tuple.Tuple.{Tuple}
use Rattle.tcp_track.specs.Segments.{Symbol, fin, same_tuple, syn}
use Rattle.tcp_track.specs.declared.answers.Took.{Took}
use Rattle.tcp_track.specs.declared.answers.What.{What}
use Rattle.tcp_track.specs.declared.answers.What.TheVariants.{Ignored, Opened, Restarted, Symbols, Reset, Refused}
use Rattle.tcp_track.proofs.TupleLemmas.{same_tuple-refl}
use Rattle.settle_rules.specs.Matching.{BothLines, agreed_ack, agreed_ack_window, has_one_client}
use Rattle.settle_rules.specs.Progress.{AckWindow, Progress}
use Rattle.settle_rules.specs.Release.{Released, ack_alone, bytes_in, data_flags, data_segment, data_segments, ends_here, has_symbol, largest_payload, payloads_of, release_bare, release_refusal, release_reset, release_symbols, segment_at, symbol_segments, syn_ack, syn_segments}
use Rattle.settle_rules.specs.Settle.{Settled, agrees_on_reset, is_bare, is_empty, new_edge, release_again, release_span, rest_one, same_ack_window, same_number, settle_one, settle_or_rest, wants_bare}
use Rattle.pair_theorem.specs.FrameParts.{ack_after}
use Rattle.theorem_stands.proofs.KindLemmas.{IsOutOf, answers, opens, refusal_kinds, refuses, resets, tells}
use Rattle.theorem_frames.specs.Lines.{IsSound}
use Rattle.theorem_stands.proofs.PlainLemmas.{plain_all, plain_of, resets_at, wants_bare_at}

never_rst : (payload : List ℕ) (ends : Bool) → has_rst (data_flags payload ends) ≡ false
never_rst [] ends = refl
never_rst (x ∷ xs) true = refl
never_rst (x ∷ xs) false = refl

-- A SEGMENT THAT SAYS an acknowledgement, whatever was said before
abbrev pub Says : Tuple → ℕ → Released → Type 0
Says t ack r = (n : Option ℕ) → ack_after t n r ≡ Some ack

pub segment_says : (b : BothLines) (offset flags : ℕ) (mss : Option ℕ) (payload : List ℕ) → has_rst flags ≡ false →
    Says b.tuple (agreed_ack b) (segment_at b offset flags mss payload)
segment_says b offset flags mss payload no_rst n i =
    if same_tuple-refl b.tuple i && not (no_rst i && (b.number + offset) % 2 ^ 32 == 0)
    then Some (agreed_ack b) else n

pub says_still : (t : Tuple) (ack : ℕ) (out : List Released) → All (Says t ack) out →
    fold (ack_after t) (Some ack) out ≡ Some ack
says_still t ack [] h = refl
says_still t ack (r ∷ out) h =
    ap (λ (n : Option ℕ). fold (ack_after t) n out) (All-head (Says t ack) r out h (Some ack))
    ∙ says_still t ack out (All-tail (Says t ack) r out h)

-- what says nothing else: a segment of the connection that says it, a reset, a refusal
pub still_said : (b : BothLines) (r : Released) → IsOutOf b r →
    ack_after b.tuple (Some (agreed_ack b)) r ≡ Some (agreed_ack b)
still_said b r (opens mss h) = segment_says b 0 syn_ack mss [] refl (Some (agreed_ack b))
still_said b r (tells offset payload ends fin_is some h) =
    segment_says b offset (data_flags payload ends) None payload (never_rst payload ends) (Some (agreed_ack b))
still_said b r (answers offset) = segment_says b offset ack_alone None [] refl (Some (agreed_ack b))
still_said b r (resets offset h) =
    cond_both (same_tuple b.tuple b.tuple && not (true && (b.number + offset) % 2 ^ 32 == 0)) (Some (agreed_ack b))
    (Some (agreed_ack b)) (λ (o : Option ℕ). o ≡ Some (agreed_ack b)) (λ e. refl) (λ e. refl)
still_said b r (refuses c h) =
    cond_both (same_tuple b.tuple b.tuple && false) (Some ((c + 1) % 2 ^ 32)) (Some (agreed_ack b))
    (λ (o : Option ℕ). o ≡ Some (agreed_ack b))
    (λ e. absurd (true≢false (sym (and_parts (same_tuple b.tuple b.tuple) false e).1))) (λ e. refl)

pub all_still_said : (b : BothLines) (out : List Released) → All (IsOutOf b) out →
    fold (ack_after b.tuple) (Some (agreed_ack b)) out ≡ Some (agreed_ack b)
all_still_said b [] h = refl
all_still_said b (r ∷ out) h =
    ap (λ (n : Option ℕ). fold (ack_after b.tuple) n out) (still_said b r (All-head (IsOutOf b) r out h))
    ∙ all_still_said b out (All-tail (IsOutOf b) r out h)

-- of another tuple nothing is said
other_ack : (b : BothLines) (u : Tuple) (r : Released) (n : Option ℕ) → same_tuple b.tuple u ≡ false → IsOutOf b r →
    ack_after u n r ≡ n
other_ack b u r n e (opens mss h) =
    ap (λ (c : Bool). if c && not (false && (b.number + 0) % 2 ^ 32 == 0) then Some (agreed_ack b) else n) e
other_ack b u r n e (tells offset payload ends fin_is some h) =
    ap (λ (c : Bool). if c && not (has_rst (data_flags payload ends) && (b.number + offset) % 2 ^ 32 == 0)
    then Some (agreed_ack b) else n) e
other_ack b u r n e (answers offset) =
    ap (λ (c : Bool). if c && not (false && (b.number + offset) % 2 ^ 32 == 0) then Some (agreed_ack b) else n) e
other_ack b u r n e (resets offset h) =
    ap (λ (c : Bool). if c && not (true && (b.number + offset) % 2 ^ 32 == 0) then Some (agreed_ack b) else n) e
other_ack b u r n e (refuses c h) = ap (λ (d : Bool). if d && false then Some ((c + 1) % 2 ^ 32) else n) e

pub other_acks : (b : BothLines) (u : Tuple) (out : List Released) (n : Option ℕ) → same_tuple b.tuple u ≡ false →
    All (IsOutOf b) out → fold (ack_after u) n out ≡ n
other_acks b u [] n e h = refl
other_acks b u (r ∷ out) n e h =
    other_acks b u out (ack_after u n r) e (All-tail (IsOutOf b) r out h)
    ∙ other_ack b u r n e (All-head (IsOutOf b) r out h)

-- a refusal says none
pub refusal_ack : (b : BothLines) (o : Option ℕ) (due : Bool) (u : Tuple) (n : Option ℕ) →
    fold (ack_after u) n (release_refusal b o due) ≡ n
refusal_ack b None due u n = refl
refusal_ack b (Some c) false u n = refl
refusal_ack b (Some c) true u n = by (same_tuple b.tuple u)
  where
    by : (d : Bool) → (if d && false then Some ((c + 1) % 2 ^ 32) else n) ≡ n
    by true = refl
    by false = refl

-- SYMBOLS: each segment with symbols says the agreed acknowledgement
all_mapped : {X Y : Type 0} (P : Y → Type 0) (f : X → Y) → ((x : X) → P (f x)) → (xs : List X) → All P (map f xs)
all_mapped P f each [] = All-nil P
all_mapped P f each (x ∷ xs) = All-cons P (f x) (map f xs) (each x) (all_mapped P f each xs)

symbols_say : (b : BothLines) (from : ℕ) (xs : List Symbol) →
    All (Says b.tuple (agreed_ack b)) (symbol_segments b from xs)
symbols_say b from xs =
    All-append P (syn_segments b (has_symbol syn xs)) (data_segments b offset (bytes_in xs) (has_symbol fin xs))
    (syns (has_symbol syn xs))
    (all_mapped P (data_segment b offset (bytes_in xs) (has_symbol fin xs))
    (λ piece.
    let ends = ends_here (bytes_in xs) (has_symbol fin xs) piece.0 in
    segment_says b (offset + largest_payload * piece.0) (data_flags piece.1 ends) None piece.1 (never_rst piece.1 ends))
    (enumerate_from 0 (payloads_of (bytes_in xs) (has_symbol fin xs))))
  where
    P : Released → Type 0
    P = Says b.tuple (agreed_ack b)

    offset : ℕ
    offset = max from 1

    syns : (has : Bool) → All P (syn_segments b has)
    syns true =
        All-cons P (segment_at b 0 syn_ack (Some (min b.mine.mss b.theirs.mss)) []) []
        (segment_says b 0 syn_ack (Some (min b.mine.mss b.theirs.mss)) [] refl) (All-nil P)
    syns false = All-nil P

pub released_say : (b : BothLines) (from to : ℕ) → All (Says b.tuple (agreed_ack b)) (release_symbols b from to)
unfolding release_symbols
released_say b from to = symbols_say b from (take (to - from) (drop from b.mine.symbols))

again_say : (b : BothLines) (edge : ℕ) (tooks : List Took) →
    All (Says b.tuple (agreed_ack b)) (flat_map (release_again b edge) tooks)
unfolding release_again
again_say b edge [] = All-nil (Says b.tuple (agreed_ack b))
again_say b edge (took ∷ tooks) =
    All-append P (release_again b edge took) (flat_map (release_again b edge) tooks)
    (cond_both (same_tuple took.tuple b.tuple) (release_span b edge took.what) [] (All P) (λ e. spans took.what)
    (λ e. All-nil P)) (again_say b edge tooks)
  where
    P : Released → Type 0
    P = Says b.tuple (agreed_ack b)

    spans : (what : What) → All P (release_span b edge what)
    spans Ignored = All-nil P
    spans (Opened o) = All-nil P
    spans (Restarted o) = All-nil P
    spans (Symbols from to) = released_say b (max from b.mine.base) (min to edge)
    spans Reset = All-nil P
    spans (Refused c) = All-nil P

-- THE LAST OF ALL PLAIN SEGMENTS
abbrev pub IsLast : Option AckWindow → Option ℕ → Type 0
IsLast last n = (w : AckWindow) → last ≡ Some w → n ≡ Some w.ack

bare_still : (b : BothLines) (next : ℕ) (bare : Bool) →
    fold (ack_after b.tuple) (Some (agreed_ack b)) (release_bare b next bare) ≡ Some (agreed_ack b)
bare_still b next true = segment_says b next ack_alone None [] refl (Some (agreed_ack b))
bare_still b next false = refl

reset_still : (b : BothLines) (next : ℕ) (reset_it : Bool) →
    fold (ack_after b.tuple) (Some (agreed_ack b)) (release_reset b next reset_it) ≡ Some (agreed_ack b)
reset_still b next true =
    cond_both (same_tuple b.tuple b.tuple && not (true && (b.number + next) % 2 ^ 32 == 0)) (Some (agreed_ack b))
    (Some (agreed_ack b)) (λ (o : Option ℕ). o ≡ Some (agreed_ack b)) (λ e. refl) (λ e. refl)
reset_still b next false = refl

abbrev plain_parts : BothLines → List Released → ℕ → Bool → Bool → List Released
plain_parts b symbols next bare reset_it =
    symbols ++ release_bare b next bare ++ release_reset b next reset_it

-- after symbols
parts_last : (b : BothLines) (symbols : List Released) (next : ℕ) (bare reset_it : Bool) (n : Option ℕ) →
    fold (ack_after b.tuple) n symbols ≡ Some (agreed_ack b) →
    fold (ack_after b.tuple) n (plain_parts b symbols next bare reset_it) ≡ Some (agreed_ack b)
parts_last b symbols next bare reset_it n e =
    fold-append (ack_after b.tuple) n (symbols ++ release_bare b next bare) (release_reset b next reset_it)
    ∙ (ap (λ (m : Option ℕ). fold (ack_after b.tuple) m (release_reset b next reset_it))
    (fold-append (ack_after b.tuple) n symbols (release_bare b next bare)
    ∙ (ap (λ (m : Option ℕ). fold (ack_after b.tuple) m (release_bare b next bare)) e ∙ bare_still b next bare))
    ∙ reset_still b next reset_it)

plain_last : (b : BothLines) (symbols : List Released) (next : ℕ) (bare reset_it : Bool) (last : Option AckWindow)
    (n : Option ℕ) → All (Says b.tuple (agreed_ack b)) symbols →
    (is_empty symbols ≡ true → bare ≡ false → reset_it ≡ true → last ≡ Some (agreed_ack_window b)) → IsLast last n →
    IsLast (if is_empty (plain_parts b symbols next bare reset_it) then last else Some (agreed_ack_window b))
    (fold (ack_after b.tuple) n (plain_parts b symbols next bare reset_it))
plain_last b [] next false false last n say same h w e = h w e
plain_last b [] next false true last n say same h w e =
    ap (λ (m : Option ℕ). fold (ack_after b.tuple) m (release_reset b next true))
    (h (agreed_ack_window b) (same refl refl refl))
    ∙ (reset_still b next true ∙ ap (option_map (λ (v : AckWindow). v.ack)) e)
plain_last b [] next true reset_it last n say same h w e =
    ap (λ (m : Option ℕ). fold (ack_after b.tuple) m (release_reset b next reset_it))
    (segment_says b next ack_alone None [] refl n)
    ∙ (reset_still b next reset_it ∙ ap (option_map (λ (v : AckWindow). v.ack)) e)
plain_last b (r ∷ symbols) next bare reset_it last n say same h w e =
    let first =
    ap (λ (m : Option ℕ). fold (ack_after b.tuple) m symbols) (All-head (Says b.tuple (agreed_ack b)) r symbols say n)
    ∙ says_still b.tuple (agreed_ack b) symbols (All-tail (Says b.tuple (agreed_ack b)) r symbols say) in
    parts_last b (r ∷ symbols) next bare reset_it n first ∙ ap (option_map (λ (v : AckWindow). v.ack)) e

-- where nothing more is to be said, the agreed acknowledgement was said
plain_agreed : (b : BothLines) (symbols : List Released) (next : ℕ) (bare reset_it : Bool) (last : Option AckWindow) →
    (is_empty symbols ≡ true → bare ≡ false → last ≡ Some (agreed_ack_window b)) →
    (if is_empty (plain_parts b symbols next bare reset_it) then last else Some (agreed_ack_window b))
    ≡ Some (agreed_ack_window b)
plain_agreed b [] next false false last h = h refl refl
plain_agreed b [] next false true last h = refl
plain_agreed b [] next true reset_it last h = refl
plain_agreed b (r ∷ symbols) next bare reset_it last h = refl

same_window_is : (last : Option AckWindow) (now : AckWindow) → same_ack_window last now ≡ true → last ≡ Some now
same_window_is None now e = absurd (true≢false (sym e))
same_window_is (Some last) now e =
    let parts = and_parts (last.ack == now.ack) (last.window == now.window) e in
    let ack = eqb-true last.ack now.ack parts.0 in
    let window = eqb-true last.window now.window parts.1 in
    λ i. Some (record { ack = ack i; window = window i })

abbrev symbols_of : BothLines → Progress → List Took → List Released
symbols_of b p tooks =
    flat_map (release_again b p.edge) tooks ++ release_symbols b p.edge (new_edge b p.edge)

unwanted : (b : BothLines) (p : Progress) (tooks : List Took) → is_empty (symbols_of b p tooks) ≡ true →
    wants_bare_at b p tooks ≡ false → 0 < new_edge b p.edge → p.last ≡ Some (agreed_ack_window b)
unwanted b p tooks empty apart some =
    let wants = wants_bare b p.edge p.last tooks in
    let goes = lt-ltb 0 (new_edge b p.edge) some in
    let quiet : wants ≡ false = sym (λ i. empty i && (goes i && wants)) ∙ apart in
    let parts =
    or_parts (list_any (is_bare b p.edge) tooks) (not (same_ack_window p.last (agreed_ack_window b))) quiet in
    same_window_is p.last (agreed_ack_window b) (not-false (same_ack_window p.last (agreed_ack_window b)) parts.1)

-- a reset goes out only behind symbols
reset_released : (b : BothLines) (p : Progress) → resets_at b p ≡ true → 0 < new_edge b p.edge
reset_released b p e =
    let some = nat_lt 0 (new_edge b p.edge) in
    let agrees = (and_parts p.reset_due (agrees_on_reset b (new_edge b p.edge)) e).1 in
    let mine = and_parts b.mine.reset (b.theirs.reset && (has_one_client b && some)) agrees in
    let theirs = and_parts b.theirs.reset (has_one_client b && some) mine.1 in
    ltb-true 0 (new_edge b p.edge) (and_parts (has_one_client b) some theirs.1).1

-- ONE CONNECTION, settled or not
pub record ConnectionLast (b : BothLines) (p : Progress) (one : Settled) : Type 0 where
  pub follows : (n : Option ℕ) → IsLast p.last n → IsLast one.progress.last (fold (ack_after b.tuple) n one.out)
  pub kinds : All (IsOutOf b) one.out

last_is : (b : BothLines) (p : Progress) (is_turn : Bool) (tooks : List Took) →
    (settle_one b p is_turn tooks).progress.last
    ≡ (if is_empty (plain_of b p tooks) then p.last else Some (agreed_ack_window b))
unfolding settle_one
last_is b p true tooks = refl
last_is b p false tooks = refl

edge_is : (b : BothLines) (p : Progress) (is_turn : Bool) (tooks : List Took) →
    (settle_one b p is_turn tooks).progress.edge ≡ new_edge b p.edge
unfolding settle_one
edge_is b p true tooks = refl
edge_is b p false tooks = refl

settled_last : (b : BothLines) (p : Progress) (is_turn : Bool) (tooks : List Took) → IsSound b.mine →
    ConnectionLast b p (settle_one b p is_turn tooks)
unfolding settle_one
settled_last b p is_turn tooks sound =
    let plain = plain_of b p tooks in
    let due = p.refusal_due && same_number b.mine.refused b.theirs.refused in
    let refusal = release_refusal b b.mine.refused due in
    let say =
    All-append (Says b.tuple (agreed_ack b)) (flat_map (release_again b p.edge) tooks)
    (release_symbols b p.edge (new_edge b p.edge)) (again_say b p.edge tooks)
    (released_say b p.edge (new_edge b p.edge)) in
    record {
      follows = λ n h w e.
          fold-append (ack_after b.tuple) n plain refusal
          ∙ (refusal_ack b b.mine.refused due b.tuple (fold (ack_after b.tuple) n plain)
          ∙ plain_last b (symbols_of b p tooks) (new_edge b p.edge) (wants_bare_at b p tooks) (resets_at b p) p.last n
          say (λ empty bare resets_it. unwanted b p tooks empty bare (reset_released b p resets_it)) h w
          (sym (last_is b p is_turn tooks) ∙ e));
      kinds = All-append (IsOutOf b) plain refusal (plain_all b p tooks sound) (refusal_kinds b due);
    }

pub settled_agreed : (b : BothLines) (p : Progress) (is_turn : Bool) (tooks : List Took) →
    0 < (settle_one b p is_turn tooks).progress.edge →
    (settle_one b p is_turn tooks).progress.last ≡ Some (agreed_ack_window b)
settled_agreed b p is_turn tooks some =
    let is = edge_is b p is_turn tooks in
    last_is b p is_turn tooks
    ∙ plain_agreed b (symbols_of b p tooks) (new_edge b p.edge) (wants_bare_at b p tooks) (resets_at b p) p.last
    (λ empty bare. unwanted b p tooks empty bare (omega (arith, is, some)))

-- a connection that was restarted stays as it is
pub record IsRested (p q : Progress) : Type 0 where
  pub edge : q.edge ≡ p.edge
  pub last : q.last ≡ p.last

pub rested : (b : BothLines) (p : Progress) (is_turn : Bool) → IsRested p (rest_one b p is_turn).progress
rested b p true = record { edge = refl; last = refl }
rested b p false = record { edge = refl; last = refl }

pub one_last : (b : BothLines) (p : Progress) (restarted is_turn : Bool) (tooks : List Took) → IsSound b.mine →
    ConnectionLast b p (settle_or_rest restarted b p is_turn tooks)
one_last b p true is_turn tooks sound = record {
  follows = λ n h w e. h w (sym (rested b p is_turn).last ∙ e);
  kinds = All-nil (IsOutOf b);
}
one_last b p false is_turn tooks sound = settled_last b p is_turn tooks sound
