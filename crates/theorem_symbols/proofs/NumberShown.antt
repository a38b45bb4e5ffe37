-- Which number of a SYN is the last released on a tuple, after what a settling releases of a connection.
use Rattle.std.proofs.Common.{◌≡◌, ℕ, ◌+◌, ◌<◌, ◌%◌, ◌^◌, Bool, true, false, ◌&&◌, if◌then◌else◌, List, [], ◌∷◌, fold, Option, None, Some, refl, sym, ap, subst, ◌∙◌, All, true≢false}
use Rattle.std.specs.Option.{option_map}
use Rattle.std.proofs.lemmas.Bool.{and_parts, cond_both}
use Rattle.std.proofs.lemmas.List.Elements.{All-head, All-tail}
use Rattle.inet_frame.specs.Flags.{has_syn}
use Rattle.inet_frame.specs.declared.tuple.Tuple.{Tuple}
use Rattle.tcp_track.specs.Segments.{same_tuple}
use Rattle.tcp_track.specs.declared.openings.Opening.{Opening}
use Rattle.tcp_track.proofs.TupleLemmas.{same_tuple-refl}
use Rattle.settle_rules.specs.Matching.{BothLines}
use Rattle.settle_rules.specs.Release.{Released, data_flags, release_refusal, segment_at, syn_ack}
use Rattle.settle_rules.specs.Settle as rules
use Rattle.pair_theorem.specs.Places as places
use Rattle.theorem_stands.proofs.KindLemmas.{IsOutOf, answers, opens, refuses, resets, tells}
use Rattle.theorem_stands.proofs.PlainLemmas.{no_syn, shown_next, syn_number}

pub never_syn : (payload : List ℕ) (ends : Bool) → has_syn (data_flags payload ends) ≡ false
never_syn [] ends = refl
never_syn (x ∷ xs) true = refl
never_syn (x ∷ xs) false = refl

-- THE NUMBER OF THE SYN LAST RELEASED on the tuple
pub same_number_shown : (b : BothLines) (r : Released) → b.number < 2 ^ 32 → IsOutOf b r →
    places.shown_after b.tuple (Some b.number) r ≡ Some b.number
same_number_shown b r small (opens mss h) =
    cond_both (same_tuple b.tuple b.tuple && true) (Some ((b.number + 0) % 2 ^ 32)) (Some b.number)
    (λ (o : Option ℕ). o ≡ Some b.number) (λ e. ap Some (syn_number b small)) (λ e. refl)
same_number_shown b r small (tells offset payload ends fin_is some h) =
    cond_both (same_tuple b.tuple b.tuple && has_syn (data_flags payload ends)) (Some ((b.number + offset) % 2 ^ 32))
    (Some b.number) (λ (o : Option ℕ). o ≡ Some b.number)
    (λ e. absurd (true≢false (sym (and_parts (same_tuple b.tuple b.tuple) _ e).1 ∙ never_syn payload ends))) (λ e. refl)
same_number_shown b r small (answers offset) =
    cond_both (same_tuple b.tuple b.tuple && false) (Some ((b.number + offset) % 2 ^ 32)) (Some b.number)
    (λ (o : Option ℕ). o ≡ Some b.number)
    (λ e. absurd (true≢false (sym (and_parts (same_tuple b.tuple b.tuple) _ e).1))) (λ e. refl)
same_number_shown b r small (resets offset h) =
    cond_both (same_tuple b.tuple b.tuple && false) (Some ((b.number + offset) % 2 ^ 32)) (Some b.number)
    (λ (o : Option ℕ). o ≡ Some b.number)
    (λ e. absurd (true≢false (sym (and_parts (same_tuple b.tuple b.tuple) _ e).1))) (λ e. refl)
same_number_shown b r small (refuses c h) =
    cond_both (same_tuple b.tuple b.tuple && false) (Some 0) (Some b.number)
    (λ (o : Option ℕ). o ≡ Some b.number)
    (λ e. absurd (true≢false (sym (and_parts (same_tuple b.tuple b.tuple) _ e).1))) (λ e. refl)

-- a SYN shows its number, whatever was shown before
pub first_number_shown : (b : BothLines) (mss : Option ℕ) (n : Option ℕ) → b.number < 2 ^ 32 →
    places.shown_after b.tuple n (segment_at b 0 syn_ack mss []) ≡ Some b.number
first_number_shown b mss n small =
    ap (λ (c : Bool). if c && true then Some ((b.number + 0) % 2 ^ 32) else n) (same_tuple-refl b.tuple)
    ∙ ap Some (syn_number b small)

pub numbers_stay : (b : BothLines) (out : List Released) → b.number < 2 ^ 32 → All (IsOutOf b) out →
    fold (places.shown_after b.tuple) (Some b.number) out ≡ Some b.number
numbers_stay b [] small h = refl
numbers_stay b (r ∷ out) small h =
    ap (λ (n : Option ℕ). fold (places.shown_after b.tuple) n out)
    (same_number_shown b r small (All-head (IsOutOf b) r out h))
    ∙ numbers_stay b out small (All-tail (IsOutOf b) r out h)

-- of another tuple nothing is shown
other_number : (b : BothLines) (u : Tuple) (r : Released) (n : Option ℕ) → same_tuple b.tuple u ≡ false →
    IsOutOf b r → places.shown_after u n r ≡ n
other_number b u r n e (opens mss h) =
    ap (λ (c : Bool). if c && true then Some ((b.number + 0) % 2 ^ 32) else n) e
other_number b u r n e (tells offset payload ends fin_is some h) =
    ap (λ (c : Bool). if c && has_syn (data_flags payload ends) then Some ((b.number + offset) % 2 ^ 32) else n) e
other_number b u r n e (answers offset) =
    ap (λ (c : Bool). if c && false then Some ((b.number + offset) % 2 ^ 32) else n) e
other_number b u r n e (resets offset h) =
    ap (λ (c : Bool). if c && false then Some ((b.number + offset) % 2 ^ 32) else n) e
other_number b u r n e (refuses c h) = ap (λ (d : Bool). if d && false then Some 0 else n) e

pub other_numbers : (b : BothLines) (u : Tuple) (out : List Released) (n : Option ℕ) →
    same_tuple b.tuple u ≡ false → All (IsOutOf b) out → fold (places.shown_after u) n out ≡ n
other_numbers b u [] n e h = refl
other_numbers b u (r ∷ out) n e h =
    other_numbers b u out (places.shown_after u n r) e (All-tail (IsOutOf b) r out h)
    ∙ other_number b u r n e (All-head (IsOutOf b) r out h)

-- a refusal has no SYN
pub refusal_number : (b : BothLines) (o : Option ℕ) (due : Bool) (u : Tuple) (n : Option ℕ) →
    fold (places.shown_after u) n (release_refusal b o due) ≡ n
refusal_number b None due u n = refl
refusal_number b (Some c) false u n = refl
refusal_number b (Some c) true u n = by (same_tuple b.tuple u)
  where
    by : (d : Bool) → (if d && false then Some 0 else n) ≡ n
    by true = refl
    by false = refl

-- WHAT A CONNECTION'S PROGRESS SHOWS is the number of the SYN last released
abbrev pub Follows : Option Opening → Option ℕ → Type 0
Follows shown n = (o : Opening) → shown ≡ Some o → n ≡ Some o.own

follows_one : (b : BothLines) (client : ℕ) (r : Released) (shown : Option Opening) (n : Option ℕ) → IsOutOf b r →
    Follows shown n → Follows (rules.shown_after client shown (r ∷ [])) (places.shown_after b.tuple n r)
follows_one b client r shown n (opens mss h) follows o e =
    ap (λ (c : Bool). if c && true then Some ((b.number + 0) % 2 ^ 32) else n) (same_tuple-refl b.tuple)
    ∙ ap (option_map (λ (p : Opening). p.own)) e
follows_one b client r shown n (tells offset payload ends fin_is some h) follows o e =
    let as_before =
    ap (λ (is : Bool). if is then Some (record { client = client; own = (b.number + offset) % 2 ^ 32 }) else shown)
    (no_syn payload ends) in
    (λ i. if same_tuple-refl b.tuple i && never_syn payload ends i then Some ((b.number + offset) % 2 ^ 32) else n)
    ∙ follows o (sym as_before ∙ e)
follows_one b client r shown n (answers offset) follows o e =
    ap (λ (c : Bool). if c && false then Some ((b.number + offset) % 2 ^ 32) else n) (same_tuple-refl b.tuple)
    ∙ follows o e
follows_one b client r shown n (resets offset h) follows o e =
    ap (λ (c : Bool). if c && false then Some ((b.number + offset) % 2 ^ 32) else n) (same_tuple-refl b.tuple)
    ∙ follows o e
follows_one b client r shown n (refuses c h) follows o e =
    ap (λ (d : Bool). if d && false then Some 0 else n) (same_tuple-refl b.tuple) ∙ follows o e

pub follows_all : (b : BothLines) (client : ℕ) (out : List Released) (shown : Option Opening) (n : Option ℕ) →
    All (IsOutOf b) out → Follows shown n →
    Follows (rules.shown_after client shown out) (fold (places.shown_after b.tuple) n out)
follows_all b client [] shown n h follows = follows
follows_all b client (r ∷ out) shown n h follows =
    subst (λ (q : Option Opening). Follows q (fold (places.shown_after b.tuple) (places.shown_after b.tuple n r) out))
    (sym (shown_next client shown r out))
    (follows_all b client out (rules.shown_after client shown (r ∷ [])) (places.shown_after b.tuple n r)
    (All-tail (IsOutOf b) r out h) (follows_one b client r shown n (All-head (IsOutOf b) r out h) follows))
