-- What goes out of a connection but for a refusal: nothing, its first symbols behind SYN, or what comes after them. And
-- which SYN is shown last then.
use Rattle.std.proofs.Common.{◌≡◌, ℕ, ◌+◌, ◌<◌, ◌%◌, ◌^◌, ◌==◌, zero, suc, Bool, true, false, ◌&&◌, ◌||◌, nat_lt, is_some, if◌then◌else◌, List, [], ◌∷◌, ◌++◌, Option, Some, refl, ap, ◌∙◌, All, arith}
use Rattle.std.specs.List.{flat_map}
use Rattle.std.proofs.lemmas.Bool.{and_parts, ltb-true}
use Rattle.std.proofs.lemmas.List.Elements.{All-append, All-head, All-tail}
use Rattle.tcp_track.specs.declared.answers.Took.{Took}
use Rattle.tcp_track.specs.declared.openings.Opening.{Opening}
use Rattle.settle_rules.specs.Matching.{BothLines, has_one_client, matched_end}
use Rattle.settle_rules.specs.Progress.{Progress}
use Rattle.settle_rules.specs.Release.{Released, data_flags, release_bare, release_reset, release_symbols, reply, syn_ack, tcp}
use Rattle.settle_rules.specs.Settle.{agrees_on_reset, goes_out, is_empty, new_edge, release_again, shown_after, wants_bare}
use Rattle.theorem_frames.specs.Lines.{IsSound}
use Rattle.theorem_stands.proofs.KindLemmas.{BeginsWithSyn, IsOutOf, again_kinds, answers, bare_kinds, begins_with_syn, none_again, opens, refuses, reset_kinds, resets, symbol_kinds, tells}

-- what is released up to a new edge, with a bare segment and a reset
abbrev pub plain_with : BothLines → ℕ → ℕ → Bool → Bool → List Took → List Released
plain_with b edge next bare reset_it tooks =
    flat_map (release_again b edge) tooks ++ release_symbols b edge next ++ release_bare b next bare
    ++ release_reset b next reset_it

-- the plain segments of a settling
abbrev pub wants_bare_at : BothLines → Progress → List Took → Bool
wants_bare_at b p tooks =
    is_empty (flat_map (release_again b p.edge) tooks ++ release_symbols b p.edge (new_edge b p.edge))
    && (nat_lt 0 (new_edge b p.edge) && wants_bare b p.edge p.last tooks)

abbrev pub resets_at : BothLines → Progress → Bool
resets_at b p = p.reset_due && agrees_on_reset b (new_edge b p.edge)

abbrev pub plain_of : BothLines → Progress → List Took → List Released
plain_of b p tooks = plain_with b p.edge (new_edge b p.edge) (wants_bare_at b p tooks) (resets_at b p) tooks

pub data PlainCases (b : BothLines) (edge next : ℕ) (out : List Released) : Type 0 where
  later : 0 < edge → All (IsOutOf b) out → PlainCases b edge next out
  first : is_some b.mine.opening ≡ true → BeginsWithSyn b out → PlainCases b edge next out
  nothing : next ≡ 0 → out ≡ [] → PlainCases b edge next out

plain_kinds : (b : BothLines) (edge next : ℕ) (bare reset_it : Bool) (tooks : List Took) → IsSound b.mine →
    (reset_it ≡ true → b.mine.reset ≡ true) → All (IsOutOf b) (plain_with b edge next bare reset_it tooks)
plain_kinds b edge next bare reset_it tooks sound h =
    let symbols = flat_map (release_again b edge) tooks ++ release_symbols b edge next in
    All-append (IsOutOf b) (symbols ++ release_bare b next bare) (release_reset b next reset_it)
    (All-append (IsOutOf b) symbols (release_bare b next bare)
    (All-append (IsOutOf b) (flat_map (release_again b edge) tooks) (release_symbols b edge next)
    (again_kinds b edge tooks sound) (symbol_kinds b edge next sound)) (bare_kinds b next bare))
    (reset_kinds b next reset_it h)

-- nothing goes out where nothing was released and nothing is
nothing_yet : (b : BothLines) (bare reset_it : Bool) (tooks : List Took) → (bare ≡ true → 0 < 0) →
    (reset_it ≡ true → 0 < 0) → plain_with b 0 0 bare reset_it tooks ≡ []
unfolding release_symbols
nothing_yet b true reset_it tooks h g = absurd (omega (arith, h refl))
nothing_yet b false true tooks h g = absurd (omega (arith, g refl))
nothing_yet b false false tooks h g =
    ap (λ (out : List Released). ((out ++ release_symbols b 0 0) ++ []) ++ []) (none_again b tooks)

first_out : (b : BothLines) (n : ℕ) (bare reset_it : Bool) (tooks : List Took) → IsSound b.mine →
    is_some b.mine.opening ≡ true → (reset_it ≡ true → b.mine.reset ≡ true) →
    BeginsWithSyn b (plain_with b 0 (suc n) bare reset_it tooks)
first_out b n bare reset_it tooks sound is h =
    let begins = begins_with_syn b (suc n) sound is (omega arith) in
    let bares = release_bare b (suc n) bare in
    let ends = release_reset b (suc n) reset_it in
    record {
      mss = begins.mss;
      rest = (begins.rest ++ bares) ++ ends;
      out_is = ap (λ (out : List Released). ((out ++ release_symbols b 0 (suc n)) ++ bares) ++ ends)
          (none_again b tooks) ∙ ap (λ (out : List Released). (out ++ bares) ++ ends) begins.out_is;
      kinds = All-append (IsOutOf b) (begins.rest ++ bares) ends
          (All-append (IsOutOf b) begins.rest bares begins.kinds (bare_kinds b (suc n) bare))
          (reset_kinds b (suc n) reset_it h);
    }

with_cases : (b : BothLines) (edge next : ℕ) (bare reset_it : Bool) (tooks : List Took) → IsSound b.mine →
    (edge ≡ 0 → 0 < next → is_some b.mine.opening ≡ true) → (bare ≡ true → 0 < next) →
    (reset_it ≡ true → (b.mine.reset ≡ true) × (0 < next)) →
    PlainCases b edge next (plain_with b edge next bare reset_it tooks)
with_cases b (suc n) next bare reset_it tooks sound opened bares resets_it =
    later (omega arith) (plain_kinds b (suc n) next bare reset_it tooks sound (λ e. (resets_it e).0))
with_cases b zero (suc n) bare reset_it tooks sound opened bares resets_it =
    let is = opened refl (omega arith) in
    first is (first_out b n bare reset_it tooks sound is (λ e. (resets_it e).0))
with_cases b zero zero bare reset_it tooks sound opened bares resets_it =
    nothing refl (nothing_yet b bare reset_it tooks bares (λ e. (resets_it e).1))

resets_mine : (b : BothLines) (p : Progress) → resets_at b p ≡ true →
    (b.mine.reset ≡ true) × (0 < new_edge b p.edge)
resets_mine b p e =
    let agrees = (and_parts p.reset_due (agrees_on_reset b (new_edge b p.edge)) e).1 in
    let some = nat_lt 0 (new_edge b p.edge) in
    let mine = and_parts b.mine.reset (b.theirs.reset && (has_one_client b && some)) agrees in
    let theirs = and_parts b.theirs.reset (has_one_client b && some) mine.1 in
    let one = and_parts (has_one_client b) some theirs.1 in
    (mine.0, ltb-true 0 (new_edge b p.edge) one.1)

pub plain_cases : (b : BothLines) (p : Progress) (tooks : List Took) → IsSound b.mine →
    PlainCases b p.edge (new_edge b p.edge) (plain_of b p tooks)
plain_cases b p tooks sound =
    with_cases b p.edge (new_edge b p.edge) (wants_bare_at b p tooks) (resets_at b p) tooks sound opened bares
    (resets_mine b p)
  where
    opened : p.edge ≡ 0 → 0 < new_edge b p.edge → is_some b.mine.opening ≡ true
    opened e some = by (goes_out b p.edge) refl some
      where
        by : (goes : Bool) → goes_out b p.edge ≡ goes →
            0 < (if goes then matched_end b p.edge else p.edge) → is_some b.mine.opening ≡ true
        by true f g = (and_parts (is_some b.mine.opening) (nat_lt 0 p.edge || b.number_known) f).0
        by false f g = absurd (omega (arith, e, g))

    bares : wants_bare_at b p tooks ≡ true → 0 < new_edge b p.edge
    bares e =
        let symbols = flat_map (release_again b p.edge) tooks ++ release_symbols b p.edge (new_edge b p.edge) in
        let wants = wants_bare b p.edge p.last tooks in
        let parts = and_parts (is_empty symbols) (nat_lt 0 (new_edge b p.edge) && wants) e in
        ltb-true 0 (new_edge b p.edge) (and_parts (nat_lt 0 (new_edge b p.edge)) wants parts.1).0

pub plain_all : (b : BothLines) (p : Progress) (tooks : List Took) → IsSound b.mine →
    All (IsOutOf b) (plain_of b p tooks)
plain_all b p tooks sound =
    plain_kinds b p.edge (new_edge b p.edge) (wants_bare_at b p tooks) (resets_at b p) tooks sound
    (λ e. (resets_mine b p e).0)

-- THE SYN LAST SHOWN
abbrev pub known_as : BothLines → ℕ → Opening
known_as b client = record { client = client; own = b.number }

pub syn_number : (b : BothLines) → b.number < 2 ^ 32 → (b.number + 0) % 2 ^ 32 ≡ b.number
syn_number b small = omega (arith, small)

pub no_syn : (payload : List ℕ) (ends : Bool) → (data_flags payload ends == syn_ack) ≡ false
no_syn [] ends = refl
no_syn (x ∷ xs) true = refl
no_syn (x ∷ xs) false = refl

-- one segment more shows what was shown
same_shown : (b : BothLines) (client : ℕ) (r : Released) → b.number < 2 ^ 32 → IsOutOf b r →
    shown_after client (Some (known_as b client)) (r ∷ []) ≡ Some (known_as b client)
same_shown b client r small (opens mss h) =
    ap (λ (n : ℕ). Some (record { client = client; own = n })) (syn_number b small)
same_shown b client r small (tells offset payload ends fin_is some h) =
    ap (λ (is : Bool). if is then Some (record { client = client; own = (b.number + offset) % 2 ^ 32 })
    else Some (known_as b client)) (no_syn payload ends)
same_shown b client r small (answers offset) = refl
same_shown b client r small (resets offset h) = refl
same_shown b client r small (refuses c h) = refl

pub shown_next : (client : ℕ) (shown : Option Opening) (r : Released) (out : List Released) →
    shown_after client shown (r ∷ out) ≡ shown_after client (shown_after client shown (r ∷ [])) out
shown_next client shown (tcp s payload) out = refl
shown_next client shown (reply bytes) out = refl

pub all_shown : (b : BothLines) (client : ℕ) (out : List Released) → b.number < 2 ^ 32 → All (IsOutOf b) out →
    shown_after client (Some (known_as b client)) out ≡ Some (known_as b client)
all_shown b client [] small h = refl
all_shown b client (r ∷ out) small h =
    shown_next client (Some (known_as b client)) r out
    ∙ (ap (λ (o : Option Opening). shown_after client o out)
    (same_shown b client r small (All-head (IsOutOf b) r out h))
    ∙ all_shown b client out small (All-tail (IsOutOf b) r out h))

pub plain_shown : (b : BothLines) (client edge next : ℕ) (shown : Option Opening) (out : List Released) →
    b.number < 2 ^ 32 → PlainCases b edge next out → (0 < edge → shown ≡ Some (known_as b client)) → 0 < next →
    shown_after client shown out ≡ Some (known_as b client)
plain_shown b client edge next shown out small (later some kinds) before goes =
    ap (λ (o : Option Opening). shown_after client o out) (before some) ∙ all_shown b client out small kinds
plain_shown b client edge next shown out small (first is begins) before goes =
    ap (shown_after client shown) begins.out_is
    ∙ (ap (λ (n : ℕ). shown_after client (Some (record { client = client; own = n })) begins.rest)
    (syn_number b small) ∙ all_shown b client begins.rest small begins.kinds)
plain_shown b client edge next shown out small (nothing none empty) before goes = absurd (omega (arith, none, goes))
