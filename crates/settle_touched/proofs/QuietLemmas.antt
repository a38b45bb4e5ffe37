-- A quiet connection settles to nothing, and settling makes a connection quiet.
use Rattle.std.proofs.Common.{◌≡◌, ℕ, ◌+◌, suc, Bool, true, false, not, ◌&&◌, ◌||◌, ◌==◌, nat_lt, nat_le, cond, if◌then◌else◌, List, [], ◌∷◌, ◌++◌, drop, drop-drop, refl, sym, ap, subst, ◌∙◌, true≢false, arith}
use Rattle.std.proofs.lemmas.Bool.Decides.{nat_tests}
use Rattle.std.specs.List.{common_prefix_len, flat_map, list_any}
use Rattle.tcp_track.specs.Segments.{Symbol, same_symbol, same_tuple}
use Rattle.tcp_track.specs.declared.answers.Took.{Took}
use Rattle.settle_rules.specs.Matching.{BothLines, agreed_ack_window, client_or_zero, has_one_client, is_unmatched, matched_end}
use Rattle.settle_rules.specs.Progress.{AckWindow, AgeKey, Progress, grow_age}
use Rattle.settle_rules.specs.Release.{Released, release_bare, release_refusal, release_reset}
use Rattle.settle_rules.specs.Settle.{Settled, age_key_of, agrees_on_reset, goes_out, grow_older, is_bare, is_empty, new_edge, release_again, release_span, same_ack_window, same_age_key, same_number, settle_one, shown_after, wants_bare}
use Rattle.line_settle.specs.Parts.{grow_if_turn, all_out, bare_goes, last_after, plain_out, refusal_goes, reset_goes, settled_progress, symbols_out}
use Rattle.line_settle.proofs.PartLemmas.{settle_one_is}
use Rattle.line_settle.proofs.ShownLemmas.{release_nothing}
use Rattle.settle_touched.specs.Laws.{QuietSettlesToNothing, SettlingMakesQuiet, TimedGrowsOlder, TurnMakesTimed}
use Rattle.settle_touched.specs.Quiet.{IsQuiet, IsTimed, age_in_turn, has_segment}

-- NOTHING GOES OUT

none_again : (b : BothLines) (edge : ℕ) (tooks : List Took) → has_segment b.tuple tooks ≡ false →
    flat_map (release_again b edge) tooks ≡ []
unfolding release_again
none_again b edge [] h = refl
none_again b edge (k ∷ ks) h = by (same_tuple k.tuple b.tuple) h (none_again b edge ks)
  where
    by : (c : Bool) → (c || has_segment b.tuple ks) ≡ false →
        (has_segment b.tuple ks ≡ false → flat_map (release_again b edge) ks ≡ []) →
        (if c then release_span b edge k.what else []) ++ flat_map (release_again b edge) ks ≡ []
    by true h more = absurd (true≢false h)
    by false h more = more h

none_bare : (b : BothLines) (edge : ℕ) (tooks : List Took) → has_segment b.tuple tooks ≡ false →
    list_any (is_bare b edge) tooks ≡ false
none_bare b edge [] h = refl
none_bare b edge (k ∷ ks) h = grind (arith, nat_tests, none_bare b edge ks)

no_symbols : (b : BothLines) (p : Progress) (tooks : List Took) → IsQuiet b p → has_segment b.tuple tooks ≡ false →
    symbols_out b p tooks ≡ []
unfolding symbols_out
no_symbols b p tooks q h =
    λ i. none_again b p.edge tooks h i ++ release_nothing b p.edge (new_edge b p.edge) q.edge i

not_wanted : (g any same : Bool) → any ≡ false → (g ≡ true → same ≡ true) → (g && (any || not same)) ≡ false
not_wanted true any same h s = λ i. h i || not (s refl i)
not_wanted false any same h s = refl

no_plain : (b : BothLines) (p : Progress) (tooks : List Took) → IsQuiet b p → has_segment b.tuple tooks ≡ false →
    plain_out b p tooks ≡ []
unfolding plain_out bare_goes
no_plain b p tooks q h =
    let none = no_symbols b p tooks q h in
    let silent = not_wanted (nat_lt 0 p.edge) (list_any (is_bare b p.edge) tooks)
    (same_ack_window p.last (agreed_ack_window b)) (none_bare b p.edge tooks h) q.said in
    (λ i. none i ++ release_bare b (q.edge i) (is_empty (none i)
    && (nat_lt 0 (q.edge i) && wants_bare b p.edge p.last tooks))
    ++ release_reset b (q.edge i) (p.reset_due && agrees_on_reset b (q.edge i)))
    ∙ (λ i. release_bare b p.edge (silent i) ++ release_reset b p.edge (q.reset i))

and_true : (a : Bool) → (a && true) ≡ a
and_true true = refl
and_true false = refl

-- nothing of the progress changes but the age
stays : (b : BothLines) (p : Progress) (tooks : List Took) → IsQuiet b p → has_segment b.tuple tooks ≡ false →
    settled_progress b p (plain_out b p tooks) ≡ p
stays b p tooks q h =
    let none = no_plain b p tooks q h in
    (λ i. record p {
      edge = q.edge i;
      last = last_after b p.last (is_empty (none i));
      reset_due = p.reset_due && not (p.reset_due && agrees_on_reset b (q.edge i));
      refusal_due = p.refusal_due && not (q.refusal i);
      shown = shown_after (client_or_zero b.mine.opening) p.shown (none i);
    })
    ∙ ((λ i. record p {
      reset_due = p.reset_due && not (q.reset i);
      refusal_due = p.refusal_due && true;
    })
    ∙ (λ i. record p { reset_due = and_true p.reset_due i; refusal_due = and_true p.refusal_due i }))

no_refusal : (b : BothLines) (refused : Bool) → refused ≡ false → release_refusal b b.mine.refused refused ≡ []
no_refusal b refused e = grind arith

quiet_out : (b : BothLines) (p : Progress) (tooks : List Took) → IsQuiet b p → has_segment b.tuple tooks ≡ false →
    all_out b p tooks ≡ []
unfolding all_out
quiet_out b p tooks q h = λ i. no_plain b p tooks q h i ++ no_refusal b (refusal_goes b p) q.refusal i

pub settles_quiet : (b : BothLines) (p : Progress) (is_turn : Bool) (tooks : List Took) → IsQuiet b p →
    has_segment b.tuple tooks ≡ false →
    settle_one b p is_turn tooks ≡ record { progress = grow_if_turn b is_turn p; out = [] }
settles_quiet b p is_turn tooks q h =
    settle_one_is b p is_turn tooks
    ∙ (λ i. record { progress = grow_if_turn b is_turn (stays b p tooks q h i); out = quiet_out b p tooks q h i })

pub quiet_settles_to_nothing : QuietSettlesToNothing
quiet_settles_to_nothing b p tooks q h = settles_quiet b p false tooks q h

same_key : (k : AgeKey) → same_age_key k k ≡ true
same_key k = grind (arith, nat_tests)

pub timed_older : (b : BothLines) (p : Progress) → IsTimed b p →
    grow_older b (matched_end b p.edge) p ≡ record p { age = age_in_turn p.age }
timed_older b p t =
    let key = age_key_of b (matched_end b p.edge) in
    (λ i. record p {
      age = if t.waits i then (if same_age_key (t.key i) key then grow_age p.age else 1) else 0;
      age_key = sym t.key i;
    })
    ∙ (λ i. record p { age = if nat_lt 0 p.age then (if same_key key i then grow_age p.age else 1) else 0 })

pub timed_grows_older : TimedGrowsOlder
timed_grows_older b p tooks q t h =
    settles_quiet b p true tooks q h
    ∙ ap (λ (r : Progress). record { progress = r; out = [] }) (timed_older b p t)

-- QUIET AFTER SETTLING

next_differs : (xs ys : List Symbol) →
    common_prefix_len same_symbol (drop (common_prefix_len same_symbol xs ys) xs)
    (drop (common_prefix_len same_symbol xs ys) ys) ≡ 0
next_differs [] ys = refl
next_differs (x ∷ xs) [] = refl
next_differs (x ∷ xs) (y ∷ ys) = by (same_symbol x y) refl (next_differs xs ys)
  where
    n : ℕ
    n = common_prefix_len same_symbol xs ys

    one_more : 1 + n ≡ suc n
    one_more = omega arith

    by : (c : Bool) → same_symbol x y ≡ c → common_prefix_len same_symbol (drop n xs) (drop n ys) ≡ 0 →
        common_prefix_len same_symbol (drop (cond c (1 + n) 0) (x ∷ xs)) (drop (cond c (1 + n) 0) (y ∷ ys)) ≡ 0
    by true e more =
        ap (λ (k : ℕ). common_prefix_len same_symbol (drop k (x ∷ xs)) (drop k (y ∷ ys))) one_more ∙ more
    by false e more = ap (λ (c : Bool). cond c (1 + n) 0) e

-- from the matched end on nothing more is agreed
pub end_again : (b : BothLines) (edge : ℕ) → matched_end b (matched_end b edge) ≡ matched_end b edge
end_again b edge = by (has_one_client b) refl (nat_le b.theirs.base edge) refl
  where
    agreed : ℕ → ℕ
    agreed e = common_prefix_len same_symbol (drop e b.mine.symbols) (drop e b.theirs.symbols)

    end_at : Bool → ℕ → ℕ
    end_at one e = if one && nat_le b.theirs.base e then e + agreed e else e

    no_more : agreed (edge + agreed edge) ≡ 0
    no_more =
        sym (λ i. common_prefix_len same_symbol (drop-drop (agreed edge) edge b.mine.symbols i)
        (drop-drop (agreed edge) edge b.theirs.symbols i))
        ∙ next_differs (drop edge b.mine.symbols) (drop edge b.theirs.symbols)

    stop : (c : Bool) (m n : ℕ) → n ≡ 0 → (if c then m + n else m) ≡ m
    stop true m n z = omega arith
    stop false m n z = refl

    by : (one : Bool) → has_one_client b ≡ one → (known : Bool) → nat_le b.theirs.base edge ≡ known →
        end_at one (if one && known then edge + agreed edge else edge)
        ≡ (if one && known then edge + agreed edge else edge)
    by true e true k = stop (nat_le b.theirs.base (edge + agreed edge)) (edge + agreed edge)
        (agreed (edge + agreed edge)) no_more
    by true e false k = ap (λ (c : Bool). if c then edge + agreed edge else edge) k
    by false e known k = refl

edge_again : (b : BothLines) (edge : ℕ) → new_edge b (new_edge b edge) ≡ new_edge b edge
edge_again b edge = by (goes_out b edge) refl
  where
    stop : (c : Bool) (m n : ℕ) → n ≡ m → (if c then n else m) ≡ m
    stop true m n e = e
    stop false m n e = refl

    by : (c : Bool) → goes_out b edge ≡ c →
        new_edge b (if c then matched_end b edge else edge) ≡ (if c then matched_end b edge else edge)
    by true e = stop (goes_out b (matched_end b edge)) (matched_end b edge) (matched_end b (matched_end b edge))
        (end_again b edge)
    by false e = ap (λ (c : Bool). if c then matched_end b edge else edge) e

-- where nothing went out, nothing was to be said
none_wanted : (b : BothLines) (edge : ℕ) (xs more : List Released) (g wants : Bool) →
    is_empty (xs ++ release_bare b edge (is_empty xs && (g && wants)) ++ more) ≡ true → g ≡ true → wants ≡ false
none_wanted b edge [] more true true e g = absurd (true≢false (sym e))
none_wanted b edge [] more true false e g = refl
none_wanted b edge [] more false wants e g = absurd (true≢false (sym g))
none_wanted b edge (x ∷ xs) more g wants e h = absurd (true≢false (sym e))

said_same : (any same : Bool) → (any || not same) ≡ false → same ≡ true
said_same any same e = grind arith

same_window : (a : AckWindow) → (a.ack == a.ack && a.window == a.window) ≡ true
same_window a = grind (arith, nat_tests)

said_after : (b : BothLines) (p : Progress) (tooks : List Took) → nat_lt 0 (new_edge b p.edge) ≡ true →
    same_ack_window (last_after b p.last (is_empty (plain_out b p tooks))) (agreed_ack_window b) ≡ true
unfolding plain_out bare_goes
said_after b p tooks g = by (is_empty (plain_out b p tooks)) refl
  where
    by : (c : Bool) → is_empty (plain_out b p tooks) ≡ c →
        same_ack_window (last_after b p.last c) (agreed_ack_window b) ≡ true
    by true e = said_same (list_any (is_bare b p.edge) tooks) (same_ack_window p.last (agreed_ack_window b))
        (none_wanted b (new_edge b p.edge) (symbols_out b p tooks)
        (release_reset b (new_edge b p.edge) (reset_goes b p)) (nat_lt 0 (new_edge b p.edge))
        (wants_bare b p.edge p.last tooks) e g)
    by false e = same_window (agreed_ack_window b)

due_no_more : (due agrees : Bool) → ((due && not (due && agrees)) && agrees) ≡ false
due_no_more due agrees = grind arith

settled_quiet : (b : BothLines) (p : Progress) (tooks : List Took) →
    IsQuiet b (settled_progress b p (plain_out b p tooks))
settled_quiet b p tooks = record {
  edge = edge_again b p.edge;
  said = said_after b p tooks;
  reset = due_no_more p.reset_due (agrees_on_reset b (new_edge b p.edge));
  refusal = due_no_more p.refusal_due (same_number b.mine.refused b.theirs.refused);
}

-- an age changes nothing of it
aged_quiet : (b : BothLines) (p : Progress) (is_turn : Bool) → IsQuiet b p → IsQuiet b (grow_if_turn b is_turn p)
aged_quiet b p true q = record { edge = q.edge; said = q.said; reset = q.reset; refusal = q.refusal }
aged_quiet b p false q = q

pub settling_makes_quiet : SettlingMakesQuiet
settling_makes_quiet b p is_turn tooks =
    subst (λ (s : Settled). IsQuiet b s.progress) (sym (settle_one_is b p is_turn tooks))
    (aged_quiet b (settled_progress b p (plain_out b p tooks)) is_turn (settled_quiet b p tooks))

older_waits : (age : ℕ) → nat_lt 0 (grow_age age) ≡ true
older_waits age = grind (arith, nat_tests)

age_waits : (unmatched same : Bool) (age : ℕ) →
    unmatched ≡ nat_lt 0 (if unmatched then (if same then grow_age age else 1) else 0)
age_waits true true age = sym (older_waits age)
age_waits true false age = refl
age_waits false same age = refl

pub grown_timed : (b : BothLines) (p : Progress) → IsTimed b (grow_older b (matched_end b p.edge) p)
grown_timed b p = record {
  key = refl;
  waits = age_waits (is_unmatched b p (matched_end b p.edge))
      (same_age_key p.age_key (age_key_of b (matched_end b p.edge))) p.age;
}

pub turn_makes_timed : TurnMakesTimed
turn_makes_timed b p tooks =
    subst (λ (s : Settled). IsTimed b s.progress) (sym (settle_one_is b p true tooks))
    (grown_timed b (settled_progress b p (plain_out b p tooks)))
