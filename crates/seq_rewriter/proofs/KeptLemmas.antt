-- What is kept of each client after an opening and after a thinning.
use Rattle.std.proofs.Common.{◌≡◌, ℕ, Bool, true, false, ◌==◌, cond, List, [], ◌∷◌, ◌++◌, Option, None, Some, fold, is_some, unwrap_or, refl, sym, ap, ◌∙◌}
use Rattle.std.specs.Map.{lookup}
use Rattle.std.proofs.lemmas.Bool.{and_parts, eqb-true, eq-eqb}
use Rattle.std.proofs.lemmas.Map.Entries.{lookup-filter-keys}
use Rattle.inet_frame.specs.declared.tuple.Tuple.{Tuple}
use Rattle.tcp_track.specs.Segments.{same_tuple}
use Rattle.tcp_track.specs.Stands.{is_of_client}
use Rattle.tcp_track.specs.Tracking.{same_incarnation, current_at}
use Rattle.tcp_track.specs.declared.openings.Incarnation.{Incarnation}
use Rattle.tcp_track.proofs.TupleLemmas.{same_tuple-refl, same_tuple-eq}
use Rattle.seq_rewriter.specs.Kept.{KeptNumbers, Event, opened, thinned, numbers_after, kept_numbers, number_of, lookup_number, keep_number, is_current}
use Rattle.seq_rewriter.specs.Laws.{OpeningKeepsFirst, OpeningKeepsOthers, ThinningKeepsCurrent}

same_incarnation-eq : (a b : Incarnation) → same_incarnation a b ≡ true → a ≡ b
same_incarnation-eq a b h =
    let parts = and_parts (same_tuple a.tuple b.tuple) (a.client == b.client) h in
    let tuple = same_tuple-eq a.tuple b.tuple parts.0 in
    let client = eqb-true a.client b.client parts.1 in
    λ i. record { tuple = tuple i; client = client i }

same_incarnation-refl : (a : Incarnation) → same_incarnation a a ≡ true
same_incarnation-refl a = rw (same_tuple-refl a.tuple, eq-eqb a.client a.client refl) refl

-- the first of two that is there
abbrev or_first : Option ℕ → Option ℕ → Option ℕ
or_first None other = other
or_first (Some v) other = Some v

or_first-None : (o : Option ℕ) → or_first o None ≡ o
or_first-None None = refl
or_first-None (Some v) = refl

-- a look-up finds the last entry only where it finds no other
lookup-push : (test : Incarnation → Bool) (numbers : KeptNumbers) (i : Incarnation) (v : ℕ) →
    lookup test (numbers ++ (i, v) ∷ []) ≡ or_first (lookup test numbers) (cond (test i) (Some v) None)
lookup-push test [] i v = refl
lookup-push test (n ∷ numbers) i v = by (test n.0) (lookup-push test numbers i v)
  where
    by : (b : Bool) → lookup test (numbers ++ (i, v) ∷ []) ≡ or_first (lookup test numbers) (cond (test i)
        (Some v) None) →
        cond b (Some n.1) (lookup test (numbers ++ (i, v) ∷ []))
        ≡ or_first (cond b (Some n.1) (lookup test numbers)) (cond (test i) (Some v) None)
    by true rest = refl
    by false rest = rest

-- a number that was kept last is found
pub push_found : (numbers : KeptNumbers) (i : Incarnation) (v : ℕ) → lookup_number numbers i ≡ None →
    lookup_number (numbers ++ (i, v) ∷ []) i ≡ Some v
push_found numbers i v none =
    lookup-push (same_incarnation i) numbers i v
    ∙ (ap (λ (o : Option ℕ). or_first o (cond (same_incarnation i i) (Some v) None)) none
    ∙ ap (λ (b : Bool). cond b (Some v) None) (same_incarnation-refl i))

kept-push : (events : List Event) (numbers : KeptNumbers) (e : Event) →
    fold numbers_after numbers (events ++ e ∷ []) ≡ numbers_after (fold numbers_after numbers events) e
kept-push [] numbers e = refl
kept-push (x ∷ events) numbers e = kept-push events (numbers_after numbers x) e

keep_first : (numbers : KeptNumbers) (t : Tuple) (client v : ℕ) →
    number_of (keep_number numbers t client v) t client ≡ Some (unwrap_or (number_of numbers t client) v)
keep_first numbers t client v = by (number_of numbers t client) refl
  where
    by : (o : Option ℕ) → lookup (same_incarnation (record { tuple = t; client = client })) numbers ≡ o →
        lookup (same_incarnation (record { tuple = t; client = client })) (cond (is_some o) numbers (numbers
        ++ (record { tuple = t; client = client }, v) ∷ []))
        ≡ Some (unwrap_or o v)
    by (Some w) e = e
    by None e = push_found numbers (record { tuple = t; client = client }) v e

keep_others : (numbers : KeptNumbers) (t : Tuple) (client v : ℕ) (other : Incarnation) →
    same_incarnation other (record { tuple = t; client = client }) ≡ false →
    lookup_number (keep_number numbers t client v) other ≡ lookup_number numbers other
keep_others numbers t client v other apart = by (is_some (number_of numbers t client))
  where
    by : (b : Bool) → lookup (same_incarnation other) (cond b numbers (numbers
        ++ (record { tuple = t; client = client }, v) ∷ []))
        ≡ lookup (same_incarnation other) numbers
    by true = refl
    by false =
        lookup-push (same_incarnation other) numbers (record { tuple = t; client = client }) v
        ∙ (ap (λ (b : Bool). or_first (lookup (same_incarnation other) numbers) (cond b (Some v) None)) apart
        ∙ or_first-None (lookup (same_incarnation other) numbers))

pub opening_keeps_first : OpeningKeepsFirst
unfolding kept_numbers
opening_keeps_first events t client v =
    ap (λ (ns : KeptNumbers). number_of ns t client) (kept-push events [] (opened t client v))
    ∙ keep_first (fold numbers_after [] events) t client v

pub opening_keeps_others : OpeningKeepsOthers
unfolding kept_numbers
opening_keeps_others events t client v other apart =
    ap (λ (ns : KeptNumbers). lookup_number ns other) (kept-push events [] (opened t client v))
    ∙ keep_others (fold numbers_after [] events) t client v other apart

pub thinning_keeps_current : ThinningKeepsCurrent
unfolding kept_numbers
thinning_keeps_current events tracking t client =
    ap (λ (ns : KeptNumbers). number_of ns t client) (kept-push events [] (thinned tracking))
    ∙ lookup-filter-keys (same_incarnation (record { tuple = t; client = client })) (is_current tracking)
    (is_of_client (current_at tracking t) client)
    (λ k e. ap (is_current tracking) (sym (same_incarnation-eq (record { tuple = t; client = client }) k e)))
    (fold numbers_after [] events)
