-- Settling the touched places is settling all of them.
use Rattle.std.proofs.Common.{◌≡◌, ◌⊎◌, inl, inr, ℕ, ◌+◌, ◌-◌, ◌<◌, ◌≤◌, suc, Bool, true, false, ◌||◌, ◌==◌, nat_eq, nat_lt, min, if◌then◌else◌, List, [], ◌∷◌, ◌++◌, append-nil, length, fold, slice_get, Option, None, Some, is_some, unwrap_or, refl, sym, ap, subst, ◌∙◌, true≢false, arith}
use Rattle.std.proofs.lemmas.Bool.{eqb-true, eq-eqb}
use Rattle.std.proofs.lemmas.Bool.Decides.{nat_tests}
use Rattle.std.proofs.lemmas.Map.Entries.{lookup_from_place}
use Rattle.std.proofs.lemmas.Map.Steps.{set_value_same}
use Rattle.std.specs.Cmp.{IsEquivalence}
use Rattle.std.specs.List.{IsDistinct}
use Rattle.std.specs.Map.{keys_of, lookup, set_value}
use Rattle.std.specs.Option.{option_map}
use Rattle.inet_frame.specs.declared.tuple.Tuple.{Tuple}
use Rattle.tcp_track.specs.LineFields.{LineFields}
use Rattle.tcp_track.specs.Segments.{same_tuple}
use Rattle.tcp_track.specs.Tracking.{line_at}
use Rattle.tcp_track.specs.declared.table.Entry.{Entry}
use Rattle.tcp_track.proofs.StandingLemmas.{same_tuple-sym}
use Rattle.tcp_track.proofs.TupleLemmas.{same_tuple-eq, same_tuple-refl}
use Rattle.settle_rules.specs.Matching.{BothLines}
use Rattle.settle_rules.specs.Progress.{Progress, ProgressTable, grow_age}
use Rattle.settle_rules.specs.Settle.{Settled, Settlement, settle_or_rest}
use Rattle.settle_table.specs.Kept.{KeptScene, add_tuple, both_kept, is_restarted, line_settled, settle_found, settle_kept, settle_kept_tuple, settle_line, tuples_of}
use Rattle.settle_table.specs.Table.{set_progress}
use Rattle.settle_touched.specs.Ages.{IsSince, StoredTable, age_now, progress_now, stored_after, turns_after}
use Rattle.settle_touched.specs.Laws.{SettlesTouchedAlone}
use Rattle.settle_touched.specs.Places.{AreAscending, IsUntouched, PlacesSettled, is_among, nothing_stored, set_stored, settle_entry, settle_entry_at, add_place, stored_of}
use Rattle.settle_touched.specs.Quiet.{IsQuiet, IsTimed, age_in_turn}
use Rattle.settle_touched.specs.declared.stored.Stored.{Stored}
use Rattle.settle_touched.proofs.AgeLemmas.{settles_what_is_stored}
use Rattle.settle_touched.proofs.MixLemmas.{AreApart, apart_from_distinct, apart_set, found_next, has_tuple, lookup-stored_other, mix, none_yet, or_none, set_next}
use Rattle.settle_touched.proofs.QuietLemmas.{quiet_settles_to_nothing, timed_grows_older}

-- AN UNTOUCHED CONNECTION

low_min : (n since : ℕ) → since < n → nat_lt 0 (min (n - since) 257) ≡ true
low_min n since low = grind (arith, nat_tests)

-- it is timed also where its age is read now
timed_now : (b : BothLines) (turns : ℕ) (s : Stored) → IsSince turns s → IsTimed b s.progress →
    IsTimed b (progress_now turns s)
timed_now b turns s h t = record {
  key = t.key;
  waits = t.waits ∙ by (nat_lt 0 s.progress.age) refl;
}
  where
    by : (c : Bool) → nat_lt 0 s.progress.age ≡ c → c ≡ nat_lt 0 (if c then min (turns - s.since) 257 else 0)
    by true e = sym (low_min turns s.since (h e))
    by false e = refl

-- its age goes on by itself
turn_goes_on : (turns : ℕ) (s : Stored) → IsSince turns s → age_in_turn (age_now turns s) ≡ age_now (turns + 1) s
turn_goes_on turns s h = by (nat_lt 0 s.progress.age) refl
  where
    by : (c : Bool) → nat_lt 0 s.progress.age ≡ c →
        age_in_turn (if c then min (turns - s.since) 257 else 0) ≡ (if c then min ((turns + 1) - s.since) 257 else 0)
    by true e =
        let low = h e in
        let next : grow_age (min (turns - s.since) 257) ≡ min ((turns + 1) - s.since) 257 = omega (arith, low) in
        ap (λ (c : Bool). if c then grow_age (min (turns - s.since) 257) else 0) (low_min turns s.since low) ∙ next
    by false e = refl

quiet_now : (b : BothLines) (turns : ℕ) (s : Stored) → IsQuiet b s.progress → IsQuiet b (progress_now turns s)
quiet_now b turns s q = record { edge = q.edge; said = q.said; reset = q.reset; refusal = q.refusal }

-- it settles to nothing
rests : (scene : KeptScene) (turns : ℕ) (table : StoredTable) (t : Tuple) (l : LineFields)
    (u : IsUntouched scene table t l) → IsSince turns u.stored →
    settle_or_rest (is_restarted scene t) (both_kept scene t l) (progress_now turns u.stored) scene.is_turn scene.tooks
    ≡ record { progress = progress_now (turns_after scene.is_turn turns) u.stored; out = [] }
unfolding both_kept
rests scene turns table t l u since =
    ap (λ (r : Bool). settle_or_rest r (both_kept scene t l) (progress_now turns u.stored) scene.is_turn scene.tooks)
    u.no_restart
    ∙ by scene.is_turn u.timed
  where
    quiet : IsQuiet (both_kept scene t l) (progress_now turns u.stored)
    quiet = quiet_now (both_kept scene t l) turns u.stored u.quiet

    by : (c : Bool) → (c ≡ true → IsTimed (both_kept scene t l) u.stored.progress) →
        settle_or_rest false (both_kept scene t l) (progress_now turns u.stored) c scene.tooks
        ≡ record { progress = progress_now (turns_after c turns) u.stored; out = [] }
    by true timed =
        timed_grows_older (both_kept scene t l) (progress_now turns u.stored) scene.tooks quiet
        (timed_now (both_kept scene t l) turns u.stored since (timed refl)) u.no_segment
        ∙ ap (λ (n : ℕ). record { progress = record u.stored.progress { age = n }; out = [] })
        (turn_goes_on turns u.stored since)
    by false timed =
        quiet_settles_to_nothing (both_kept scene t l) (progress_now turns u.stored) scene.tooks quiet u.no_segment

-- ONE CONNECTION OF THE TABLE

abbrev now : KeptScene → ℕ → List Tuple → PlacesSettled → Settlement
now scene turns rest done =
    record { progress = mix turns (turns_after scene.is_turn turns) rest done.table; out = done.out }

-- one connection more was settled
abbrev entry_added : KeptScene → ℕ → PlacesSettled → ℕ → Tuple → LineFields → PlacesSettled
entry_added scene turns done k t l =
    let one = settle_entry scene turns done.table k t l in
    record { table = one.table; out = done.out ++ one.out }

-- a touched one
settles_next : (scene : KeptScene) (turns : ℕ) (done : PlacesSettled) (k : ℕ) (t : Tuple) (l : LineFields)
    (rest : List Tuple) → line_at scene.mine t ≡ Some l → IsSince turns (stored_of done.table t k) →
    has_tuple t rest ≡ false → AreApart (keys_of done.table) →
    add_tuple scene (now scene turns (t ∷ rest) done) t ≡ now scene turns rest (entry_added scene turns done k t l)
unfolding settle_kept_tuple settle_line line_settled settle_entry
settles_next scene turns done k t l rest at since absent apart =
    ap (λ (o : Option LineFields). record {
      progress = (settle_found scene (mix turns after (t ∷ rest) done.table) t o).progress;
      out = done.out ++ (settle_found scene (mix turns after (t ∷ rest) done.table) t o).out;
    }) at
    ∙ (ap (λ (p : Progress). record {
      progress = set_progress (mix turns after (t ∷ rest) done.table) t (settles p).progress;
      out = done.out ++ (settles p).out;
    }) (found_next turns after t rest done.table k)
    ∙ ((λ i. record {
      progress = set_progress (mix turns after (t ∷ rest) done.table) t (one i).progress;
      out = done.out ++ (one i).out;
    })
    ∙ (λ i. record {
      progress = set_next turns after t rest done.table
          (stored_after scene.is_turn turns s (settles s.progress).progress) absent apart i;
      out = done.out ++ (settles s.progress).out;
    })))
  where
    after : ℕ
    after = turns_after scene.is_turn turns

    s : Stored
    s = stored_of done.table t k

    settles : Progress → Settled
    settles p = settle_or_rest (is_restarted scene t) (both_kept scene t l) p scene.is_turn scene.tooks

    one : settles (progress_now turns s) ≡ record (settles s.progress) {
      progress = progress_now after (stored_after scene.is_turn turns s (settles s.progress).progress);
    }
    one = settles_what_is_stored (is_restarted scene t) (both_kept scene t l) s scene.is_turn turns scene.tooks since

pub found_stored : (t : Tuple) (table : StoredTable) (k : ℕ) (s : Stored) → lookup (same_tuple t) table ≡ Some s →
    stored_of table t k ≡ s
found_stored t table k s e = ap (λ (o : Option Stored). unwrap_or o (nothing_stored k)) e

set_same : (t : Tuple) (table : StoredTable) (s : Stored) → lookup (same_tuple t) table ≡ Some s →
    set_stored table t s ≡ table
set_same t table s e =
    ap (λ (c : Bool). if c then set_value (same_tuple t) table s else table ++ (t, s) ∷ []) (ap is_some e)
    ∙ set_value_same (same_tuple t) table s e

-- an untouched one
rests_next : (scene : KeptScene) (turns : ℕ) (done : PlacesSettled) (t : Tuple) (l : LineFields) (rest : List Tuple)
    (u : IsUntouched scene done.table t l) → line_at scene.mine t ≡ Some l → IsSince turns u.stored →
    has_tuple t rest ≡ false → AreApart (keys_of done.table) →
    add_tuple scene (now scene turns (t ∷ rest) done) t ≡ now scene turns rest done
unfolding settle_kept_tuple settle_line line_settled
rests_next scene turns done t l rest u at since absent apart =
    ap (λ (o : Option LineFields). record {
      progress = (settle_found scene (mix turns after (t ∷ rest) done.table) t o).progress;
      out = done.out ++ (settle_found scene (mix turns after (t ∷ rest) done.table) t o).out;
    }) at
    ∙ (ap (λ (p : Progress). record {
      progress = set_progress (mix turns after (t ∷ rest) done.table) t (settles p).progress;
      out = done.out ++ (settles p).out;
    }) (found_next turns after t rest done.table 0
    ∙ ap (progress_now turns) (found_stored t done.table 0 u.stored u.found))
    ∙ ((λ i. record {
      progress = set_progress (mix turns after (t ∷ rest) done.table) t (one i).progress;
      out = done.out ++ (one i).out;
    })
    ∙ (λ i. record {
      progress = (set_next turns after t rest done.table u.stored absent apart
          ∙ ap (mix turns after rest) (set_same t done.table u.stored u.found)) i;
      out = append-nil done.out i;
    })))
  where
    after : ℕ
    after = turns_after scene.is_turn turns

    settles : Progress → Settled
    settles p = settle_or_rest (is_restarted scene t) (both_kept scene t l) p scene.is_turn scene.tooks

    one : settles (progress_now turns u.stored) ≡ record { progress = progress_now after u.stored; out = [] }
    one = rests scene turns done.table t l u since

-- ALL CONNECTIONS

-- entries stand at their places from one on, and have their lines
abbrev pub HaveLines : KeptScene → ℕ → List (Tuple × Entry) → Type 0
HaveLines scene k [] = Unit {0}
HaveLines scene k (x ∷ rest) =
    (slice_get scene.mine.entries k ≡ Some x) × (line_at scene.mine x.0 ≡ Some x.1.line)
    × HaveLines scene (suc k) rest

-- what is stored of them says since when they wait
abbrev AreSince : ℕ → StoredTable → List (Tuple × Entry) → Type 0
AreSince turns table [] = Unit {0}
AreSince turns table (x ∷ rest) =
    ((s : Stored) → lookup (same_tuple x.0) table ≡ Some s → IsSince turns s) × AreSince turns table rest

-- each entry stands at the next of some places, or is untouched
abbrev AreCovered : KeptScene → StoredTable → ℕ → List (Tuple × Entry) → List ℕ → Type 0
AreCovered scene table k [] places = places ≡ []
AreCovered scene table k (x ∷ rest) [] =
    IsUntouched scene table x.0 x.1.line × AreCovered scene table (suc k) rest []
AreCovered scene table k (x ∷ rest) (j ∷ places) =
    ((j ≡ k) × AreCovered scene table (suc k) rest places)
    ⊎ (IsUntouched scene table x.0 x.1.line × AreCovered scene table (suc k) rest (j ∷ places))

pub since_of : (turns : ℕ) (table : StoredTable) (t : Tuple) (k : ℕ) →
    ((s : Stored) → lookup (same_tuple t) table ≡ Some s → IsSince turns s) → IsSince turns (stored_of table t k)
since_of turns table t k h = by (lookup (same_tuple t) table) refl
  where
    by : (o : Option Stored) → lookup (same_tuple t) table ≡ o → IsSince turns (unwrap_or o (nothing_stored k))
    by None e = λ w. absurd (true≢false (sym w))
    by (Some s) e = h s e

since_kept : (turns : ℕ) (table : StoredTable) (t : Tuple) (s : Stored) (rest : List (Tuple × Entry)) →
    has_tuple t (keys_of rest) ≡ false → AreSince turns table rest → AreSince turns (set_stored table t s) rest
since_kept turns table t s [] absent h = tt
since_kept turns table t s (x ∷ rest) absent h =
    let parts = or_none (same_tuple t x.0) (has_tuple t (keys_of rest)) absent in
    let other = lookup-stored_other x.0 t s table (same_tuple-sym x.0 t parts.0) in
    ((λ r e. h.0 r (sym other ∙ e)), since_kept turns table t s rest parts.1 h.1)

untouched_kept : (scene : KeptScene) (table : StoredTable) (t : Tuple) (s : Stored) (u : Tuple)
    (l : LineFields) → same_tuple t u ≡ false → IsUntouched scene table u l →
    IsUntouched scene (set_stored table t s) u l
untouched_kept scene table t s u l other h = record {
  stored = h.stored;
  found = lookup-stored_other u t s table (same_tuple-sym u t other) ∙ h.found;
  no_segment = h.no_segment;
  no_restart = h.no_restart;
  quiet = h.quiet;
  timed = h.timed;
}

covered_kept : (scene : KeptScene) (table : StoredTable) (t : Tuple) (s : Stored) (k : ℕ)
    (rest : List (Tuple × Entry)) (places : List ℕ) → has_tuple t (keys_of rest) ≡ false →
    AreCovered scene table k rest places → AreCovered scene (set_stored table t s) k rest places
covered_kept scene table t s k [] places absent h = h
covered_kept scene table t s k (x ∷ rest) [] absent h =
    let parts = or_none (same_tuple t x.0) (has_tuple t (keys_of rest)) absent in (
      untouched_kept scene table t s x.0 x.1.line parts.0 h.0,
      covered_kept scene table t s (suc k) rest [] parts.1 h.1,
    )
covered_kept scene table t s k (x ∷ rest) (j ∷ places) absent (inl h) =
    let parts = or_none (same_tuple t x.0) (has_tuple t (keys_of rest)) absent in
    inl (h.0, covered_kept scene table t s (suc k) rest places parts.1 h.1)
covered_kept scene table t s k (x ∷ rest) (j ∷ places) absent (inr h) =
    let parts = or_none (same_tuple t x.0) (has_tuple t (keys_of rest)) absent in
    inr (
      untouched_kept scene table t s x.0 x.1.line parts.0 h.0,
      covered_kept scene table t s (suc k) rest (j ∷ places) parts.1 h.1,
    )

-- what is stored of an entry after it was settled
abbrev stored_then : KeptScene → ℕ → PlacesSettled → ℕ → Tuple × Entry → Stored
stored_then scene turns done k x =
    let s = stored_of done.table x.0 k in
    stored_after scene.is_turn turns s (line_settled scene s.progress x.0 x.1.line).progress

settles_here : (scene : KeptScene) (turns : ℕ) (done : PlacesSettled) (j k : ℕ) (x : Tuple × Entry) → j ≡ k →
    slice_get scene.mine.entries k ≡ Some x →
    add_place scene turns done j ≡ entry_added scene turns done k x.0 x.1.line
settles_here scene turns done j k x same at =
    ap (λ (n : ℕ). add_place scene turns done n) same
    ∙ ap (λ (o : Option (Tuple × Entry)).
    let one = settle_entry_at scene turns done.table k (option_map (λ (e : Tuple × Entry). (e.0, e.1.line)) o) in
    record { table = one.table; out = done.out ++ one.out }) at

-- all entries from a place on
walk : (scene : KeptScene) (turns : ℕ) (k : ℕ) (rest : List (Tuple × Entry)) (places : List ℕ)
    (done : PlacesSettled) → HaveLines scene k rest → AreApart (keys_of rest) → AreApart (keys_of done.table) →
    AreSince turns done.table rest → AreCovered scene done.table k rest places →
    fold (add_tuple scene) (now scene turns (keys_of rest) done) (keys_of rest)
    ≡ now scene turns [] (fold (add_place scene turns) done places)
unfolding settle_entry
walk scene turns k [] places done lines apart stored since covered =
    ap (λ (ps : List ℕ). now scene turns [] (fold (add_place scene turns) done ps)) (sym covered)
walk scene turns k (x ∷ rest) [] done lines apart stored since covered =
    ap (λ (s : Settlement). fold (add_tuple scene) s (keys_of rest))
    (rests_next scene turns done x.0 x.1.line (keys_of rest) covered.0 lines.1
    (since.0 covered.0.stored covered.0.found) apart.0 stored)
    ∙ walk scene turns (suc k) rest [] done lines.2 apart.1 stored since.1 covered.1
walk scene turns k (x ∷ rest) (j ∷ places) done lines apart stored since (inl covered) =
    ap (λ (s : Settlement). fold (add_tuple scene) s (keys_of rest))
    (settles_next scene turns done k x.0 x.1.line (keys_of rest) lines.1
    (since_of turns done.table x.0 k since.0) apart.0 stored)
    ∙ (walk scene turns (suc k) rest places (entry_added scene turns done k x.0 x.1.line) lines.2 apart.1
    (apart_set x.0 (stored_then scene turns done k x) done.table stored)
    (since_kept turns done.table x.0 (stored_then scene turns done k x) rest apart.0 since.1)
    (covered_kept scene done.table x.0 (stored_then scene turns done k x) (suc k) rest places apart.0 covered.1)
    ∙ ap (λ (d : PlacesSettled). now scene turns [] (fold (add_place scene turns) d places))
    (sym (settles_here scene turns done j k x covered.0 lines.0)))
walk scene turns k (x ∷ rest) (j ∷ places) done lines apart stored since (inr covered) =
    ap (λ (s : Settlement). fold (add_tuple scene) s (keys_of rest))
    (rests_next scene turns done x.0 x.1.line (keys_of rest) covered.0 lines.1
    (since.0 covered.0.stored covered.0.found) apart.0 stored)
    ∙ walk scene turns (suc k) rest (j ∷ places) done lines.2 apart.1 stored since.1 covered.1

-- FROM ASCENDING PLACES

pub not_below : (m k : ℕ) → k < m → nat_eq k m ≡ false
not_below m k low = grind (arith, nat_tests)

-- a place below all of some ascending ones
pub below_all : (k from bound : ℕ) (places : List ℕ) → k < from → AreAscending from bound places →
    is_among k places ≡ false
below_all k from bound [] low up = refl
below_all k from bound (j ∷ places) low up =
    (λ i. not_below j k (omega (arith, low, up.0)) i || is_among k places)
    ∙ below_all k (j + 1) bound places (omega (arith, low, up.0)) up.2

pub not_after : (m k : ℕ) → k < m → nat_eq m k ≡ false
not_after m k low = grind (arith, nat_tests)

-- the untouched places from one on
abbrev AreUntouched : KeptScene → StoredTable → ℕ → List ℕ → Type 0
AreUntouched scene table k places =
    (m : ℕ) (x : Tuple × Entry) → k ≤ m → slice_get scene.mine.entries m ≡ Some x → is_among m places ≡ false →
    IsUntouched scene table x.0 x.1.line

from_next : (j k bound : ℕ) (places : List ℕ) → j ≡ k → AreAscending (j + 1) bound places →
    AreAscending (suc k) bound places
from_next j k bound places same up =
    let next : j + 1 ≡ suc k = omega (arith, same) in subst (λ (n : ℕ). AreAscending n bound places) next up

covered_from : (scene : KeptScene) (table : StoredTable) (k bound : ℕ) (rest : List (Tuple × Entry))
    (places : List ℕ) → HaveLines scene k rest → bound ≡ k + length rest → AreAscending k bound places →
    AreUntouched scene table k places → AreCovered scene table k rest places
covered_from scene table k bound [] [] lines end up quiet = refl
covered_from scene table k bound [] (j ∷ places) lines end up quiet = absurd (omega (arith, end, up.0, up.1))
covered_from scene table k bound (x ∷ rest) [] lines end up quiet = (
  quiet k x (omega arith) lines.0 refl,
  covered_from scene table (suc k) bound rest [] lines.2 (omega (arith, end)) tt
      (λ m y low at none. quiet m y (omega (arith, low)) at none),
)
covered_from scene table k bound (x ∷ rest) (j ∷ places) lines end up quiet =
    by (j == k) refl (λ same. covered_from scene table (suc k) bound rest places lines.2 next
    (from_next j k bound places same up.2)
    (λ m y low at none. quiet m y (omega (arith, low)) at
    ((λ i. not_after m j (omega (arith, low, same)) i || is_among m places) ∙ none)))
    (λ low. covered_from scene table (suc k) bound rest (j ∷ places) lines.2 next
    (omega (arith, low), up.1, up.2) (λ m y below at none. quiet m y (omega (arith, below)) at none))
  where
    next : bound ≡ suc k + length rest
    next = omega (arith, end)

    by : (c : Bool) → (j == k) ≡ c → (j ≡ k → AreCovered scene table (suc k) rest places) →
        (k < j → AreCovered scene table (suc k) rest (j ∷ places)) →
        ((j ≡ k) × AreCovered scene table (suc k) rest places)
        ⊎ (IsUntouched scene table x.0 x.1.line × AreCovered scene table (suc k) rest (j ∷ places))
    by true e here later = let same : j ≡ k = eqb-true j k e in inl (same, here same)
    by false e here later =
        let apart : (j ≡ k) → ⊥ = λ same. true≢false (sym (eq-eqb j k same) ∙ e) in
        let low : k < j = omega (arith, apart, up.0) in
        inr (
          quiet k x (omega arith) lines.0
              ((λ i. not_below j k low i || is_among k places)
              ∙ below_all k (j + 1) bound places (omega (arith, low)) up.2),
          later low,
        )

-- tuples are compared by their values
pub tuple_equivalence : IsEquivalence same_tuple
tuple_equivalence = record {
  refl = same_tuple-refl;
  symm = λ t u. symmetric t u (same_tuple t u) refl (same_tuple u t) refl;
  congr = λ t u v e. ap (λ (w : Tuple). same_tuple w v) (same_tuple-eq t u e);
}
  where
    symmetric : (t u : Tuple) (a : Bool) → same_tuple t u ≡ a → (b : Bool) → same_tuple u t ≡ b →
        same_tuple t u ≡ same_tuple u t
    symmetric t u true e b f =
        ap (λ (w : Tuple). same_tuple t w) (sym (same_tuple-eq t u e))
        ∙ (same_tuple-refl t ∙ (sym (same_tuple-refl u)
        ∙ ap (λ (w : Tuple). same_tuple u w) (sym (same_tuple-eq t u e))))
    symmetric t u false e b f = e ∙ sym (same_tuple-sym u t e)

pub lines_from : (scene : KeptScene) (k : ℕ) (rest : List (Tuple × Entry)) →
    IsDistinct same_tuple (tuples_of scene.mine) →
    ((j m : ℕ) (x : Tuple × Entry) → m ≡ k + j → slice_get rest j ≡ Some x → slice_get scene.mine.entries m ≡ Some x) →
    HaveLines scene k rest
lines_from scene k [] distinct at = tt
lines_from scene k (x ∷ rest) distinct at =
    let place = at 0 k x (omega arith) refl in (
      place,
      ap (λ (o : Option Entry). option_map (λ (e : Entry). e.line) o)
          (lookup_from_place tuple_equivalence scene.mine.entries k x.0 x.1 distinct place),
      lines_from scene (suc k) rest distinct (λ j m y e. at (suc j) m y (omega (arith, e))),
    )

pub place_in : (es : List (Tuple × Entry)) (j m : ℕ) (x : Tuple × Entry) → m ≡ 0 + j → slice_get es j ≡ Some x →
    slice_get es m ≡ Some x
place_in es j m x e at = let same : j ≡ m = omega (arith, e) in subst (λ (n : ℕ). slice_get es n ≡ Some x) same at

since_from : (turns : ℕ) (table : StoredTable) (rest : List (Tuple × Entry)) →
    ((t : Tuple) (s : Stored) → lookup (same_tuple t) table ≡ Some s → IsSince turns s) → AreSince turns table rest
since_from turns table [] h = tt
since_from turns table (x ∷ rest) h = (h x.0, since_from turns table rest h)

pub settles_touched_alone : SettlesTouchedAlone
unfolding settle_kept
settles_touched_alone scene turns table places distinct stored up quiet =
    let entries = scene.mine.entries in
    let lines = lines_from scene 0 entries distinct (place_in entries) in
    ap (λ (p : ProgressTable). fold (add_tuple scene) (record { progress = p; out = [] }) (keys_of entries))
    (none_yet turns (turns_after scene.is_turn turns) (keys_of entries) table stored.within)
    ∙ walk scene turns 0 entries places (record { table = table; out = [] }) lines
    (apart_from_distinct (keys_of entries) distinct) (apart_from_distinct (keys_of table) stored.once)
    (since_from turns table entries stored.since)
    (covered_from scene table 0 (length entries) entries places lines (omega arith) up
    (λ m x low at none. quiet m x at none))
