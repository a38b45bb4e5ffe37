-- What is stored after some places were settled.
use Rattle.std.proofs.Common.{◌≡◌, ℕ, ◌+◌, ◌≤◌, zero, suc, Bool, true, false, ◌||◌, nat_eq, if◌then◌else◌, List, [], ◌∷◌, ◌++◌, length, fold, slice_get, Option, None, Some, is_some, unwrap_or, refl, sym, ap, subst, ◌∙◌, true≢false, arith}
use Rattle.std.proofs.lemmas.Bool.{eqb-true, eq-eqb}
use Rattle.std.proofs.lemmas.List.{map-append}
use Rattle.std.proofs.lemmas.List.Folds.{list_any-append}
use Rattle.std.proofs.lemmas.Map.{keys-set_value}
use Rattle.std.proofs.lemmas.Map.Keys.{IsDistinct-push}
use Rattle.std.specs.List.{IsDistinct}
use Rattle.std.specs.Map.{keys_of, lookup, set_value}
use Rattle.std.specs.Option.{option_map}
use Rattle.inet_frame.specs.declared.tuple.Tuple.{Tuple}
use Rattle.tcp_track.specs.LineFields.{LineFields}
use Rattle.tcp_track.specs.Segments.{same_tuple}
use Rattle.tcp_track.specs.Tracking.{Tracking}
use Rattle.tcp_track.specs.declared.table.Entry.{Entry}
use Rattle.tcp_track.proofs.StandingLemmas.{same_tuple-sym}
use Rattle.tcp_track.proofs.TupleLemmas.{lookup-push_same, lookup-set_same, same_tuple-eq, same_tuple-refl}
use Rattle.settle_rules.specs.Matching.{BothLines}
use Rattle.settle_rules.specs.Progress.{Progress}
use Rattle.settle_rules.specs.Settle.{settle_or_rest}
use Rattle.settle_table.specs.Kept.{KeptScene, both_kept, is_restarted, line_settled, tuples_of}
use Rattle.settle_touched.specs.Ages.{IsSince, StoredTable, stored_after, turns_after}
use Rattle.settle_touched.specs.Laws.{OtherPlacesStay, SettledPlacesRest, StoresOn}
use Rattle.settle_touched.specs.Places.{AreAscending, AreStoredUntrimmed, PlacesSettled, add_place, is_among, no_places, nothing_stored, set_stored, settle_entry, settle_entry_at, settle_place, settle_places, stored_of}
use Rattle.settle_touched.specs.Quiet.{IsQuiet, IsTimed}
use Rattle.settle_touched.specs.declared.stored.Stored.{Stored}
use Rattle.settle_touched.proofs.AgeLemmas.{stores_since}
use Rattle.settle_touched.proofs.MixLemmas.{AreApart, apart_from_distinct, has_tuple, is_some-keys, lookup-stored_other, or_none, or_right, other_tuple}
use Rattle.settle_touched.proofs.PlaceLemmas.{below_all, found_stored, since_of, tuple_equivalence}
use Rattle.settle_touched.proofs.QuietLemmas.{settling_makes_quiet, turn_makes_timed}

-- TUPLES AT PLACES

among : (es : List (Tuple × Entry)) (k : ℕ) (x : Tuple × Entry) → slice_get es k ≡ Some x →
    has_tuple x.0 (keys_of es) ≡ true
among [] k x at = cc
among (y ∷ es) zero x at =
    let same : y ≡ x = cc in
    ap (λ (c : Bool). c || has_tuple x.0 (keys_of es))
    (ap (λ (z : Tuple × Entry). same_tuple x.0 z.0) same ∙ same_tuple-refl x.0)
among (y ∷ es) (suc k) x at = or_right (same_tuple x.0 y.0) (has_tuple x.0 (keys_of es)) (among es k x at)

-- entries at two places have two tuples
apart_at : (es : List (Tuple × Entry)) (j k : ℕ) (y x : Tuple × Entry) → AreApart (keys_of es) →
    slice_get es j ≡ Some y → slice_get es k ≡ Some x → (j ≡ k → ⊥) → same_tuple y.0 x.0 ≡ false
apart_at [] j k y x apart e f differ = cc
apart_at (z ∷ es) zero zero y x apart e f differ = absurd (differ refl)
apart_at (z ∷ es) zero (suc k) y x apart e f differ =
    let same : z ≡ y = cc in
    same_tuple-sym y.0 x.0 (ap (λ (w : Tuple × Entry). same_tuple x.0 w.0) (sym same)
    ∙ other_tuple z.0 x.0 (keys_of es) apart.0 (among es k x f))
apart_at (z ∷ es) (suc j) zero y x apart e f differ =
    let same : z ≡ x = cc in
    ap (λ (w : Tuple × Entry). same_tuple y.0 w.0) (sym same)
    ∙ other_tuple z.0 y.0 (keys_of es) apart.0 (among es j y e)
apart_at (z ∷ es) (suc j) (suc k) y x apart e f differ =
    apart_at es j k y x apart.1 e f (λ same. differ (ap suc same))

-- ONE PLACE

pub lookup-stored_same : (t : Tuple) (s : Stored) (table : StoredTable) →
    lookup (same_tuple t) (set_stored table t s) ≡ Some s
lookup-stored_same t s table = by (is_some (lookup (same_tuple t) table)) refl
  where
    by : (c : Bool) → is_some (lookup (same_tuple t) table) ≡ c →
        lookup (same_tuple t) (if c then set_value (same_tuple t) table s else table ++ (t, s) ∷ []) ≡ Some s
    by true e = lookup-set_same t s table e
    by false e = lookup-push_same t s table e

module _ (scene : KeptScene) (turns : ℕ) where
  -- what is stored of an entry after it was settled
  abbrev stored_then : StoredTable → ℕ → Tuple × Entry → Stored
  stored_then table k x =
      let s = stored_of table x.0 k in
      stored_after scene.is_turn turns s (line_settled scene s.progress x.0 x.1.line).progress

  abbrev table_then : StoredTable → ℕ → Option (Tuple × Entry) → StoredTable
  table_then table k o =
      (settle_entry_at scene turns table k (option_map (λ (e : Tuple × Entry). (e.0, e.1.line)) o)).table

  settled_here : (table : StoredTable) (k : ℕ) (x : Tuple × Entry) → slice_get scene.mine.entries k ≡ Some x →
      (settle_place scene turns table k).table ≡ set_stored table x.0 (stored_then table k x)
  unfolding settle_entry
  settled_here table k x at = ap (λ (o : Option (Tuple × Entry)). table_then table k o) at

  -- settling a place leaves what is stored of other entries
  other_stays : (table : StoredTable) (j k : ℕ) (x : Tuple × Entry) → AreApart (tuples_of scene.mine) →
      slice_get scene.mine.entries k ≡ Some x → (j ≡ k → ⊥) →
      lookup (same_tuple x.0) (settle_place scene turns table j).table ≡ lookup (same_tuple x.0) table
  unfolding settle_entry
  other_stays table j k x apart at differ = by (slice_get scene.mine.entries j) refl
    where
      by : (o : Option (Tuple × Entry)) → slice_get scene.mine.entries j ≡ o →
          lookup (same_tuple x.0) (table_then table j o) ≡ lookup (same_tuple x.0) table
      by None e = refl
      by (Some y) e = lookup-stored_other x.0 y.0 (stored_then table j y) table
          (apart_at scene.mine.entries k j x y apart at e (λ same. differ (sym same)))

  -- SOME PLACES

  -- later places leave it
  later_stay : (places : List ℕ) (done : PlacesSettled) (k : ℕ) (x : Tuple × Entry) →
      AreApart (tuples_of scene.mine) → slice_get scene.mine.entries k ≡ Some x → is_among k places ≡ false →
      lookup (same_tuple x.0) (fold (add_place scene turns) done places).table ≡ lookup (same_tuple x.0) done.table
  later_stay [] done k x apart at none = refl
  later_stay (j ∷ places) done k x apart at none =
      let parts = or_none (nat_eq k j) (is_among k places) none in
      later_stay places (add_place scene turns done j) k x apart at parts.1
      ∙ other_stays done.table j k x apart at (λ same. true≢false (sym (eq-eqb k j (sym same)) ∙ parts.0))

  -- a place among them is settled once
  settled_once : (places : List ℕ) (done : PlacesSettled) (k from bound : ℕ) (x : Tuple × Entry) →
      AreApart (tuples_of scene.mine) → AreAscending from bound places → slice_get scene.mine.entries k ≡ Some x →
      is_among k places ≡ true →
      lookup (same_tuple x.0) (fold (add_place scene turns) done places).table
      ≡ Some (stored_then done.table k x)
  settled_once [] done k from bound x apart up at there = absurd (true≢false (sym there))
  settled_once (j ∷ places) done k from bound x apart up at there =
      by (nat_eq k j) refl there
      (λ more. settled_once places (add_place scene turns done j) k (j + 1) bound x apart up.2 at more)
    where
      by : (c : Bool) → nat_eq k j ≡ c → (c || is_among k places) ≡ true →
          (is_among k places ≡ true →
          lookup (same_tuple x.0) (fold (add_place scene turns) (add_place scene turns done j) places).table
          ≡ Some (stored_then (add_place scene turns done j).table k x)) →
          lookup (same_tuple x.0) (fold (add_place scene turns) (add_place scene turns done j) places).table
          ≡ Some (stored_then done.table k x)
      by true e there more =
          let same : k ≡ j = eqb-true k j e in
          let none = below_all k (j + 1) bound places (omega (arith, same)) up.2 in
          later_stay places (add_place scene turns done j) k x apart at none
          ∙ (ap (λ (n : ℕ). lookup (same_tuple x.0) (settle_place scene turns done.table n).table) (sym same)
          ∙ (ap (λ (ss : StoredTable). lookup (same_tuple x.0) ss) (settled_here done.table k x at)
          ∙ lookup-stored_same x.0 (stored_then done.table k x) done.table))
      by false e there more =
          more there
          ∙ ap (λ (o : Option Stored). Some (stored_after scene.is_turn turns (unwrap_or o (nothing_stored k))
          (line_settled scene (unwrap_or o (nothing_stored k)).progress x.0 x.1.line).progress))
          (other_stays done.table j k x apart at (λ same. true≢false (sym (eq-eqb k j (sym same)) ∙ e)))

-- a connection that wasn't restarted rests after it was settled
rests_then : (scene : KeptScene) (b : BothLines) (p : Progress) (restarted : Bool) → restarted ≡ false →
    IsQuiet b (settle_or_rest restarted b p scene.is_turn scene.tooks).progress
    × (scene.is_turn ≡ true → IsTimed b (settle_or_rest restarted b p scene.is_turn scene.tooks).progress)
rests_then scene b p true e = absurd (true≢false e)
rests_then scene b p false e = (settling_makes_quiet b p scene.is_turn scene.tooks, timed scene.is_turn refl)
  where
    timed : (c : Bool) → scene.is_turn ≡ c → scene.is_turn ≡ true →
        IsTimed b (settle_or_rest false b p scene.is_turn scene.tooks).progress
    timed c same turn = subst (λ (t : Bool). IsTimed b (settle_or_rest false b p t scene.tooks).progress) (sym turn)
        (turn_makes_timed b p scene.tooks)

pub settled_places_rest : SettledPlacesRest
unfolding line_settled
settled_places_rest scene turns table places k x distinct up at there free =
    let s = stored_of table x.0 k in
    let one = rests_then scene (both_kept scene x.0 x.1.line) s.progress (is_restarted scene x.0) free in
    record {
      stored = stored_then scene turns table k x;
      found = settled_once scene turns places (no_places table) k 0 (length scene.mine.entries) x
          (apart_from_distinct (tuples_of scene.mine) distinct) up at there;
      quiet = one.0;
      timed = one.1;
    }

pub other_places_stay : OtherPlacesStay
other_places_stay scene turns table places k x distinct up at none =
    later_stay scene turns places (no_places table) k x
    (apart_from_distinct (tuples_of scene.mine) distinct) at none

-- WHAT IS STORED

keys-set : (t : Tuple) (s : Stored) (table : StoredTable) (u : Tuple) →
    has_tuple u (keys_of (set_stored table t s)) ≡ true → (has_tuple u (keys_of table) || same_tuple u t) ≡ true
keys-set t s table u h = by (is_some (lookup (same_tuple t) table)) h
  where
    or_left : (a b : Bool) → a ≡ true → (a || b) ≡ true
    or_left true b e = refl
    or_left false b e = absurd (true≢false (sym e))

    or_end : (a b : Bool) → (a || (b || false)) ≡ true → (a || b) ≡ true
    or_end true b e = refl
    or_end false true e = refl
    or_end false false e = e

    by : (c : Bool) →
        has_tuple u (keys_of (if c then set_value (same_tuple t) table s else table ++ (t, s) ∷ [])) ≡ true →
        (has_tuple u (keys_of table) || same_tuple u t) ≡ true
    by true e = or_left (has_tuple u (keys_of table)) (same_tuple u t)
        (sym (ap (has_tuple u) (keys-set_value (same_tuple t) table s)) ∙ e)
    by false e = or_end (has_tuple u (keys_of table)) (same_tuple u t)
        (sym (ap (has_tuple u) (map-append (λ (x : Tuple × Stored). x.0) table ((t, s) ∷ []))
        ∙ list_any-append (same_tuple u) (keys_of table) (t ∷ [])) ∙ e)

once_set : (t : Tuple) (s : Stored) (table : StoredTable) → IsDistinct same_tuple (keys_of table) →
    IsDistinct same_tuple (keys_of (set_stored table t s))
once_set t s table h = by (is_some (lookup (same_tuple t) table)) refl
  where
    by : (c : Bool) → is_some (lookup (same_tuple t) table) ≡ c →
        IsDistinct same_tuple (keys_of (if c then set_value (same_tuple t) table s else table ++ (t, s) ∷ []))
    by true e = subst (IsDistinct same_tuple) (sym (keys-set_value (same_tuple t) table s)) h
    by false e = subst (IsDistinct same_tuple)
        (sym (map-append (λ (x : Tuple × Stored). x.0) table ((t, s) ∷ [])))
        (IsDistinct-push tuple_equivalence (keys_of table) t h (sym (is_some-keys t table) ∙ e))

abbrev HasPlace : List (Tuple × Entry) → Tuple → Type 0
HasPlace es t =
    (k : ℕ) × (x : Tuple × Entry) × (slice_get es k ≡ Some x) × (same_tuple t x.0 ≡ true)

has_place : (es : List (Tuple × Entry)) (t : Tuple) → has_tuple t (keys_of es) ≡ true → HasPlace es t
has_place [] t h = absurd (true≢false (sym h))
has_place (y ∷ es) t h = by (same_tuple t y.0) refl h (has_place es t)
  where
    by : (c : Bool) → same_tuple t y.0 ≡ c → (c || has_tuple t (keys_of es)) ≡ true →
        (has_tuple t (keys_of es) ≡ true → HasPlace es t) → HasPlace (y ∷ es) t
    by true e h more = (0, y, refl, e)
    by false e h more = let p = more h in (suc p.0, p.1, p.2, p.3)

abbrev AreWithin : KeptScene → StoredTable → Type 0
AreWithin scene table =
    (t : Tuple) → has_tuple t (keys_of table) ≡ true → has_tuple t (tuples_of scene.mine) ≡ true

record AreKept (scene : KeptScene) (table : StoredTable) : Type 0 where
  once : IsDistinct same_tuple (keys_of table)
  within : AreWithin scene table

kept_one : (scene : KeptScene) (turns : ℕ) (table : StoredTable) (k : ℕ) → AreKept scene table →
    AreKept scene (settle_place scene turns table k).table
unfolding settle_entry
kept_one scene turns table k h = by (slice_get scene.mine.entries k) refl
  where
    either : (a b : Bool) → (a || b) ≡ true → (c : Bool) → (a ≡ true → c ≡ true) → (b ≡ true → c ≡ true) → c ≡ true
    either true b e c f g = f refl
    either false b e c f g = g e

    by : (o : Option (Tuple × Entry)) → slice_get scene.mine.entries k ≡ o →
        AreKept scene (table_then scene turns table k o)
    by None e = h
    by (Some x) e = record {
      once = once_set x.0 (stored_then scene turns table k x) table h.once;
      within = λ t there. either (has_tuple t (keys_of table)) (same_tuple t x.0)
          (keys-set x.0 (stored_then scene turns table k x) table t there) (has_tuple t (tuples_of scene.mine))
          (h.within t) (λ same. ap (λ (u : Tuple). has_tuple u (tuples_of scene.mine)) (same_tuple-eq t x.0 same)
          ∙ among scene.mine.entries k x e);
    }

kept_all : (scene : KeptScene) (turns : ℕ) (places : List ℕ) (done : PlacesSettled) → AreKept scene done.table →
    AreKept scene (fold (add_place scene turns) done places).table
kept_all scene turns [] done h = h
kept_all scene turns (k ∷ places) done h =
    kept_all scene turns places (add_place scene turns done k) (kept_one scene turns done.table k h)

some_same : (r s : Stored) → Some r ≡ Some s → r ≡ s
some_same r s e = cc

since_later : (is_turn : Bool) (turns : ℕ) (s : Stored) → IsSince turns s → IsSince (turns_after is_turn turns) s
since_later true turns s h = λ w. let low = h w in omega (arith, low)
since_later false turns s h = h

since_place : (scene : KeptScene) (turns : ℕ) (table : StoredTable) (places : List ℕ) (k : ℕ) (x : Tuple × Entry)
    (s : Stored) → AreApart (tuples_of scene.mine) → AreAscending 0 (length scene.mine.entries) places →
    ((r : Stored) → lookup (same_tuple x.0) table ≡ Some r → IsSince turns r) →
    slice_get scene.mine.entries k ≡ Some x →
    lookup (same_tuple x.0) (settle_places scene turns table places).table ≡ Some s →
    IsSince (turns_after scene.is_turn turns) s
unfolding line_settled
since_place scene turns table places k x s apart up since at found = by (is_among k places) refl
  where
    by : (c : Bool) → is_among k places ≡ c → IsSince (turns_after scene.is_turn turns) s
    by true e =
        let now = settled_once scene turns places (no_places table) k 0 (length scene.mine.entries) x apart up at e in
        subst (λ (r : Stored). IsSince (turns_after scene.is_turn turns) r)
        (some_same (stored_then scene turns table k x) s (sym now ∙ found))
        (stores_since (is_restarted scene x.0) (both_kept scene x.0 x.1.line) (stored_of table x.0 k) scene.is_turn
        turns scene.tooks (since_of turns table x.0 k since))
    by false e =
        since_later scene.is_turn turns s (since s
        (sym (later_stay scene turns places (no_places table) k x apart at e) ∙ found))

pub stores_on : StoresOn
stores_on scene turns table places distinct up stored =
    let kept = kept_all scene turns places (no_places table)
    (record { once = stored.once; within = stored.within }) in
    let after = (settle_places scene turns table places).table in
    record {
      once = kept.once;
      within = kept.within;
      since = λ t s found.
          let p = has_place scene.mine.entries t
          (kept.within t (sym (is_some-keys t after) ∙ ap is_some found)) in
          let same = same_tuple-eq t (p.1).0 p.3 in
          since_place scene turns table places p.0 p.1 s (apart_from_distinct (tuples_of scene.mine) distinct) up
          (stored.since (p.1).0) p.2
          (ap (λ (u : Tuple). lookup (same_tuple u) after) (sym same) ∙ found);
    }

-- THE EDGES

edge_of_none : (table : StoredTable) (t : Tuple) (j k : ℕ) →
    (stored_of table t j).progress.edge ≡ (stored_of table t k).progress.edge
edge_of_none table t j k = by (lookup (same_tuple t) table)
  where
    by : (o : Option Stored) →
        (unwrap_or o (nothing_stored j)).progress.edge ≡ (unwrap_or o (nothing_stored k)).progress.edge
    by None = refl
    by (Some s) = refl

-- where an edge grows, no line is trimmed past it
pub untrimmed_set : (mine : Tracking) (table : StoredTable) (t : Tuple) (j : ℕ) (s : Stored) →
    AreStoredUntrimmed mine table → (stored_of table t j).progress.edge ≤ s.progress.edge →
    AreStoredUntrimmed mine (set_stored table t s)
untrimmed_set mine table t j s h more = λ k x at o. by k x (h k x at o) (same_tuple x.0 t) refl
  where
    by : (k : ℕ) (x : Tuple × LineFields) → x.1.base ≤ (stored_of table x.0 k).progress.edge → (c : Bool) →
        same_tuple x.0 t ≡ c → x.1.base ≤ (stored_of (set_stored table t s) x.0 k).progress.edge
    by k x low true e =
        let same = same_tuple-eq x.0 t e in
        let found = ap (λ (u : Tuple). (stored_of (set_stored table t s) u k).progress.edge) same
        ∙ ap (λ (r : Stored). r.progress.edge)
        (found_stored t (set_stored table t s) k s (lookup-stored_same t s table)) in
        let old = ap (λ (u : Tuple). (stored_of table u k).progress.edge) same ∙ edge_of_none table t k j in
        omega (arith, low, found, old, more)
    by k x low false e =
        let other = ap (λ (o : Option Stored). (unwrap_or o (nothing_stored k)).progress.edge)
        (lookup-stored_other x.0 t s table e) in
        omega (arith, low, other)
