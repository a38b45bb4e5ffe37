-- Settling what an event touched leaves each other connection at rest.
use Rattle.std.proofs.Common.{◌≡◌, ℕ, ◌<◌, zero, suc, Bool, true, false, not, nat_lt, List, [], ◌∷◌, length, slice_get, Some, refl, sym, ap, subst, ◌∙◌, true≢false, arith}
use Rattle.std.proofs.lemmas.Bool.Decides.{nat_tests}
use Rattle.std.specs.List.{IsDistinct}
use Rattle.std.specs.Map.{lookup}
use Rattle.inet_frame.specs.declared.tuple.Tuple.{Tuple}
use Rattle.tcp_track.specs.Segments.{same_tuple}
use Rattle.tcp_track.specs.declared.table.Entry.{Entry}
use Rattle.settle_table.specs.Kept.{KeptScene, both_kept, is_restarted, settle_kept, tuples_of}
use Rattle.settle_touched.specs.Ages.{StoredTable, table_now, turns_after}
use Rattle.settle_touched.specs.Keep.{IsNotOf}
use Rattle.settle_touched.specs.Places.{AreAscending, IsAtRest, IsStored, IsUntouched, is_among, settle_places}
use Rattle.settle_touched.specs.Quiet.{IsTimed}
use Rattle.settle_touched.proofs.PlaceLemmas.{settles_touched_alone}
use Rattle.settle_touched.proofs.RestLemmas.{other_places_stay, settled_places_rest}

below : (es : List (Tuple × Entry)) (k : ℕ) (x : Tuple × Entry) → slice_get es k ≡ Some x → k < length es
below [] k x at = let never : ⊥ = cc in absurd never
below (y ∷ es) zero x at = omega arith
below (y ∷ es) (suc k) x at = let low = below es k x at in omega (arith, low)

low_place : (es : List (Tuple × Entry)) (k : ℕ) (x : Tuple × Entry) → slice_get es k ≡ Some x →
    nat_lt k (length es) ≡ true
low_place es k x at = low (length es) k (below es k x at)
  where
    low : (n m : ℕ) → m < n → nat_lt m n ≡ true
    low n m h = grind (arith, nat_tests)

-- what holds before a settling: touched and stale are tests of places
pub record IsReady (scene : KeptScene) (turns : ℕ) (table : StoredTable) (touched stale : ℕ → Bool)
    (places : List ℕ) : Type 0 where
  pub distinct : IsDistinct same_tuple (tuples_of scene.mine)
  pub stored : IsStored scene turns table
  pub rests : (k : ℕ) (x : Tuple × Entry) → slice_get scene.mine.entries k ≡ Some x → touched k ≡ false →
      IsAtRest scene table x.0 x.1.line (not (stale k))
  pub event : (k : ℕ) (x : Tuple × Entry) → slice_get scene.mine.entries k ≡ Some x → touched k ≡ false →
      IsNotOf scene x.0
  pub ascending : AreAscending 0 (length scene.mine.entries) places
  pub each : (k : ℕ) → nat_lt k (length scene.mine.entries) ≡ true → is_among k places ≡ false → touched k ≡ false
  pub aged : scene.is_turn ≡ true → (k : ℕ) → nat_lt k (length scene.mine.entries) ≡ true →
      is_among k places ≡ false → stale k ≡ false

untouched : (scene : KeptScene) (turns : ℕ) (table : StoredTable) (touched stale : ℕ → Bool) (places : List ℕ) →
    IsReady scene turns table touched stale places → (k : ℕ) (x : Tuple × Entry) →
    slice_get scene.mine.entries k ≡ Some x → is_among k places ≡ false →
    IsUntouched scene table x.0 x.1.line
untouched scene turns table touched stale places h k x at none =
    let low = low_place scene.mine.entries k x at in
    let quiet = h.rests k x at (h.each k low none) in
    let event = h.event k x at (h.each k low none) in
    record {
      stored = quiet.stored;
      found = quiet.found;
      no_segment = event.no_segment;
      no_restart = event.no_restart;
      quiet = quiet.quiet;
      timed = λ turn. quiet.timed (ap not (h.aged turn k low none));
    }

pub settles_all : (scene : KeptScene) (turns : ℕ) (table : StoredTable) (touched stale : ℕ → Bool)
    (places : List ℕ) → IsReady scene turns table touched stale places →
    settle_kept scene (table_now turns table) ≡ record {
      progress = table_now (turns_after scene.is_turn turns) (settle_places scene turns table places).table;
      out = (settle_places scene turns table places).out;
    }
settles_all scene turns table touched stale places h =
    settles_touched_alone scene turns table places h.distinct h.stored h.ascending
    (λ k x at none. untouched scene turns table touched stale places h k x at none)

-- what holds after it, of the next tests
pub record IsNoted (scene : KeptScene) (stale touched_then stale_then : ℕ → Bool) (places : List ℕ)
    : Type 0 where
  pub restarted : (k : ℕ) (x : Tuple × Entry) → slice_get scene.mine.entries k ≡ Some x → is_among k places ≡ true →
      is_restarted scene x.0 ≡ true → touched_then k ≡ true
  pub settled : scene.is_turn ≡ false → (k : ℕ) → is_among k places ≡ true → stale_then k ≡ true
  pub others : scene.is_turn ≡ false → (k : ℕ) → stale k ≡ true → stale_then k ≡ true

not_true : (a : Bool) → (a ≡ true → ⊥) → a ≡ false
not_true true h = absurd (h refl)
not_true false h = refl

not_both : (a : Bool) → not a ≡ true → a ≡ false
not_both true h = absurd (true≢false (sym h))
not_both false h = refl

pub rests_on : (scene : KeptScene) (turns : ℕ) (table : StoredTable) (touched stale touched_then stale_then : ℕ → Bool)
    (places : List ℕ) → IsReady scene turns table touched stale places →
    IsNoted scene stale touched_then stale_then places → (k : ℕ) (x : Tuple × Entry) →
    slice_get scene.mine.entries k ≡ Some x → touched_then k ≡ false →
    IsAtRest scene (settle_places scene turns table places).table x.0 x.1.line (not (stale_then k))
rests_on scene turns table touched stale touched_then stale_then places h n k x at free =
    by (is_among k places) refl scene.is_turn refl
  where
    after : StoredTable
    after = (settle_places scene turns table places).table

    low : nat_lt k (length scene.mine.entries) ≡ true
    low = low_place scene.mine.entries k x at

    timely : is_among k places ≡ true → (c : Bool) → scene.is_turn ≡ c → stale_then k ≡ false → scene.is_turn ≡ true
    timely e true g fresh = g
    timely e false g fresh = absurd (true≢false (sym (n.settled g k e) ∙ fresh))

    was_fresh : is_among k places ≡ false → (c : Bool) → scene.is_turn ≡ c → stale_then k ≡ false → stale k ≡ false
    was_fresh e true g fresh = h.aged g k low e
    was_fresh e false g fresh = not_true (stale k) (λ s. true≢false (sym (n.others g k s) ∙ fresh))

    by : (c : Bool) → is_among k places ≡ c → (turn : Bool) → scene.is_turn ≡ turn →
        IsAtRest scene after x.0 x.1.line (not (stale_then k))
    by true e turn f =
        let none : is_restarted scene x.0 ≡ false =
        not_true (is_restarted scene x.0) (λ r. true≢false (sym (n.restarted k x at e r) ∙ free)) in
        let one = settled_places_rest scene turns table places k x h.distinct h.ascending at e none in
        record {
          stored = one.stored;
          found = one.found;
          quiet = one.quiet;
          timed = λ counted. one.timed (timely e turn f (not_both (stale_then k) counted));
        }
    by false e turn f =
        let old = h.rests k x at (h.each k low e) in
        record {
          stored = old.stored;
          found = other_places_stay scene turns table places k x h.distinct h.ascending at e ∙ old.found;
          quiet = old.quiet;
          timed = λ counted. old.timed (ap not (was_fresh e turn f (not_both (stale_then k) counted)));
        }
