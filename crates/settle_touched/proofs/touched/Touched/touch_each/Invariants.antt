-- The places before the index are touched.
use Rattle.std.proofs.Common.{◌≡◌, ℕ, true, take}
use Rattle.settle_touched.specs.Places.{is_among}
use Rattle.settle_touched.specs.TouchedPlaces.{is_touched}
use Rattle.settle_touched.proofs.touched.Touched.touch_each.Given as goal

abbrev pub invariant-loop-place : goal.invariant-loop-place
invariant-loop-place l = record {
  touched : (k : ℕ) → is_among k (take l.place-index l.places) ≡ true → is_touched l.self k ≡ true;
  others : (k : ℕ) → is_touched l.initial.self k ≡ true → is_touched l.self k ≡ true;
}
