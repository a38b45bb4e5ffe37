-- An allowed length begins with some bytes exactly where the test says so.
use Rattle.std.proofs.Common.{◌≡◌, ℕ, zero, suc, ◌+◌, ◌-◌, ◌*◌, ◌/◌, ◌%◌, ◌^◌, ◌<◌, ◌≤◌, true, leb, List, [], ◌∷◌, ◌++◌, length, take, drop, refl, sym, ap, subst, ◌∙◌, arith}
use Rattle.std.specs.Int.{w32, from_be_bytes, to_be_bytes}
use Rattle.std.proofs.lemmas.Bool.{and_parts, and_from, leb-true, le-leb}
use Rattle.std.proofs.lemmas.List.{append-nil}
use Rattle.std.proofs.lemmas.Nat.{mul-le, div-add-mod', div_below, mod_below, mod-mul-add, from_be_bytes-to_be_bytes_4}
use Rattle.colo_wire.specs.Lengths.{AllowsLength, low_of, high_of, next_length, may_begin_length}
use Rattle.shared_definitions.specs.Bytes.{AreBytes}
use Rattle.colo_wire.specs.declared.forms.Lengths.{Lengths}

-- ---- the next length

-- no allowed length from low on is below it
next_first : (l : Lengths) (low n : ℕ) → 0 < l.step → AllowsLength l n → low ≤ n → next_length l low ≤ n
next_first l low n pos allowed from =
    let r = n - l.shortest in
    let q = r / l.step in
    let whole : q * l.step + r % l.step ≡ r = div-add-mod' r l.step in
    let over = (low - l.shortest) + (l.step - 1) in
    let bound : over < suc q * l.step = omega (arith, allowed.from, allowed.stepped) in
    let below : over / l.step < suc q = div_below over l.step (suc q) pos bound in
    let times : over / l.step * l.step ≤ q * l.step =
    mul-le (over / l.step) l.step q l.step (omega arith) (omega arith) in
    omega (arith, allowed.from, allowed.stepped)

next_from : (l : Lengths) (low : ℕ) → 0 < l.step → low ≤ next_length l low
next_from l low pos =
    let over = (low - l.shortest) + (l.step - 1) in
    let whole : over / l.step * l.step + over % l.step ≡ over = div-add-mod' over l.step in
    let rest : over % l.step < l.step = mod_below over l.step pos in
    omega arith

next_allowed : (l : Lengths) (low : ℕ) → 0 < l.step → next_length l low ≤ l.longest →
    AllowsLength l (next_length l low)
next_allowed l low pos to =
    let q = ((low - l.shortest) + (l.step - 1)) / l.step in
    let e : next_length l low - l.shortest ≡ q * l.step + 0 = omega arith in
    record {
      from = omega arith;
      to = to;
      stepped = ap (λ (k : ℕ). k % l.step) e ∙ mod-mul-add q l.step 0 pos;
    }

-- ---- numbers of four bytes, by their first ones

-- a number of four bytes is between the smallest and the greatest that begin so
low_cells : (j a b c d : ℕ) → low_of (take j (a ∷ b ∷ c ∷ d ∷ [])) ≤ from_be_bytes w32 (a ∷ b ∷ c ∷ d ∷ [])
low_cells zero a b c d = omega arith
low_cells (suc zero) a b c d = omega arith
low_cells (suc (suc zero)) a b c d = omega arith
low_cells (suc (suc (suc zero))) a b c d = omega arith
low_cells (suc (suc (suc (suc zero)))) a b c d = omega arith
low_cells (suc (suc (suc (suc (suc j))))) a b c d = omega arith

high_cells : (j a b c d : ℕ) → a < 256 → b < 256 → c < 256 → d < 256 →
    from_be_bytes w32 (a ∷ b ∷ c ∷ d ∷ []) ≤ high_of (take j (a ∷ b ∷ c ∷ d ∷ []))
high_cells zero a b c d p q r s = omega arith
high_cells (suc zero) a b c d p q r s = omega arith
high_cells (suc (suc zero)) a b c d p q r s = omega arith
high_cells (suc (suc (suc zero))) a b c d p q r s = omega arith
high_cells (suc (suc (suc (suc zero)))) a b c d p q r s = omega arith
high_cells (suc (suc (suc (suc (suc j))))) a b c d p q r s = omega arith

-- each byte of a number is one
byte_small : (n k : ℕ) → n / k % 256 < 256
byte_small n k = mod_below (n / k) 256 (omega arith)

low_below : (j n : ℕ) → n < 2 ^ 32 → low_of (take j (to_be_bytes w32 n)) ≤ n
low_below j n lt =
    let again = from_be_bytes-to_be_bytes_4 n lt in
    subst (λ (x : ℕ). low_of (take j (to_be_bytes w32 n)) ≤ x) again (low_cells j _ _ _ _)

high_above : (j n : ℕ) → n < 2 ^ 32 → n ≤ high_of (take j (to_be_bytes w32 n))
high_above j n lt =
    let again = from_be_bytes-to_be_bytes_4 n lt in
    subst (λ (x : ℕ). x ≤ high_of (take j (to_be_bytes w32 n))) again
    (high_cells j _ _ _ _ (byte_small n (256 ^ 3)) (byte_small n (256 ^ 2)) (byte_small n 256)
    (mod_below n 256 (omega arith)))

-- a number between them begins so
begins_cells : (part : List ℕ) (a b c d : ℕ) → AreBytes part → length part < 4 → a < 256 → b < 256 → c < 256 →
    d < 256 →
    low_of part ≤ from_be_bytes w32 (a ∷ b ∷ c ∷ d ∷ []) → from_be_bytes w32 (a ∷ b ∷ c ∷ d ∷ []) ≤ high_of part →
    take (length part) (a ∷ b ∷ c ∷ d ∷ []) ≡ part
begins_cells [] a b c d fits short p q r s low high = refl
begins_cells (x ∷ []) a b c d fits short p q r s low high =
    let e : a ≡ x = omega (arith, fits 0) in
    ap (λ (y : ℕ). y ∷ []) e
begins_cells (x ∷ y ∷ []) a b c d fits short p q r s low high =
    let e : a ≡ x = omega (arith, fits 0, fits 1) in
    let f : b ≡ y = omega (arith, fits 0, fits 1) in
    rw (e, f) refl
begins_cells (x ∷ y ∷ z ∷ []) a b c d fits short p q r s low high =
    let e : a ≡ x = omega (arith, fits 0, fits 1, fits 2) in
    let f : b ≡ y = omega (arith, fits 0, fits 1, fits 2) in
    let g : c ≡ z = omega (arith, fits 0, fits 1, fits 2) in
    rw (e, f, g) refl
begins_cells (x ∷ y ∷ z ∷ w ∷ part) a b c d fits short p q r s low high = absurd (omega arith)

begins : (part : List ℕ) (n : ℕ) → AreBytes part → length part < 4 → n < 2 ^ 32 → low_of part ≤ n → n ≤ high_of part →
    take (length part) (to_be_bytes w32 n) ≡ part
begins part n fits short lt low high =
    let again = from_be_bytes-to_be_bytes_4 n lt in
    begins_cells part _ _ _ _ fits short (byte_small n (256 ^ 3)) (byte_small n (256 ^ 2)) (byte_small n 256)
    (mod_below n 256 (omega arith))
    (subst (λ (x : ℕ). low_of part ≤ x) (sym again) low) (subst (λ (x : ℕ). x ≤ high_of part) (sym again) high)

high_small : (part : List ℕ) → AreBytes part → length part < 4 → high_of part < 2 ^ 32
high_small [] fits short = omega arith
high_small (x ∷ []) fits short = omega (arith, fits 0)
high_small (x ∷ y ∷ []) fits short = omega (arith, fits 0, fits 1)
high_small (x ∷ y ∷ z ∷ []) fits short = omega (arith, fits 0, fits 1, fits 2)
high_small (x ∷ y ∷ z ∷ w ∷ part) fits short = absurd (omega arith)

-- ---- the test

-- an allowed length passes, whole or in part
pub length_passes : (l : Lengths) (j n : ℕ) → 0 < l.step → AllowsLength l n → n < 2 ^ 32 →
    may_begin_length l (take j (to_be_bytes w32 n)) ≡ true
unfolding may_begin_length
length_passes l j n pos allowed lt =
    let part = take j (to_be_bytes w32 n) in
    let next = next_length l (low_of part) in
    let first : next ≤ n = next_first l (low_of part) n pos allowed (low_below j n lt) in
    let below : next ≤ high_of part = omega (arith, first, high_above j n lt) in
    let within : next ≤ l.longest = omega (arith, first, allowed.to) in
    and_from (leb next (high_of part)) (leb next l.longest) (le-leb next (high_of part) below)
    (le-leb next l.longest within)

-- an allowed length that begins with some bytes
pub record Completes (l : Lengths) (part : List ℕ) (n : ℕ) : Type 0 where
  pub allowed : AllowsLength l n
  pub small : n < 2 ^ 32
  pub begins : take (length part) (to_be_bytes w32 n) ≡ part

pub length_completes : (l : Lengths) (part : List ℕ) → 0 < l.step → AreBytes part → length part < 4 →
    may_begin_length l part ≡ true → Completes l part (next_length l (low_of part))
unfolding may_begin_length
length_completes l part pos fits short h =
    let n = next_length l (low_of part) in
    let parts = and_parts (leb n (high_of part)) (leb n l.longest) h in
    let to = leb-true _ _ parts.0 in
    let small : n < 2 ^ 32 = omega (arith, to, high_small part fits short) in
    record {
      allowed = next_allowed l (low_of part) pos (leb-true _ _ parts.1);
      small = small;
      begins = begins part n fits short small (next_from l (low_of part) pos) to;
    }

-- a whole length that passes is allowed
four_cells : (l : Lengths) (part : List ℕ) → 0 < l.step → low_of part ≡ high_of part →
    may_begin_length l part ≡ true →
    AllowsLength l (low_of part)
unfolding may_begin_length
four_cells l part pos same h =
    let n = next_length l (low_of part) in
    let parts = and_parts (leb n (high_of part)) (leb n l.longest) h in
    let e : n ≡ low_of part = omega (arith, leb-true _ _ parts.0, next_from l (low_of part) pos, same) in
    subst (AllowsLength l) e (next_allowed l (low_of part) pos (leb-true _ _ parts.1))

pub length_allowed : (l : Lengths) (part : List ℕ) → 0 < l.step → length part ≡ 4 → may_begin_length l part ≡ true →
    AllowsLength l (from_be_bytes w32 part)
length_allowed l part pos len h =
    let low : low_of part ≡ from_be_bytes w32 part =
    ap (λ (k : ℕ). from_be_bytes w32 (part ++ drop k (0 ∷ 0 ∷ 0 ∷ 0 ∷ []))) len
    ∙ ap (from_be_bytes w32) (append-nil part) in
    let high : high_of part ≡ from_be_bytes w32 part =
    ap (λ (k : ℕ). from_be_bytes w32 (part ++ drop k (255 ∷ 255 ∷ 255 ∷ 255 ∷ []))) len
    ∙ ap (from_be_bytes w32) (append-nil part) in
    subst (AllowsLength l) low (four_cells l part pos (low ∙ sym high) h)
