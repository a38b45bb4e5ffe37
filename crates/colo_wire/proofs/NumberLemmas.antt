-- A number that is read is spelled by the bytes that it was read from, and what is spelled is read again.
use Rattle.std.proofs.Common.{◌≡◌, ℕ, ◌+◌, ◌^◌, ◌<◌, ◌≤◌, true, eqb, List, [], ◌∷◌, ◌++◌, length, take, drop, replicate, refl, sym, ap, ◌∙◌, arith}
use Rattle.std.specs.Int.{Width, w16, w32, w64, byte_len, from_be_bytes, to_be_bytes}
use Rattle.std.proofs.lemmas.Bool.{and_parts, eqb-true}
use Rattle.std.proofs.lemmas.List.{take-append-drop, drop-drop, length-take, length-drop}
use Rattle.std.proofs.lemmas.Nat.{be_bytes_2, be_bytes_4, be_bytes_8}
use Rattle.colo_wire.specs.Making.{number_at}
use Rattle.colo_wire.specs.Places.{is_zero}
use Rattle.shared_definitions.specs.Bytes.{AreBytes}
use Rattle.shared_definitions.proofs.ByteLemmas.{AreBytes-drop, AreBytes-take}

-- a width of numbers, with its laws
pub record IsWide (w : Width) (limit : ℕ) : Type 0 where
  pub back : (bytes : List ℕ) → length bytes ≡ byte_len w → AreBytes bytes →
      to_be_bytes w (from_be_bytes w bytes) ≡ bytes
  pub below : (bytes : List ℕ) → AreBytes bytes → from_be_bytes w bytes < limit

pub wide16 : IsWide w16 (2 ^ 16)
wide16 = record {
  back = λ bytes len fits. be_bytes_2 bytes _ len fits refl;
  below = λ bytes fits. omega (arith, fits 0, fits 1);
}

pub wide32 : IsWide w32 (2 ^ 32)
wide32 = record {
  back = λ bytes len fits. be_bytes_4 bytes _ len fits refl;
  below = λ bytes fits. omega (arith, fits 0, fits 1, fits 2, fits 3);
}

pub wide64 : IsWide w64 (2 ^ 64)
wide64 = record {
  back = λ bytes len fits. be_bytes_8 bytes _ len fits refl;
  below = λ bytes fits. omega (arith, fits 0, fits 1, fits 2, fits 3, fits 4, fits 5, fits 6, fits 7);
}

pub number_below : (w : Width) (limit : ℕ) → IsWide w limit → (at : ℕ) (body : List ℕ) → AreBytes body →
    number_at w at body < limit
unfolding number_at
number_below w limit wide at body fits =
    wide.below (take (byte_len w) (drop at body)) (AreBytes-take (byte_len w) (drop at body) (AreBytes-drop at body fits))

-- the number at a place spells its bytes
pub number_spelled : (w : Width) (limit : ℕ) → IsWide w limit → (at end : ℕ) (body : List ℕ) → at + byte_len w ≡ end →
    AreBytes body →
    end ≤ length body → to_be_bytes w (number_at w at body) ++ drop end body ≡ drop at body
unfolding number_at
number_spelled w limit wide at end body e fits long =
    let rest = drop at body in
    let len : length (take (byte_len w) rest) ≡ byte_len w =
    omega (arith, length-take (byte_len w) rest, length-drop at body) in
    let front : to_be_bytes w (from_be_bytes w (take (byte_len w) rest)) ≡ take (byte_len w) rest =
    wide.back (take (byte_len w) rest) len (AreBytes-take (byte_len w) rest (AreBytes-drop at body fits)) in
    let back : drop end body ≡ drop (byte_len w) rest = ap (λ (k : ℕ). drop k body) (sym e)
    ∙ sym (drop-drop (byte_len w) at body) in
    ap (λ (x : List ℕ). x ++ drop end body) front ∙ ap (λ (x : List ℕ). take (byte_len w) rest ++ x) back
    ∙ take-append-drop (byte_len w) rest

-- bytes that are all 0
pub zeros_are : (x : List ℕ) → is_zero x ≡ true → x ≡ replicate (length x) 0
zeros_are [] h = refl
zeros_are (b ∷ x) h =
    let p = and_parts (eqb b 0) (is_zero x) h in
    let e : b ≡ 0 = eqb-true b 0 p.0 in
    rw (e, ← zeros_are x p.1) refl
