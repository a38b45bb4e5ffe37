-- Parts and joins of lists of bytes, and numbers spelled as bytes.
use Rattle.std.proofs.Common.{ℕ, ◌+◌, ◌-◌, ◌<◌, ◌≤◌, zero, suc, List, [], ◌∷◌, ◌++◌, length, replicate, get_or, take, drop, arith, ⊎_elim}
use Rattle.std.proofs.lemmas.Bool.{cases_lt}
use Rattle.std.proofs.lemmas.List.{get_or-take, get_or-drop, get_or_past, length-take}
use Rattle.std.specs.Int.{byte_at, bytes_high_first, bytes_low_first, w16, w32, to_be_bytes}
use Rattle.std.specs.List.{slice_range}
use Rattle.shared_definitions.specs.Bytes.{AreBytes}
use Rattle.shared_definitions.specs.Overwrite.{overwrite}

-- each number of a list that is written out is a byte
abbrev pub EachByte : List ℕ → Type 0
EachByte [] = Unit {0}
EachByte (x ∷ xs) = (x < 256) × EachByte xs

pub AreBytes-nil : AreBytes []
AreBytes-nil = λ k. omega arith

pub AreBytes-cons : (x : ℕ) (xs : List ℕ) → x < 256 → AreBytes xs → AreBytes (x ∷ xs)
AreBytes-cons x xs h rest = λ k. at k
  where
    at : (k : ℕ) → get_or (x ∷ xs) k 0 < 256
    at zero = h
    at (suc k) = rest k

pub AreBytes-tail : (x : ℕ) (xs : List ℕ) → AreBytes (x ∷ xs) → AreBytes xs
AreBytes-tail x xs h = λ k. h (suc k)

pub bytes_from : (xs : List ℕ) → EachByte xs → AreBytes xs
bytes_from [] h = AreBytes-nil
bytes_from (x ∷ xs) h = AreBytes-cons x xs h.0 (bytes_from xs h.1)

pub AreBytes-append : (xs ys : List ℕ) → AreBytes xs → AreBytes ys → AreBytes (xs ++ ys)
AreBytes-append [] ys hx hy = hy
AreBytes-append (x ∷ xs) ys hx hy = AreBytes-cons x (xs ++ ys) (hx 0) (AreBytes-append xs ys (λ k. hx (suc k)) hy)

pub AreBytes-drop : (n : ℕ) (xs : List ℕ) → AreBytes xs → AreBytes (drop n xs)
AreBytes-drop n xs h = λ k. rw get_or-drop (h (n + k))

pub AreBytes-take : (n : ℕ) (xs : List ℕ) → AreBytes xs → AreBytes (take n xs)
AreBytes-take n xs h = λ k.
    ⊎_elim
    (λ (lt : k < n). rw get_or-take (h k))
    (λ (ge : n ≤ k).
    let past : length (take n xs) ≤ k = omega (arith, length-take n xs) in
    rw get_or_past (omega arith))
    (cases_lt k n)

-- n bytes from a place on
pub AreBytes-part : (xs : List ℕ) (n at : ℕ) → AreBytes xs → AreBytes (take n (drop at xs))
AreBytes-part xs n at h = AreBytes-take n (drop at xs) (AreBytes-drop at xs h)

pub AreBytes-range : (xs : List ℕ) (i j : ℕ) → AreBytes xs → AreBytes (slice_range xs i j)
AreBytes-range xs i j h = AreBytes-part xs (j - i) i h

pub AreBytes-zeros : (n : ℕ) → AreBytes (replicate n 0)
AreBytes-zeros zero = AreBytes-nil
AreBytes-zeros (suc n) = AreBytes-cons 0 (replicate n 0) (omega arith) (AreBytes-zeros n)

pub AreBytes-overwrite : (b : List ℕ) (at : ℕ) (part : List ℕ) → AreBytes b → AreBytes part →
    AreBytes (overwrite b at part)
unfolding overwrite
AreBytes-overwrite b at part whole written =
    AreBytes-append (take at b ++ part) (drop (at + length part) b)
    (AreBytes-append (take at b) part (AreBytes-take at b whole) written) (AreBytes-drop (at + length part) b whole)

byte_small : (i n : ℕ) → byte_at i n < 256
byte_small zero n = omega arith
byte_small (suc i) n = omega arith

-- the bytes that spell a number, whatever the number
pub AreBytes-low_first : (i count n : ℕ) → AreBytes (bytes_low_first i count n)
AreBytes-low_first i zero n = AreBytes-nil
AreBytes-low_first i (suc count) n =
    AreBytes-cons (byte_at i n) (bytes_low_first (suc i) count n) (byte_small i n) (AreBytes-low_first (suc i) count n)

pub AreBytes-high_first : (count n : ℕ) → AreBytes (bytes_high_first count n)
AreBytes-high_first zero n = AreBytes-nil
AreBytes-high_first (suc count) n =
    AreBytes-cons (byte_at count n) (bytes_high_first count n) (byte_small count n) (AreBytes-high_first count n)

pub two_bytes : (n : ℕ) → AreBytes (to_be_bytes w16 n)
two_bytes n = AreBytes-high_first 2 n

pub four_bytes : (n : ℕ) → AreBytes (to_be_bytes w32 n)
four_bytes n = AreBytes-high_first 4 n
