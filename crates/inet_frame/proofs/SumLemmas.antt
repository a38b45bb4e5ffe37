-- Laws of the one's complement sum (RFC 1071, 2).
use Rattle.std.proofs.Common.{◌≡◌, ℕ, ◌+◌, ◌-◌, ◌*◌, ◌<◌, zero, suc, List, [], ◌∷◌, ◌++◌, length, refl, ap, ◌∙◌, arith}
use Rattle.std.proofs.lemmas.Bool.Decides.{nat_tests}
use Rattle.std.specs.List.{fold}
use Rattle.shared_definitions.specs.Bytes.{AreBytes}
use Rattle.shared_definitions.proofs.ByteLemmas.{AreBytes-tail}
use Rattle.inet_frame.specs.Sum.{ones_add, ones_sum, words}

-- each number of the list is a word of 16 bits
abbrev Words : List ℕ → Type 0
Words [] = Unit {0}
Words (w ∷ ws) = (w < 65536) × Words ws

words_fit : (xs : List ℕ) → AreBytes xs → Words (words xs)
words_fit [] h = tt
words_fit (x ∷ []) h = let hx = h 0 in (omega arith, tt)
words_fit (x ∷ y ∷ xs) h = let hx = h 0 in let hy = h 1 in (
  omega arith,
  words_fit xs (AreBytes-tail y xs (AreBytes-tail x (y ∷ xs) h)),
)

pub ones_add_fits : (a b : ℕ) → a < 65536 → b < 65536 → ones_add a b < 65536
ones_add_fits a b ha hb = grind (arith, nat_tests)

pub ones_add_zero : (a : ℕ) → a < 65536 → ones_add a 0 ≡ a
ones_add_zero a ha = grind (arith, nat_tests)

ones_add_swap : (a b c : ℕ) → a < 65536 → b < 65536 → c < 65536 → ones_add (ones_add a b) c ≡ ones_add (ones_add a c) b
ones_add_swap a b c ha hb hc = grind (arith, nat_tests)

ones_add_rest : (a : ℕ) → a < 65536 → ones_add a (65535 - a) ≡ 65535
ones_add_rest a ha = grind (arith, nat_tests)

fold_fits : (ws : List ℕ) (a : ℕ) → a < 65536 → Words ws → fold ones_add a ws < 65536
fold_fits [] a ha h = ha
fold_fits (w ∷ ws) a ha h = fold_fits ws (ones_add a w) (ones_add_fits a w ha h.0) h.1

fold_moved : (ws : List ℕ) (a w : ℕ) → a < 65536 → w < 65536 → Words ws →
    fold ones_add (ones_add a w) ws ≡ ones_add (fold ones_add a ws) w
fold_moved [] a w ha hw h = refl
fold_moved (x ∷ ws) a w ha hw h =
    ap (λ (s : ℕ). fold ones_add s ws) (ones_add_swap a w x ha hw h.0)
    ∙ fold_moved ws (ones_add a x) w (ones_add_fits a x ha h.0) hw h.1

pub ones_sum_fits : (s : ℕ) (xs : List ℕ) → s < 65536 → AreBytes xs → ones_sum s xs < 65536
ones_sum_fits s xs hs h = fold_fits (words xs) s hs (words_fit xs h)

-- a front of an even length may be summed first
pub ones_sum_append : (n s : ℕ) (xs ys : List ℕ) → length xs ≡ n + n →
    ones_sum s (xs ++ ys) ≡ ones_sum (ones_sum s xs) ys
ones_sum_append zero s [] ys e = refl
ones_sum_append zero s (x ∷ xs) ys e = absurd (omega arith)
ones_sum_append (suc n) s [] ys e = absurd (omega arith)
ones_sum_append (suc n) s (x ∷ []) ys e = absurd (omega arith)
ones_sum_append (suc n) s (x ∷ y ∷ xs) ys e = ones_sum_append n (ones_add s (x * 256 + y)) xs ys (omega arith)

-- a word that is the complement of the sum with 0 in its place makes the sum 0xFFFF
pub ones_sum_closed : (s high low : ℕ) (ys : List ℕ) → s < 65536 → AreBytes ys →
    high * 256 + low ≡ 65535 - ones_sum s (0 ∷ 0 ∷ ys) → ones_sum s (high ∷ low ∷ ys) ≡ 65535
ones_sum_closed s high low ys hs h e =
    let ws = words ys in
    let fits = words_fit ys h in
    let zero_is : ones_add s 0 ≡ s = ones_add_zero s hs in
    let sum = fold ones_add s ws in
    let small : sum < 65536 = fold_fits ws s hs fits in
    let is : high * 256 + low ≡ 65535 - sum = e ∙ ap (λ (t : ℕ). 65535 - fold ones_add t ws) zero_is in
    ap (λ (w : ℕ). fold ones_add (ones_add s w) ws) is
    ∙ (fold_moved ws s (65535 - sum) hs (omega arith) fits ∙ ones_add_rest sum small)
