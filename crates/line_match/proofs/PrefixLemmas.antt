-- How many symbols of two lines agree from an offset on.
use Rattle.std.proofs.Common.{◌≡◌, ℕ, ◌+◌, ◌≤◌, suc, Bool, true, false, ◌&&◌, ◌==◌, nat_eq, cond, is_some, List, [], ◌∷◌, ◌++◌, length, map, drop, refl, sym, ap, ap₂, ◌∙◌, arith}
use Rattle.std.specs.List.{common_prefix_len}
use Rattle.std.proofs.lemmas.Bool.{eqb-true, eq-eqb}
use Rattle.tcp_track.specs.Segments.{Symbol, syn, byte, fin, fin_if, syn_if, same_symbol}
use Rattle.tcp_track.specs.LineFields.{LineFields}
use Rattle.line_release.specs.Whole.{whole_of}
use Rattle.line_match.specs.Rest.{bytes_from, ends_from, one_if, agreed_bytes, agreed_from}
use Rattle.line_match.proofs.RestLemmas.{rest_is}

bool-iff : (a b : Bool) → (a ≡ true → b ≡ true) → (b ≡ true → a ≡ true) → a ≡ b
bool-iff true b f g = sym (f refl)
bool-iff false true f g = g refl
bool-iff false false f g = refl

zero_suc : (m : ℕ) → (0 == suc m) ≡ false
zero_suc m = by_test (0 == suc m) refl
  where
    by_test : (b : Bool) → (0 == suc m) ≡ b → b ≡ false
    by_test true p = absurd (omega (arith, eqb-true 0 (suc m) p))
    by_test false p = refl

suc_eq : (n m : ℕ) → (1 + n == suc m) ≡ (n == m)
suc_eq n m = bool-iff (1 + n == suc m) (n == m) (λ p. eq-eqb n m (omega (arith, eqb-true (1 + n) (suc m) p))) (λ p.
    eq-eqb (1 + n) (suc m) (omega (arith, eqb-true n m p)))

no_end : (f g b : Bool) → b ≡ false → 0 ≡ 0 + one_if (f && (g && b))
no_end false g b e = refl
no_end true false b e = refl
no_end true true b e = sym (ap (λ (t : Bool). 0 + one_if t) e)

no_right : (a : Bool) (m : ℕ) → (a && (0 == suc m)) ≡ false
no_right true m = zero_suc m
no_right false m = refl

no_left : (m : ℕ) (b : Bool) → ((0 == suc m) && b) ≡ false
no_left m b = ap (λ (a : Bool). a && b) (zero_suc m)

-- what one byte more on both sides leaves
step_with : (b f g : Bool) (rest n m k : ℕ) → rest ≡ n + one_if (f && (g && (n == m && n == k))) →
    cond b (1 + rest) 0 ≡ cond b (1 + n) 0
    + one_if (f && (g && (cond b (1 + n) 0 == suc m && cond b (1 + n) 0 == suc k)))
step_with true f g rest n m k e =
    let last : Bool → Bool → ℕ = λ x y. one_if (f && (g && (x && y))) in
    let add : 1 + (n + last (n == m) (n == k)) ≡ 1 + n + last (n == m) (n == k) = omega arith in
    ap (λ (t : ℕ). 1 + t) e ∙ (add ∙ sym (ap₂ (λ x y. 1 + n + one_if (f && (g && (x && y)))) (suc_eq n m) (suc_eq n k)))
step_with false f g rest n m k e = no_end f g (0 == suc m && 0 == suc k) (no_left m (0 == suc k))

pub prefix_is : (xs : List ℕ) (f : Bool) (ys : List ℕ) (g : Bool) →
    common_prefix_len same_symbol (map byte xs ++ fin_if f) (map byte ys ++ fin_if g) ≡ agreed_bytes xs f ys g
prefix_is [] true [] true = refl
prefix_is [] true [] false = refl
prefix_is [] false [] g = refl
prefix_is [] true (y ∷ ys) g = no_end true g (true && (0 == suc (length ys))) (zero_suc (length ys))
prefix_is [] false (y ∷ ys) g = refl
prefix_is (x ∷ xs) f [] true = no_end f true ((0 == suc (length xs)) && true) (no_left (length xs) true)
prefix_is (x ∷ xs) f [] false = no_end f false ((0 == suc (length xs)) && true) (no_left (length xs) true)
prefix_is (x ∷ xs) f (y ∷ ys) g = step_with (x == y) f g (common_prefix_len same_symbol (map byte xs ++ fin_if f)
    (map byte ys ++ fin_if g)) (common_prefix_len nat_eq xs ys) (length xs) (length ys) (prefix_is xs f ys g)

both_syn : (b : Bool) (xs ys : List Symbol) →
    common_prefix_len same_symbol (syn_if b ++ xs) (syn_if b ++ ys) ≡ one_if b + common_prefix_len same_symbol xs ys
both_syn true xs ys = refl
both_syn false xs ys = let n = common_prefix_len same_symbol xs ys in let e : n ≡ 0 + n = omega arith in e

-- lines with an opening, of which nothing is forgotten from the offset on
pub agreed_is : (l m : LineFields) (from : ℕ) → is_some l.opening ≡ true → is_some m.opening ≡ true →
    l.base ≤ from → m.base ≤ from →
    common_prefix_len same_symbol (drop from (whole_of l).symbols) (drop from (whole_of m).symbols)
    ≡ agreed_from l m from
agreed_is l m from o p low down =
    ap₂ (λ xs ys. common_prefix_len same_symbol xs ys) (rest_is l from o low) (rest_is m from p down)
    ∙ (both_syn (from == 0) (map byte (bytes_from l from) ++ fin_if (ends_from l from))
    (map byte (bytes_from m from) ++ fin_if (ends_from m from))
    ∙ ap (λ (n : ℕ). one_if (from == 0) + n) (prefix_is (bytes_from l from) (ends_from l from) (bytes_from m from)
    (ends_from m from)))
