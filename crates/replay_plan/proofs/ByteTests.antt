-- Bytes are tested.
use Rattle.std.proofs.Common.{◌≡◌, ℕ, ◌<◌, Bool, true, ◌&&◌, List, [], ◌∷◌, Vec, nat_lt, get_or, refl, subst, arith, length}
use Rattle.std.specs.declared.alloc.Global.{Global}
use Rattle.std.specs.List.{list_all}
use Rattle.std.proofs.lemmas.Bool.{and_parts}
use Rattle.std.proofs.lemmas.Bool.Decides.{nat_tests}
use Rattle.file_steps.specs.ReadBytes.{texts_of}
use Rattle.shared_definitions.specs.Bytes.{AreBytes}
use Rattle.shared_definitions.proofs.ByteLemmas.{AreBytes-cons, AreBytes-nil, AreBytes-tail}
use Rattle.replay_plan.specs.ReplayPlan.{are_bytes}

both : (a b : Bool) → a ≡ true → b ≡ true → (a && b) ≡ true
both a b e f = rw (e, f) refl

is_byte : (x : ℕ) → x < 256 → nat_lt x 256 ≡ true
is_byte x h = grind (arith, nat_tests)

byte_is : (x : ℕ) → nat_lt x 256 ≡ true → x < 256
byte_is x h = grind (arith, nat_tests)

pub bytes_test : (xs : List ℕ) → AreBytes xs → are_bytes xs ≡ true
bytes_test [] h = refl
bytes_test (x ∷ xs) h = both (nat_lt x 256) (are_bytes xs) (is_byte x (h 0)) (bytes_test xs (AreBytes-tail x xs h))

pub bytes_there : (xs : List ℕ) → are_bytes xs ≡ true → AreBytes xs
bytes_there [] h = AreBytes-nil
bytes_there (x ∷ xs) h =
    let p = and_parts (nat_lt x 256) (are_bytes xs) h in
    AreBytes-cons x xs (byte_is x p.0) (bytes_there xs p.1)

file_test : (v a : Vec ℕ Global) → a ≡ v → AreBytes a.items → are_bytes v.items ≡ true
file_test v a is h = subst (λ (x : Vec ℕ Global). are_bytes x.items ≡ true) is (bytes_test a.items h)

-- four files of bytes
pub texts_are : (files : List (Vec ℕ Global)) (a b c d : Vec ℕ Global) → length files ≡ 4 → a ≡ get_or files 0 a
    → b ≡ get_or files 1 b → c ≡ get_or files 2 c → d ≡ get_or files 3 d → AreBytes a.items → AreBytes b.items
    → AreBytes c.items → AreBytes d.items → list_all are_bytes (texts_of files) ≡ true
texts_are (v ∷ (w ∷ (x ∷ (y ∷ [])))) a b c d all at0 at1 at2 at3 e0 e1 e2 e3 =
    both (are_bytes v.items) (are_bytes w.items && (are_bytes x.items && (are_bytes y.items && true)))
    (file_test v a at0 e0)
    (both (are_bytes w.items) (are_bytes x.items && (are_bytes y.items && true)) (file_test w b at1 e1)
    (both (are_bytes x.items) (are_bytes y.items && true) (file_test x c at2 e2)
    (both (are_bytes y.items) true (file_test y d at3 e3) refl)))
texts_are [] a b c d all at0 at1 at2 at3 e0 e1 e2 e3 = absurd (omega (arith, all))
texts_are (v ∷ []) a b c d all at0 at1 at2 at3 e0 e1 e2 e3 = absurd (omega (arith, all))
texts_are (v ∷ (w ∷ [])) a b c d all at0 at1 at2 at3 e0 e1 e2 e3 = absurd (omega (arith, all))
texts_are (v ∷ (w ∷ (x ∷ []))) a b c d all at0 at1 at2 at3 e0 e1 e2 e3 = absurd (omega (arith, all))
texts_are (v ∷ (w ∷ (x ∷ (y ∷ (z ∷ rest))))) a b c d all at0 at1 at2 at3 e0 e1 e2 e3 =
    absurd (omega (arith, all))
