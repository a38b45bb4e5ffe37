-- Parts that are appended one after the other are appended as one.
use Rattle.std.proofs.Common.{◌≡◌, ℕ, List, ◌++◌, append_assoc}

pub append_2 : (o a b : List ℕ) → o ++ a ++ b ≡ o ++ (a ++ b)
append_2 o a b = simp append_assoc

pub append_3 : (o a b c : List ℕ) → o ++ a ++ b ++ c ≡ o ++ (a ++ b ++ c)
append_3 o a b c = simp append_assoc

pub append_6 : (o a b c d e f : List ℕ) → o ++ a ++ b ++ c ++ d ++ e ++ f ≡ o ++ (a ++ b ++ c ++ d ++ e ++ f)
append_6 o a b c d e f = simp append_assoc

pub append_7 : (o a b c d e f g : List ℕ) →
    o ++ a ++ b ++ c ++ d ++ e ++ f ++ g ≡ o ++ (a ++ b ++ c ++ d ++ e ++ f ++ g)
append_7 o a b c d e f g = simp append_assoc

pub append_11 : (o a b c d e f g h i j k : List ℕ) →
    o ++ a ++ b ++ c ++ d ++ e ++ f ++ g ++ h ++ i ++ j ++ k ≡ o ++
    (a ++ b ++ c ++ d ++ e ++ f ++ g ++ h ++ i ++ j ++ k)
append_11 o a b c d e f g h i j k = simp append_assoc
