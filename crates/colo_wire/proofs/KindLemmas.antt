-- The kinds: their numbers, and how long their bodies may be.
use Rattle.std.proofs.Common.{◌≡◌, ℕ, zero, suc, ◌-◌, ◌^◌, ◌<◌, ◌≤◌, false, eqb, Option, Some, None, length, refl, sym, ap, ◌∙◌, arith, lit≤}
use Rattle.std.specs.Prelude.{slice_get}
use Rattle.std.proofs.lemmas.Bool.{cond-false, ne_eqb}
use Rattle.std.proofs.lemmas.Option.{slice_get_past}
use Rattle.colo_wire.specs.Forms.{lengths_of}
use Rattle.colo_wire.specs.Kinds.{kinds, kind_at, number_of_kind}
use Rattle.colo_wire.specs.Lengths.{AllowsLength}
use Rattle.colo_wire.specs.Spelling.{HasSpelling, body_of, kind_of}
use Rattle.colo_wire.specs.declared.kinds.Kind.{Kind}
use Rattle.colo_wire.specs.declared.kinds.Kind.TheVariants as kind
use Rattle.colo_wire.specs.declared.messages.Message.{Message}

-- ---- kinds by their numbers

pub kind_again : (k : Kind) → kind_at (number_of_kind k) ≡ Some k
kind_again kind.Frame = refl
kind_again kind.Number = refl
kind_again kind.Begin = refl
kind_again kind.State = refl
kind_again kind.Page = refl
kind_again kind.Disk = refl
kind_again kind.Write = refl
kind_again kind.Held = refl
kind_again kind.Line = refl
kind_again kind.Bytes = refl
kind_again kind.End = refl
kind_again kind.Known = refl
kind_again kind.Sent = refl
kind_again kind.Ack = refl

some_is : {A : Type 0} (x y : A) → (let o : Option A = Some x in o) ≡ Some y → x ≡ y
some_is x y e = cc

kind_past : (n : ℕ) → 15 ≤ n → kind_at n ≡ None
kind_past n h =
    let some : eqb n 0 ≡ false = ne_eqb n 0 (λ e. omega (arith, e)) in
    cond-false (eqb n 0) None (slice_get kinds (n - 1)) some ∙ slice_get_past kinds (n - 1) (omega arith)

some_none : (k : Kind) → (let o : Option Kind = Some k in o) ≡ None → ⊥
some_none k e = cc

pub kind_number : (n : ℕ) (k : Kind) → kind_at n ≡ Some k → n ≡ number_of_kind k
kind_number zero k e = absurd cc
kind_number (suc zero) k e = ap number_of_kind (some_is kind.Frame k e)
kind_number (suc (suc zero)) k e = ap number_of_kind (some_is kind.Number k e)
kind_number (suc (suc (suc zero))) k e = ap number_of_kind (some_is kind.Begin k e)
kind_number (suc (suc (suc (suc zero)))) k e = ap number_of_kind (some_is kind.State k e)
kind_number (suc (suc (suc (suc (suc zero))))) k e = ap number_of_kind (some_is kind.Page k e)
kind_number (suc (suc (suc (suc (suc (suc zero)))))) k e = ap number_of_kind (some_is kind.Disk k e)
kind_number (suc (suc (suc (suc (suc (suc (suc zero))))))) k e = ap number_of_kind (some_is kind.Write k e)
kind_number (suc (suc (suc (suc (suc (suc (suc (suc zero)))))))) k e = ap number_of_kind (some_is kind.Held k e)
kind_number (suc (suc (suc (suc (suc (suc (suc (suc (suc zero))))))))) k e = ap number_of_kind (some_is kind.Line k e)
kind_number (suc (suc (suc (suc (suc (suc (suc (suc (suc (suc zero)))))))))) k e =
    ap number_of_kind (some_is kind.Bytes k e)
kind_number (suc (suc (suc (suc (suc (suc (suc (suc (suc (suc (suc zero))))))))))) k e =
    ap number_of_kind (some_is kind.End k e)
kind_number (suc (suc (suc (suc (suc (suc (suc (suc (suc (suc (suc (suc zero)))))))))))) k e =
    ap number_of_kind (some_is kind.Known k e)
kind_number (suc (suc (suc (suc (suc (suc (suc (suc (suc (suc (suc (suc (suc zero))))))))))))) k e =
    ap number_of_kind (some_is kind.Sent k e)
kind_number (suc (suc (suc (suc (suc (suc (suc (suc (suc (suc (suc (suc (suc (suc zero)))))))))))))) k e =
    ap number_of_kind (some_is kind.Ack k e)
kind_number (suc (suc (suc (suc (suc (suc (suc (suc (suc (suc (suc (suc (suc (suc (suc n))))))))))))))) k e =
    let past : kind_at
    (suc (suc (suc (suc (suc (suc (suc (suc (suc (suc (suc (suc (suc (suc (suc n))))))))))))))) ≡ None =
    kind_past (suc (suc (suc (suc (suc (suc (suc (suc (suc (suc (suc (suc (suc (suc (suc n)))))))))))))))
    (omega arith) in
    absurd (some_none k (sym e ∙ past))

pub step_positive : (k : Kind) → 0 < (lengths_of k).step
step_positive kind.Frame = lit≤ tt
step_positive kind.Number = lit≤ tt
step_positive kind.Begin = lit≤ tt
step_positive kind.State = lit≤ tt
step_positive kind.Page = lit≤ tt
step_positive kind.Disk = lit≤ tt
step_positive kind.Write = lit≤ tt
step_positive kind.Held = lit≤ tt
step_positive kind.Line = lit≤ tt
step_positive kind.Bytes = lit≤ tt
step_positive kind.End = lit≤ tt
step_positive kind.Known = lit≤ tt
step_positive kind.Sent = lit≤ tt
step_positive kind.Ack = lit≤ tt

longest_small : (k : Kind) → (lengths_of k).longest < 2 ^ 32
longest_small kind.Frame = omega arith
longest_small kind.Number = omega arith
longest_small kind.Begin = omega arith
longest_small kind.State = omega arith
longest_small kind.Page = omega arith
longest_small kind.Disk = omega arith
longest_small kind.Write = omega arith
longest_small kind.Held = omega arith
longest_small kind.Line = omega arith
longest_small kind.Bytes = omega arith
longest_small kind.End = omega arith
longest_small kind.Known = omega arith
longest_small kind.Sent = omega arith
longest_small kind.Ack = omega arith

pub allowed_small : (k : Kind) (n : ℕ) → AllowsLength (lengths_of k) n → n < 2 ^ 32
allowed_small k n allowed = omega (arith, allowed.to, longest_small k)

-- the length of a body that has a spelling
pub body_small : (m : Message) → HasSpelling m → length (body_of m) < 2 ^ 32
body_small m h = allowed_small (kind_of m) (length (body_of m)) h.length
