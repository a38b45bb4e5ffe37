-- What is answered to bytes, what it leaves, and what goes out.
use Rattle.std.proofs.Common.{◌≡◌, ℕ, Bool, true, false, List, [], ◌++◌, refl, sym, ap, ◌∙◌, subst, Result, Ok, Err, if◌then◌else◌}
use Rattle.std.proofs.lemmas.Bool.{false≢true}
use Rattle.std.proofs.lemmas.List.{append-nil}
use Rattle.colo_wire.specs.Kinds.{number_of_kind}
use Rattle.colo_wire.specs.Spelling.{kind_of}
use Rattle.colo_wire.specs.declared.answers.HearFault.{HearFault}
use Rattle.colo_wire.specs.declared.answers.HearFault.TheVariants.{NoMessage, NotDue}
use Rattle.colo_wire.specs.declared.answers.Told.{Told}
use Rattle.colo_wire.specs.declared.faults.WireFault.{WireFault}
use Rattle.colo_wire.specs.declared.messages.Message.{Message}
use Rattle.node_parts.specs.Reading.{Reading}
use Rattle.node_primary.specs.Answers.{IsAnswered, told_of}
use Rattle.node_primary.specs.Node.{Primary}
use Rattle.node_primary.specs.Steps.{is_due, primary_hear}

when_true : {A : Type 0} (b : Bool) (x y : A) → b ≡ true → x ≡ (if b then x else y)
when_true true x y e = refl
when_true false x y e = absurd (false≢true e)

when_false : {A : Type 0} (b : Bool) (x y : A) → b ≡ false → y ≡ (if b then x else y)
when_false true x y e = absurd (false≢true (sym e))
when_false false x y e = refl

-- nothing is added to a list
nothing_more : (out : List (List ℕ)) → out ≡ out ++ []
nothing_more out = sym (append-nil out)

-- a message that isn't due
pub refused_by : (n : Primary) (m : Message) (k : ℕ) (out : List (List ℕ)) → is_due n m ≡ false →
    k ≡ number_of_kind (kind_of m) → IsAnswered n (Ok m) (Err (NotDue k)) n out out
refused_by n m k out not e = record {
  answer = ap (λ (x : ℕ). let r : Result Told HearFault = Err (NotDue x) in r) e
      ∙ when_false (is_due n m) (let r : Result Told HearFault = Ok (told_of n m) in r)
      (Err (NotDue (number_of_kind (kind_of m)))) not;
  left = when_false (is_due n m) (primary_hear n m).after n not;
  released = nothing_more out
      ∙ ap (λ (x : List (List ℕ)). out ++ x) (when_false (is_due n m) (primary_hear n m).out [] not);
}

-- one that is
pub heard_by : (n new : Primary) (m : Message) (t : Told) (old out : List (List ℕ)) → is_due n m ≡ true →
    new ≡ (primary_hear n m).after → t ≡ told_of n m → out ≡ old ++ (primary_hear n m).out →
    IsAnswered n (Ok m) (Ok t) new old out
heard_by n new m t old out due left told released = record {
  answer = ap (λ (x : Told). let r : Result Told HearFault = Ok x in r) told
      ∙ when_true (is_due n m) (let r : Result Told HearFault = Ok (told_of n m) in r)
      (Err (NotDue (number_of_kind (kind_of m)))) due;
  left = left ∙ when_true (is_due n m) (primary_hear n m).after n due;
  released = released
      ∙ ap (λ (x : List (List ℕ)). old ++ x) (when_true (is_due n m) (primary_hear n m).out [] due);
}

-- bytes that are none
pub none_by : (n : Primary) (f : WireFault) (out : List (List ℕ)) → IsAnswered n (Err f) (Err (NoMessage f)) n out out
none_by n f out = record { answer = refl; left = refl; released = nothing_more out }

-- of any reading of the bytes
pub answered_by : (old new : Primary) (r reading : Reading) (result : Result Told HearFault)
    (out_old out_new : List (List ℕ)) → IsAnswered old r result new out_old out_new → r ≡ reading →
    IsAnswered old reading result new out_old out_new
answered_by old new r reading result out_old out_new a e =
    subst (λ (x : Reading). IsAnswered old x result new out_old out_new) e a
