-- Two puts in a row.
use Rattle.std.proofs.Common.{ℕ, List, ◌++◌, ap, ◌∙◌, Result, Ok, Err, OnErr}
use Rattle.std.proofs.lemmas.List.{append_assoc}
use Rattle.colo_base.specs.Sink.{SinkState, SinkGoesOn, Puts, PutsPart}
use Rattle.colo_base.proofs.StateLemmas.{front_less, front_more}

pub on_err : {T E : Type 0} (P Q : Type 0) (r : Result T E) → OnErr r P → (P → Q) → OnErr r Q
on_err P Q (Ok x) p f = tt
on_err P Q (Err e) p f = f p

module _ (s t u : SinkState) (a b : List ℕ) where
  -- both were put
  pub puts_then : SinkGoesOn s t → Puts s t a → Puts t u b → Puts s u (a ++ b)
  puts_then kept first second = λ seen.
      second (kept.observable ∙ seen) ∙ (ap (λ bytes. bytes ++ b) (first seen) ∙ append_assoc s.bytes a b)

  -- the first was put, and a part of the second
  pub puts_then_part : SinkGoesOn s t → Puts s t a → PutsPart t u b → PutsPart s u (a ++ b)
  puts_then_part kept first second = λ seen.
      let p = second (kept.observable ∙ seen) in (
        a ++ p.0,
        front_more a b p.0 p.1,
        p.2 ∙ (ap (λ bytes. bytes ++ p.0) (first seen) ∙ append_assoc s.bytes a p.0),
      )

  -- a part of the first was put
  pub puts_part : PutsPart s t a → PutsPart s t (a ++ b)
  puts_part first = λ seen. let p = first seen in (p.0, front_less a b p.0 p.1, p.2)
