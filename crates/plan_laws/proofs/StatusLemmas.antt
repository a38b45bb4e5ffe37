-- A file isn't written where what is read is refused.
use Rattle.std.proofs.Common.{◌≡◌, ℕ, IsTrue, List, [], ◌∷◌, ◌++◌, Option, Some, ◌⊎◌, inl, inr, refl, sym, ap, ◌∙◌, subst}
use Rattle.colo_base.specs.Shelf.{ShelfState}
use Rattle.command_plans.specs.Planning.{refusal_plan}
use Rattle.file_steps.specs.declared.fault.Fault.TheVariants.{Write}
use Rattle.file_steps.specs.Ending.{Call, FailedBy, HasStatus, LineFailed, Means, OfPlan, OfTask}
use Rattle.file_steps.specs.Plans.{End, Plan, Refusal, Task, done, offline, plan_of, refused}
use Rattle.file_steps.specs.Reading.{AreRead}
use Rattle.file_steps.specs.Steps.{Done, Fails, OfFirst, Said, Step}
use Rattle.plan_laws.specs.Statuses.{RefusalsAreFirst}

same_bytes : (o : Option (List ℕ)) (xs ys : List ℕ) → o ≡ Some xs → o ≡ Some ys → xs ≡ ys
same_bytes o xs ys p q = cc

same_texts : (s : ShelfState) (names a b : List (List ℕ)) → IsTrue s.observable → AreRead s names a
    → AreRead s names b → a ≡ b
same_texts s [] [] [] seen p q = refl
same_texts s [] [] (y ∷ b) seen p q = absurd q
same_texts s [] (x ∷ a) b seen p q = absurd p
same_texts s (n ∷ names) [] b seen p q = absurd p
same_texts s (n ∷ names) (x ∷ a) [] seen p q = absurd q
same_texts s (n ∷ names) (x ∷ a) (y ∷ b) seen p q =
    ap (λ z. z ∷ a) (same_bytes (s.contents n) x y (p.0 seen) (q.0 seen))
    ∙ ap (λ l. y ∷ l) (same_texts s names a b seen p.1 q.1)

same_task : (o : Option Task) (a b : Task) → o ≡ Some a → o ≡ Some b → a ≡ b
same_task o a b p q = cc

-- nothing is left of no steps
none_left : (P : Step → Type 0) (steps made rest : List Step) → steps ≡ [] → steps ≡ made ++ rest → OfFirst P rest → ⊥
none_left P steps made [] none place first = first
none_left P steps [] (s ∷ rest) none place first = let e : [] ≡ s ∷ rest = sym none ∙ place in cc
none_left P steps (m ∷ made) (s ∷ rest) none place first =
    let e : [] ≡ m ∷ (made ++ (s ∷ rest)) = sym none ∙ place in cc

apart : (end : End) (refusal : Refusal) (line : List ℕ) → end ≡ refused refusal → end ≡ done line → ⊥
apart end refusal line p q = cc

module _ (call : Call) (refusal : Refusal) (task : Task) (plan : List (List ℕ) → Plan) (texts : List (List ℕ))
    (named : call.task ≡ Some task) (is : task.making ≡ offline plan) (seen : IsTrue call.before.shelf.observable)
    (are : AreRead call.before.shelf task.reads texts) (refuses : plan texts ≡ refusal_plan refusal) where
  of_texts : (P : Plan → Said → Type 0) → (made : OfPlan task call.before P) → P (plan texts) made.said
  of_texts P made =
      subst (λ (l : List (List ℕ)). P (plan l) made.said)
      (same_texts call.before.shelf task.reads made.texts texts seen made.are are)
      (subst (λ m. P (plan_of m made.texts made.said) made.said) is made.holds)

  none_written : OfTask call (FailedBy call Write) → ⊥
  none_written (other, said, f) =
      let W : Task → Type 0 = λ t. OfPlan t call.before
      (λ p s. Fails t.out p.steps s call.before call.after Write) in
      let made : W task = subst W (same_task call.task other task said named) f.work in
      let fails = of_texts (λ p s. Fails task.out p.steps s call.before call.after Write) made in
      none_left _ (plan texts).steps fails.cut.front.done fails.rest (ap (λ (p : Plan). p.steps) refuses)
      fails.cut.front.place fails.failed

  none_done : OfTask call (LineFailed call) → ⊥
  none_done (other, said, f) =
      let W : Task → Type 0 = λ t. OfPlan t call.before
      (λ p s. (p.end ≡ done f.line) × Done t.out p.steps s call.before call.after) in
      let made : W task = subst W (same_task call.task other task said named) f.work in
      let both = of_texts (λ p s. (p.end ≡ done f.line) × Done task.out p.steps s call.before call.after) made in
      apart (plan texts).end refusal f.line (ap (λ (p : Plan). p.end) refuses) both.0

  never : Means call 7 → ⊥
  never (inl f) = none_written f
  never (inr f) = none_done f

  first : Means call call.status
      → HasStatus (plan texts).end call.status ⊎ ((call.status ≡ 6) ⊎ ((call.status ≡ 7) ⊎ (call.status ≡ 8)))
      → (call.status ≡ refusal.status) ⊎ ((call.status ≡ 6) ⊎ (call.status ≡ 8))
  first means (inl h) =
      inl (subst (λ (e : End). HasStatus e call.status) (ap (λ (p : Plan). p.end) refuses) h)
  first means (inr (inl six)) = inr (inl six)
  first means (inr (inr (inl seven))) = absurd (never (subst (λ (s : ℕ). Means call s) seven means))
  first means (inr (inr (inr eight))) = inr (inr eight)

pub refusals_are_first : RefusalsAreFirst
refusals_are_first call ends refusal task plan texts named is seen are refuses =
    first call refusal task plan texts named is seen are refuses ends.means
    (ends.due task plan texts named is seen are)
