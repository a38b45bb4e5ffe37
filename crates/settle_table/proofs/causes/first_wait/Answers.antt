-- The tuple at the index is the next of the list.
use Rattle.std.proofs.Common.{◌≡◌, ◌==◌, ℕ, Bool, true, false, suc, List, Option, Some, cond, find, drop, refl, sym, ap, ◌∙◌, add-one, eq-eqb, arith}
use Rattle.std.proofs.lemmas.Bool.{eqb-true}
use Rattle.inet_frame.specs.declared.tuple.Tuple.{Tuple}
use Rattle.settle_table.specs.Kept.{tuples_of}
use Rattle.settle_table.specs.Needs.{has_waited, wait_of}
use Rattle.settle_table.proofs.StepLemmas.{drop_step}
use Rattle.settle_table.proofs.causes.first_wait.Goals as goal

not_equal : (m n : ℕ) → (m ≡ n → ⊥) → (m == n) ≡ false
not_equal m n h = by (m == n) refl
  where
    by : (b : Bool) → (m == n) ≡ b → b ≡ false
    by true p = absurd (h (eqb-true m n p))
    by false p = refl

pub returns-then-age_at-eq-LONGEST_WAIT : goal.returns-then-age_at-eq-LONGEST_WAIT
returns-then-age_at-eq-LONGEST_WAIT c =
    let table = c.args.table.now.entries in
    let tuples = tuples_of c.args.scene.now.mine.now in
    let t = c.tuple_at-tuple.result in
    let rest = find (has_waited table) (drop (suc c.loop-k.k) tuples) in
    let waited : has_waited table t ≡ true = eq-eqb _ _ (sym c.age_at.ensures ∙ c.if-age_at-eq-LONGEST_WAIT.true) in
    sym (ap wait_of (c.loop-k.invariant
    ∙ (ap (λ (ts : List Tuple). find (has_waited table) ts) (drop_step tuples c.loop-k.k t c.tuple_at-tuple.ensures)
    ∙ ap (λ (b : Bool). cond b (Some t) rest) waited)))

pub loop-k-preserved : goal.loop-k-preserved
loop-k-preserved c =
    let table = c.args.table.now.entries in
    let tuples = tuples_of c.args.scene.now.mine.now in
    let t = c.tuple_at-tuple.result in
    let rest = find (has_waited table) (drop (suc c.loop-k.k) tuples) in
    let waited : has_waited table t ≡ false = not_equal _ _
    (λ p. c.if-age_at-eq-LONGEST_WAIT.false (c.age_at.ensures ∙ p)) in
    rw add-one (c.loop-k.invariant
    ∙ (ap (λ (ts : List Tuple). find (has_waited table) ts) (drop_step tuples c.loop-k.k t c.tuple_at-tuple.ensures)
    ∙ ap (λ (b : Bool). cond b (Some t) rest) waited))
