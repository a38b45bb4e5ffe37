-- All places ascend, and so do those of a set.
use Rattle.std.proofs.Common.{◌≡◌, ℕ, Bool, true, false, ◌||◌, nat_lt, filter, List, sym, ap, subst, ◌∙◌}
use Rattle.std.specs.List.{range_with_len}
use Rattle.settle_touched.specs.Places.{AreAscending, is_among}
use Rattle.settle_touched.proofs.SettleLemmas.{if_ok_both, if_ok_map}
use Rattle.settle_touched.proofs.TouchedLemmas.{all_among, all_below-ascending, among_below, ascending_below}
use Rattle.settle_touched.proofs.touched.Touched.take.Goals as goal

pub returns-then-self-clause-ascending : goal.returns-then-self-clause-ascending
returns-then-self-clause-ascending c =
    if_ok_map c.all_below.result _ _ c.all_below.ensures
    (λ places e. subst (λ (ks : List ℕ). AreAscending 0 c.args.bound ks) (sym e) (all_below-ascending c.args.bound))

pub returns-then-self-clause-each : goal.returns-then-self-clause-each
returns-then-self-clause-each c =
    if_ok_map c.all_below.result _ _ c.all_below.ensures
    (λ places e k low. ap (λ (ks : List ℕ). is_among k ks) e
    ∙ (all_among k c.args.bound low
    ∙ sym (ap (λ (b : Bool). b || is_among k c.args.self.now.places.keys) c.if-self.true)))

pub returns-else-self-clause-ascending : goal.returns-else-self-clause-ascending
returns-else-self-clause-ascending c =
    if_ok_both c.take_below.result _ _ _ c.take_below.ensures.taken c.take_below.ensures.ordered
    (λ places e sorted. subst (λ (ks : List ℕ). AreAscending 0 c.args.bound ks) (sym e)
    (ascending_below c.args.bound c.args.self.now.places.keys sorted))

pub returns-else-self-clause-each : goal.returns-else-self-clause-each
returns-else-self-clause-each c =
    if_ok_map c.take_below.result _ _ c.take_below.ensures.taken
    (λ places e k low. ap (λ (ks : List ℕ). is_among k ks) e
    ∙ (among_below k c.args.bound c.args.self.now.places.keys low
    ∙ sym (ap (λ (b : Bool). b || is_among k c.args.self.now.places.keys) c.if-self.false)))
