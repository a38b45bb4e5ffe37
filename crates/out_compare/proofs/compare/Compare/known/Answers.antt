-- Lines and progress stay.
use Rattle.std.proofs.Common.{◌≡◌, sym, subst}
use Rattle.out_compare.specs.Comparing.{Comparing, learn}
use Rattle.out_compare.specs.Held.{IsInOrder}
use Rattle.out_compare.proofs.compare.Compare.known.Goals as goal

pub invariant_of-self : goal.invariant_of-self
unfolding learn
invariant_of-self c = λ s. subst (λ (x : Comparing). IsInOrder x) (sym c.learn.ensures) (c.self.invariant s)
