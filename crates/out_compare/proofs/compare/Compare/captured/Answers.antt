-- Lines and progress stay.
use Rattle.std.proofs.Common.{◌≡◌, sym, subst}
use Rattle.out_compare.specs.Comparing.{Comparing, capture}
use Rattle.out_compare.specs.Held.{IsInOrder}
use Rattle.out_compare.proofs.compare.Compare.captured.Goals as goal

pub invariant_of-self : goal.invariant_of-self
unfolding capture
invariant_of-self c = λ s. subst (λ (x : Comparing). IsInOrder x) (sym c.capture.ensures) (c.self.invariant s)
