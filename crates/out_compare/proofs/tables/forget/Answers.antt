-- The closure keeps what is another incarnation.
use Rattle.std.proofs.Common.{rules}
use Rattle.std.proofs.lemmas.Fn.{filter_same}
use Rattle.out_compare.proofs.tables.forget.Goals as goal

pub returns : goal.returns
returns c = filter_same _ _ _ (λ x b g call. search rules) _ _ c.retain.ensures.filtered
