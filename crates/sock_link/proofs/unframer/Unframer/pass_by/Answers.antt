use Rattle.std.proofs.Common.{ap, ◌∙◌}
use Rattle.sock_link.specs.Stream.{is_too_long}
use Rattle.sock_link.specs.Holding.{unframed_of}
use Rattle.sock_link.proofs.HoldingLemmas.{passes_by}
use Rattle.sock_link.proofs.unframer.Unframer.pass_by.Goals as goal

pub returns-clause-feeds : goal.returns-clause-feeds
returns-clause-feeds c =
    rw (← c.self.view_is) (passes_by (unframed_of c.self.inside) c.args.piece.now c.self.invariant.part_is (ap
    (λ u. is_too_long u.part) c.self.view_is ∙ c.requires.stuck))
