-- The receive failed.
use Rattle.std.proofs.Common.{refl, length}
use Rattle.file_steps.proofs.LinkLemmas.{heard_fails}
use Rattle.file_steps.proofs.link.hear.Goals as goal

pub returns-in-Err-clause-fails : goal.returns-in-Err-clause-fails
returns-in-Err-clause-fails g c = λ out s k.
    heard_fails out s k (g.L.Link.state c.args.link.now) (g.L.Link.state c.receive.new.self) c.receive.ensures.goes_on
    (length c.receive.new.into) c.receive.ensures.opened c.in-Err.ensures.err c.receive.ensures.sent
    (c.in-Err.ensures.cause refl)
