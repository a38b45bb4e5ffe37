-- The link couldn't be opened.
use Rattle.std.proofs.Common.{refl}
use Rattle.file_steps.proofs.LinkLemmas.{connected_fails}
use Rattle.file_steps.proofs.link.connect.Goals as goal

pub returns-in-Err-clause-fails : goal.returns-in-Err-clause-fails
returns-in-Err-clause-fails g c = λ out s k.
    connected_fails out s k (g.L.Link.state c.args.link.now) (g.L.Link.state c.open.new.self) c.open.ensures.goes_on
    c.args.address.now c.in-Err.ensures.err c.open.ensures.heard c.open.ensures.sent (c.in-Err.ensures.cause refl)
