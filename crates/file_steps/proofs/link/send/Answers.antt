-- A part of the bytes was sent.
use Rattle.std.proofs.Common.{refl}
use Rattle.file_steps.proofs.LinkLemmas.{sent_fails}
use Rattle.file_steps.proofs.link.send.Goals as goal

pub returns-in-Err-clause-fails : goal.returns-in-Err-clause-fails
returns-in-Err-clause-fails g c = λ out s k.
    sent_fails out s k (g.L.Link.state c.args.link.now) (g.L.Link.state c.send.new.self) c.send.ensures.goes_on
    c.args.bytes.now c.send.ensures.opened c.send.ensures.heard c.in-Err.ensures.err (c.in-Err.ensures.cause refl)
