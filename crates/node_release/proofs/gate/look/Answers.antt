-- Nothing is trimmed where no opening was seen.
use Rattle.std.proofs.Common.{Some, sym, ◌∙◌}
use Rattle.node_release.proofs.GateLemmas.{nothing_trimmed}
use Rattle.node_release.proofs.gate.look.Goals as goal

pub returns-in-Tcp-clause-untrimmed : goal.returns-in-Tcp-clause-untrimmed
returns-in-Tcp-clause-untrimmed c e =
    c.client.ensures.trim
    ∙ nothing_trimmed c.args.compare.now.comparing (Some c.in-Tcp.view) (sym c.client.ensures.seen ∙ e)
