-- What is kept of a frame is accepted as it is.
use Rattle.std.proofs.Common.{sym, arith}
use Rattle.node_release.proofs.GateLemmas.{entry_is_clean}
use Rattle.node_release.proofs.gate.read.Goals as goal

pub returns-clause-clean : goal.returns-clause-clean
returns-clause-clean c =
    entry_is_clean c.args.frame.now c.in_ok-entry.entry (λ i. omega (arith, c.type_inv.frame i))
    (sym c.in_ok-entry.ensures)
