-- Bytes that are accepted are few.
use Rattle.std.proofs.Common.{sym, ◌∙◌}
use Rattle.guest_machine.proofs.StateLemmas.{accepted_len}
use Rattle.guest_machine.proofs.machine.MachineGuest.accepts.Goals as goal

pub returns-clause-size : goal.returns-clause-size
returns-clause-size g c =
    λ h. accepted_len c.args.state.now (sym c.read.ensures.accepted ∙ (sym c.is_some.ensures ∙ h))
