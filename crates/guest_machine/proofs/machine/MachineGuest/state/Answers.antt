-- The bytes are those of the machine's values.
use Rattle.std.proofs.Common.{◌≡◌, ◌≤◌, ◌++◌, ℕ, length, List, true, ap, subst, ◌∙◌}
use Rattle.machine_bytes.specs.Reading.{accepts}
use Rattle.machine_bytes.specs.Spelling.{bytes_of}
use Rattle.guest_machine.proofs.StateLemmas.{accepted_len}
use Rattle.guest_machine.specs.Guest.{guest_state}
use Rattle.guest_machine.proofs.machine.MachineGuest.state.Goals as goal

pub returns-clause-bytes : goal.returns-clause-bytes
unfolding guest_state
returns-clause-bytes g c =
    let value = c.to_bytes-bytes.ensures.value ∙ ap bytes_of c.fields.ensures.value in
    c.in_ok-extend_from_slice.ensures.items ∙ ap (λ (b : List ℕ). c.args.into.now.items ++ b) value

pub returns-clause-accepted : goal.returns-clause-accepted
unfolding guest_state
returns-clause-accepted g c =
    let value = c.to_bytes-bytes.ensures.value ∙ ap bytes_of c.fields.ensures.value in
    subst (λ (b : List ℕ). accepts b ≡ true) value c.to_bytes-bytes.ensures.accepted

pub returns-clause-size : goal.returns-clause-size
unfolding guest_state
returns-clause-size g c =
    let value = c.to_bytes-bytes.ensures.value ∙ ap bytes_of c.fields.ensures.value in
    subst (λ (b : List ℕ). length b ≤ 16777216) value
    (accepted_len c.to_bytes-bytes.result c.to_bytes-bytes.ensures.accepted)
