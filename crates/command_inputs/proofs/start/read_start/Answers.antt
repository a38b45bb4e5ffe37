-- The machine was read, and then the frames.
use Rattle.std.proofs.lemmas.Result.{err_from_is_err_and}
use Rattle.guest_machine.specs.Guest.{machine_meaning}
use Rattle.command_inputs.specs.Client.{read_client}
use Rattle.command_inputs.specs.Machine.{read_machine}
use Rattle.command_inputs.specs.Start.{read_start}
use Rattle.command_inputs.proofs.StartLemmas.{start_first, start_second, start_whole}
use Rattle.command_inputs.proofs.TextLemmas.{fails_first}
use Rattle.command_inputs.proofs.start.read_start.Goals as goal

pub returns-in_err-machine-clause-refused : goal.returns-in_err-machine-clause-refused
returns-in_err-machine-clause-refused c =
    let p = err_from_is_err_and c.from_residual.result c.from_residual.ensures.1 in
    let mib = c.args.mib in
    let image = c.args.image.now in
    let disk = c.args.disk.now in
    let client = c.args.client.now in
    rw (p.1, p.2)
    (fails_first (read_machine mib image disk) (read_start mib image disk client)
    (λ r e. start_first mib image disk client r e) c.in_err-machine.field-0.0 c.in_err-machine.ensures.refused)

pub returns-in_err-frames-clause-refused : goal.returns-in_err-frames-clause-refused
returns-in_err-frames-clause-refused c =
    let p = err_from_is_err_and c.from_residual-in_err-frames.result c.from_residual-in_err-frames.ensures.1 in
    let mib = c.args.mib in
    let image = c.args.image.now in
    let disk = c.args.disk.now in
    let client = c.args.client.now in
    let machine = machine_meaning c.in_ok-machine.machine in
    rw (p.1, p.2)
    (fails_first (read_client client) (read_start mib image disk client)
    (λ r e. start_second mib image disk client machine r c.in_ok-machine.ensures.read e)
    c.in_err-frames.field-0.0 c.in_err-frames.ensures.refused)

pub returns-clause-read : goal.returns-clause-read
returns-clause-read c =
    start_whole c.args.mib c.args.image.now c.args.disk.now c.args.client.now (machine_meaning c.in_ok-machine.machine)
    c.in_ok-frames.frames c.in_ok-machine.ensures.read c.in_ok-frames.ensures.read
