-- The image was tested, then the disk, and the machine was booted.
use Rattle.std.proofs.lemmas.Result.{err_from_is_err_and}
use Rattle.command_inputs.specs.Machine.{read_disk, read_machine}
use Rattle.command_inputs.proofs.MachineLemmas.{machine_bad, machine_from}
use Rattle.command_inputs.proofs.TextLemmas.{fails_first}
use Rattle.command_inputs.proofs.machine.read_machine.Goals as goal

pub returns-in_err-test_image-clause-refused : goal.returns-in_err-test_image-clause-refused
returns-in_err-test_image-clause-refused c =
    let p = err_from_is_err_and c.from_residual.result c.from_residual.ensures.1 in
    rw (p.1, p.2) (c.in_err-test_image.ensures.refused c.args.disk.now)

pub returns-in_err-whole-clause-refused : goal.returns-in_err-whole-clause-refused
returns-in_err-whole-clause-refused c =
    let p = err_from_is_err_and c.from_residual-in_err-whole.result c.from_residual-in_err-whole.ensures.1 in
    let disk = c.args.disk.now in
    rw (p.1, p.2)
    (fails_first (read_disk disk) (read_machine c.args.mib c.args.image.now disk)
    (λ r e. machine_bad c.args.mib c.args.image.now disk r c.in_ok-test_image.ensures.good e)
    c.in_err-whole.field-0.0 c.in_err-whole.ensures.refused)

pub returns-in-Ok-clause-read : goal.returns-in-Ok-clause-read
returns-in-Ok-clause-read c =
    machine_from c.args.mib c.args.image.now c.args.disk.now c.in_ok-whole.whole c.in-Ok.machine
    c.in_ok-whole.ensures.read c.in-Ok.ensures.ok c.in-Ok.ensures.turned
