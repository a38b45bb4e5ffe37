-- The image has a case of the loader.
use Rattle.command_inputs.specs.Machine.{read_machine}
use Rattle.command_inputs.specs.Reading.{image_refusal}
use Rattle.command_inputs.proofs.MachineLemmas.{image_bad}
use Rattle.command_inputs.proofs.TextLemmas.{refused}
use Rattle.command_inputs.proofs.machine.test_image.Goals as goal

pub returns-in-Err-clause-refused : goal.returns-in-Err-clause-refused
returns-in-Err-clause-refused c = λ disk.
    refused (read_machine c.args.mib c.args.image.now disk) c.image_refusal.result (image_refusal c.in-Err.fault.number)
    (image_bad c.args.mib c.args.image.now disk c.in-Err.fault.number c.in-Err.ensures.first_case)
    c.image_refusal.ensures.line c.image_refusal.ensures.own
