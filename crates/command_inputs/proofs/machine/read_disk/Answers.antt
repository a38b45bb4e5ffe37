use Rattle.command_inputs.proofs.MachineLemmas.{disk_read}
use Rattle.command_inputs.proofs.machine.read_disk.Goals as goal

pub returns-in-Ok-clause-read : goal.returns-in-Ok-clause-read
returns-in-Ok-clause-read c =
    disk_read c.new.result c.in-Ok.whole c.args.disk.now c.in-Ok.is c.new.ensures.length c.in-Ok.ensures.sectors
