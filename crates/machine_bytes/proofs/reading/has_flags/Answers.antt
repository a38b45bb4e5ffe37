use Rattle.machine_bytes.specs.Reading.{has_flags}
use Rattle.machine_bytes.proofs.reading.has_flags.Goals as goal

pub returns : goal.returns
unfolding has_flags
returns c = cc
