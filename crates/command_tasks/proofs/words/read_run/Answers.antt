-- The options give memory of an allowed size.
use Rattle.command_tasks.proofs.WordLemmas.{ram_there}
use Rattle.command_tasks.proofs.words.read_run.Goals as goal

pub returns-clause-ram : goal.returns-clause-ram
returns-clause-ram c = ram_there c.in_ok-read_options.field-0 c.in_ok-read_options.ensures.range
