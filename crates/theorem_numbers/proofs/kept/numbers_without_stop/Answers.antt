use Rattle.theorem_numbers.proofs.NumberLogs.{numbers_without_stop}
use Rattle.theorem_numbers.proofs.kept.numbers_without_stop.Goals as goal

pub returns : goal.returns
returns c = numbers_without_stop
