use Rattle.theorem_numbers.proofs.NumberLogs.{numbers_with_primary}
use Rattle.theorem_numbers.proofs.kept.numbers_with_primary.Goals as goal

pub returns : goal.returns
returns c = numbers_with_primary
