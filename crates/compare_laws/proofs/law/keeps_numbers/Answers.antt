-- The other node is known to have what it was said or acknowledged to have.
use Rattle.compare_laws.proofs.NumberLemmas.{knows_numbers}
use Rattle.compare_laws.proofs.law.keeps_numbers.Goals as goal

pub returns-clause-known : goal.returns-clause-known
returns-clause-known c = knows_numbers
