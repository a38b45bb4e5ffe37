use Rattle.theorem_survivor.proofs.SurvivorLogs.{splices_hold, survivor_numbers_hold}
use Rattle.theorem_survivor.proofs.survivor.survivor_numbers.Goals as goal

pub returns-clause-numbers : goal.returns-clause-numbers
returns-clause-numbers c = survivor_numbers_hold

pub returns-clause-splices : goal.returns-clause-splices
returns-clause-splices c = splices_hold
