use Rattle.theorem_shown.proofs.ShownLogs.{could_show, numbers_hold, survivor_goes_on}
use Rattle.theorem_shown.proofs.shown.one_number_shown.Goals as goal

pub returns-clause-could : goal.returns-clause-could
returns-clause-could c = could_show

pub returns-clause-goes_on : goal.returns-clause-goes_on
returns-clause-goes_on c = survivor_goes_on

pub returns-clause-numbers : goal.returns-clause-numbers
returns-clause-numbers c = numbers_hold
