use Rattle.rv_forms.proofs.NameLemmas.{name_again, name_found}
use Rattle.rv_forms.proofs.laws.names_are_read.Goals as goal

pub returns-clause-row : goal.returns-clause-row
returns-clause-row c = λ text n e. (name_found text n e).row

pub returns-clause-written : goal.returns-clause-written
returns-clause-written c = λ text n e. (name_found text n e).written

pub returns-clause-read : goal.returns-clause-read
returns-clause-read c = λ m aq rl row order. name_again m aq rl row order
