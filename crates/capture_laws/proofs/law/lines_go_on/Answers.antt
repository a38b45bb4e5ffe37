use Rattle.capture_laws.proofs.RegularLemmas.{begins_regular, commits_regularly, keeps_regularly, takes_regularly, trims_regularly}
use Rattle.capture_laws.proofs.law.lines_go_on.Goals as goal

pub returns-clause-begins : goal.returns-clause-begins
returns-clause-begins c = begins_regular

pub returns-clause-takes : goal.returns-clause-takes
returns-clause-takes c = takes_regularly

pub returns-clause-trims : goal.returns-clause-trims
returns-clause-trims c = trims_regularly

pub returns-clause-commits : goal.returns-clause-commits
returns-clause-commits c = commits_regularly

pub returns-clause-keeps : goal.returns-clause-keeps
returns-clause-keeps c = keeps_regularly
