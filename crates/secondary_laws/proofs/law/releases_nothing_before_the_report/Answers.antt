-- By cases of the calls.
use Rattle.secondary_laws.proofs.CallLemmas.{releases_nothing}
use Rattle.secondary_laws.proofs.law.releases_nothing_before_the_report.Goals as goal

pub returns : goal.returns
returns c = releases_nothing
