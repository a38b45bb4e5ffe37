use Rattle.sock_link.proofs.HistoryLemmas.{tells_too_long, tells_boundary}
use Rattle.sock_link.proofs.law.tells_the_rest.Goals as goal

pub returns-clause-too_long : goal.returns-clause-too_long
returns-clause-too_long c = tells_too_long

pub returns-clause-boundary : goal.returns-clause-boundary
returns-clause-boundary c = tells_boundary
