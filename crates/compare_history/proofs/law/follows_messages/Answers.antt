use Rattle.compare_history.proofs.EventLemmas.{captures_the_past, hears_ack, hears_known, hears_sent}
use Rattle.compare_history.proofs.law.follows_messages.Goals as goal

pub returns-clause-known : goal.returns-clause-known
returns-clause-known c = hears_known

pub returns-clause-sent : goal.returns-clause-sent
returns-clause-sent c = hears_sent

pub returns-clause-acknowledged : goal.returns-clause-acknowledged
returns-clause-acknowledged c = hears_ack

pub returns-clause-captured : goal.returns-clause-captured
returns-clause-captured c = captures_the_past
