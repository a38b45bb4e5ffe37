use Rattle.sock_link.proofs.HistoryLemmas.{begins_stream, keeps_stream, gives_next}
use Rattle.sock_link.proofs.law.keeps_the_stream.Goals as goal

pub returns-clause-begins : goal.returns-clause-begins
returns-clause-begins c = begins_stream

pub returns-clause-keeps : goal.returns-clause-keeps
returns-clause-keeps c = keeps_stream

pub returns-clause-gives : goal.returns-clause-gives
returns-clause-gives c = gives_next
