use Rattle.sock_link.proofs.HistoryLemmas.{reads_back, adds_record}
use Rattle.sock_link.proofs.law.reads_back.Goals as goal

pub returns-clause-reads : goal.returns-clause-reads
returns-clause-reads c = reads_back

pub returns-clause-adds : goal.returns-clause-adds
returns-clause-adds c = adds_record
